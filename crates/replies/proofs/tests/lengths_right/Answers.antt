-- `tests::lengths_right` meets its contract.
use mathlib.Core.Path.{◌∙◌}
use Rattle.scope.specs.Boundary.{counts_words}
use Rattle.replies.specs.Sizes.{size_wrong, size_right, last_size}
use Rattle.replies.proofs.tests.lengths_right.Goals as goal

pub returns-then-record_words-ne-RECORD_WORDS : goal.returns-then-record_words-ne-RECORD_WORDS
returns-then-record_words-ne-RECORD_WORDS c = size_wrong _ c.if-record_words-ne-RECORD_WORDS.true

pub returns : goal.returns
returns c = last_size c.args.counts counts_words ∙ size_right _ c.if-record_words-ne-RECORD_WORDS.false
