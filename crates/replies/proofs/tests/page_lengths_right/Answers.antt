-- `tests::page_lengths_right` meets its contract.
use mathlib.Core.Path.{◌∙◌}
use Rattle.replies.specs.Sizes.{size_wrong, size_right}
use Rattle.replies.proofs.tests.page_lengths_right.Goals as goal

pub returns-then-buffer-g : goal.returns-then-buffer-g
returns-then-buffer-g c = size_wrong _ c.if-buffer-g.true

pub returns : goal.returns
returns c = c.lengths_right.ensures ∙ size_right _ c.if-buffer-g.false
