-- `counting::put_counts` meets its contract.
use borrow.Author.Tests.{eq-eqb, ne_eqb}
use Rattle.replies.specs.Answers.{set_three}
use Rattle.replies.proofs.counting.put_counts.Goals as goal

pub returns-then-counts-ne-COUNTS_WORDS : goal.returns-then-counts-ne-COUNTS_WORDS
returns-then-counts-ne-COUNTS_WORDS c = simp (ne_eqb _ _ c.if-counts-ne-COUNTS_WORDS.true)

pub returns : goal.returns
returns c = simp (eq-eqb _ _ c.if-counts-ne-COUNTS_WORDS.false) (set_three c.args.counts.now c.if-counts-ne-COUNTS_WORDS.false)
