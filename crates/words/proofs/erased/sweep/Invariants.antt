-- `erased::sweep` meets its contract. The loop's invariant: what is left are the bits that `bits` and the first i of the words have in
-- common.
use Rattle.words.specs.Erased.{Swept}
use Rattle.words.proofs.erased.sweep.Given as goal

abbrev pub invariant-loop-i : goal.invariant-loop-i
invariant-loop-i l = Swept l.words l.at l.bits l.i l.left
