-- `part::Part::tally` meets its contract: the words before i are counted.
use Prim.Native.Nat.{◌-◌, ◌≤◌}
use lib.ListN.{length}
use Rattle.mapping.specs.Tally.{nothing, Tallied, word_none}
use Rattle.mapping.specs.Part.{good}
use Rattle.mapping.proofs.part.Part.tally.Given as goal

abbrev pub invariant-loop-i : goal.invariant-loop-i
invariant-loop-i l = (l.i ≤ length l.part.words.now) × Tallied nothing l.sum l.i (word_none l.part.words.now) (good l.part)

abbrev pub decreases-loop-i : goal.decreases-loop-i
decreases-loop-i l = length l.part.words.now - l.i
