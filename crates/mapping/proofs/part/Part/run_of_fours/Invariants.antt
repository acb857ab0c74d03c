-- `part::Part::run_of_fours` meets its contract: the words from i to `at` are counted, and all name pages.
use Prim.Native.Nat.{◌-◌}
use lib.ListN.{length}
use Rattle.mapping.specs.Tally.{RunCounted, word_none}
use Rattle.mapping.specs.Part.{good}
use Rattle.mapping.proofs.part.Part.run_of_fours.Given as goal

abbrev pub invariant-loop-at : goal.invariant-loop-at
invariant-loop-at l = RunCounted l.i l.at (length l.self.words.now) (word_none l.self.words.now) 0 (good l.self) l.found

abbrev pub decreases-loop-at : goal.decreases-loop-at
decreases-loop-at l = length l.self.words.now - l.at
