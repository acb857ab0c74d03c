-- `part::Part::run_of_places` meets its contract: the words from i to `at` are counted, and all name pages, as far as fours did.
use lib.ListN.{length}
use Rattle.mapping.specs.Tally.{RunCounted, word_none}
use Rattle.mapping.specs.Part.{good}
use Rattle.mapping.proofs.part.Part.run_of_places.Given as goal

abbrev pub invariant-loop-at : goal.invariant-loop-at
invariant-loop-at l = RunCounted l.fn.i l.at (length l.self.words.now) (word_none l.self.words.now) 0 (good l.self) l.found
