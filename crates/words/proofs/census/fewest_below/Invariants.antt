-- `words::census::fewest_below` meets its contract. The invariant: the best of the first i numbers.
use Prim.Native.Nat.{ℕ, ◌+◌}
use mathlib.Core.List.{List}
use lib.ListN.{get_or}
use Rattle.words.specs.Searches.{BestSoFar}
use Rattle.words.proofs.census.fewest_below.Given as goal

abbrev pub sizes : List ℕ → ℕ → ℕ → ℕ
sizes census first i = get_or census (first + i) 0

abbrev pub invariant-loop-i : goal.invariant-loop-i
invariant-loop-i l = BestSoFar (sizes l.census l.first) l.limit l.n l.i l.best.at l.best.size
