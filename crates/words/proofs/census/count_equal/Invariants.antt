-- `words::census::count_equal` meets its contract. The invariant: k of the first i numbers are x.
use Prim.Native.Nat.{◌+◌}
use mathlib.Core.Path.{◌≡◌}
use lib.Dec.{eqb}
use lib.ListN.{get_or}
use Rattle.scope.specs.Counting.{count}
use Rattle.words.proofs.census.count_equal.Given as goal

abbrev pub invariant-loop-i : goal.invariant-loop-i
invariant-loop-i l = l.k ≡ count l.i (λ j. eqb (get_or l.census (l.first + j) 0) l.x)
