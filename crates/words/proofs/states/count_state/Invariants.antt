-- `words::states::count_state` meets its contract. The invariant: k pages of the first i have the state.
use Prim.Native.Nat.{◌+◌}
use mathlib.Core.Path.{◌≡◌}
use lib.Dec.{eqb}
use Rattle.scope.specs.Counting.{count}
use Rattle.scope.specs.Lent.{state_of}
use Rattle.words.proofs.states.count_state.Given as goal

abbrev pub invariant-loop-i : goal.invariant-loop-i
invariant-loop-i l = l.k ≡ count l.i (λ j. eqb (state_of (l.first + j) l.spare) l.state)
