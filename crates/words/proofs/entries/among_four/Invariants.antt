-- `words::entries::among_four` meets its contract. The loop's invariant: none of the first k entries has the logical page.
use Prim.Native.Nat.{ℕ, ◌+◌, ◌<◌}
use mathlib.Core.Path.{◌≡◌}
use mathlib.Core.Bool.{false}
use lib.Dec.{eqb}
use Rattle.scope.specs.Lent.{logical_at}
use Rattle.words.proofs.entries.among_four.Given as goal

abbrev pub invariant-loop-k : goal.invariant-loop-k
invariant-loop-k l = (j : ℕ) → j < l.k → eqb (logical_at (l.i + j) l.cache) l.l ≡ false
