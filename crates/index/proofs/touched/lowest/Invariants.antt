-- `index::touched::lowest` meets its contract: the lowest of those passed.
use Rattle.lent.specs.declared.Geometry.{Geometry}
use Rattle.lent.specs.Model.{geometry}
use Rattle.copying.specs.Moves.{first_moves}
use Rattle.index.specs.Moves.{WaitsIn}
use Rattle.index.specs.Taking.{Lowest}
use Rattle.index.proofs.touched.lowest.Given as goal

abbrev pub invariant-loop-i : goal.invariant-loop-i
invariant-loop-i l = (g : Geometry) → WaitsIn (geometry g) l.n l.waiting → Lowest (geometry g) (first_moves l.i l.waiting) l.m l.best
