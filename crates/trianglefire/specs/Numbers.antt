-- The geometry as C hands it over.
use Rattle.std.specs.Prelude.{ℕ}
use Rattle.scope.specs.Geometry.{Geometry}

-- Its six numbers, in that order.
abbrev pub geometry_of : ℕ → ℕ → ℕ → ℕ → ℕ → ℕ → Geometry
geometry_of p w d t l c = record { P = p; W = w; D = d; T = t; L = l; C = c }
