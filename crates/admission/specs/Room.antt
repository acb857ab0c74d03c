-- Room in the counts: what a request costs is small, and so is what all requests of a run cost together.
use Rattle.std.specs.Prelude.{ℕ, ◌+◌, ◌*◌, ◌≤◌, ◌≡◌}
use Rattle.std.proofs.Common.{arith, mul-le-mul}
use Rattle.scope.specs.Geometry.{Geometry, Accepted}
use Rattle.scope.specs.Lent.{most_requests}
use Rattle.scope.specs.Operations.{no_counts}
use Rattle.promises.specs.Bounds.{read_bound, write_bound}
use Rattle.lent.specs.declared.Counts.{Counts as Counted}
use Rattle.lent.specs.Model.{counts}
use Rattle.lent.specs.Shapes.{RoomToCount, told}

-- The most that a request costs on any chip.
abbrev pub most_cost : ℕ
most_cost = 8385

-- A call begins with nothing counted: there is room for as many requests as a run may have.
pub room_at_first : {n : ℕ} {c : Counted} → n ≤ most_requests * most_cost → counts c ≡ no_counts → RoomToCount n c
room_at_first h e = omega (arith, told e)

module _ {g : Geometry} (ok : Accepted g) where
  pub write_few : write_bound g ≤ most_cost
  write_few = mul-le-mul {n₁ = 2 * g.P + 1} {m₁ = g.P + 1} {n₂ = 129} {m₂ = 65} (omega (arith, ok.P_to)) (omega (arith, ok.P_to))

  pub read_few : read_bound g ≤ most_cost
  read_few = omega (arith, ok.P_to)
