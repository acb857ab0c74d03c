-- What laws and leaves ask of a geometry: not that it is accepted, which speaks of both regions, but the rows of 01's table that bound pages
-- and blocks, and those of one region. So they hold too of a chip that is the data region alone, as of a geometry with no translation block.
use Rattle.std.specs.Prelude.{◌+◌, ◌-◌, ◌*◌, ◌≤◌}
use Rattle.std.proofs.Common.{add-mul, mul-le-mul, mul-le-mul_right, arith}
use Rattle.scope.specs.Geometry.{Geometry, Accepted, most_pages_in_block, most_blocks, most_pages, blocks, pages}
use Rattle.scope.specs.Regions.{Region, Data, Translation, region_blocks, owners, first_page, region_pages}

-- The rows of P and W, and the upper bound of D+T.
pub record Bounded (g : Geometry) : Type 0 where
  pub P_from : 1 ≤ g.P
  pub P_to : g.P ≤ most_pages_in_block
  pub W_from : 1 ≤ g.W
  pub W_to : g.W ≤ 512
  pub blocks_to : blocks g ≤ most_blocks

-- The rows of a region's blocks and owners.
pub record RegionBounded (g : Geometry) (r : Region) : Type 0 where
  pub bounded : Bounded g
  pub blocks_from : 2 ≤ region_blocks g r
  pub owners_from : 1 ≤ owners g r
  pub owners_to : owners g r ≤ (region_blocks g r - 1) * g.P - 1

-- An accepted geometry has them all.
pub accepted_bounded : {g : Geometry} → Accepted g → Bounded g
accepted_bounded ok = record { P_from = ok.P_from; P_to = ok.P_to; W_from = ok.W_from; W_to = ok.W_to; blocks_to = ok.D+T_to }

pub accepted_region : {g : Geometry} → Accepted g → (r : Region) → RegionBounded g r
accepted_region ok Data =
    record { bounded = accepted_bounded ok; blocks_from = ok.D_from; owners_from = ok.L_from; owners_to = ok.L_to }
accepted_region ok Translation =
    record { bounded = accepted_bounded ok; blocks_from = ok.T_from; owners_from = ok.M_from; owners_to = ok.M_to }

-- So the chip has few pages, those of a region among them, and the region has few owners.
pub few_pages : {g : Geometry} → Bounded g → pages g ≤ most_pages
few_pages {g} bounded =
    mul-le-mul {n₁ = blocks g} {m₁ = g.P} {n₂ = most_blocks} {m₂ = most_pages_in_block} bounded.blocks_to bounded.P_to

pub region_few : {g : Geometry} → Bounded g → (r : Region) → first_page g r + region_pages g r ≤ most_pages
region_few {g} bounded Data = omega (arith, few_pages bounded, add-mul g.D g.T g.P)
region_few {g} bounded Translation = omega (arith, few_pages bounded, add-mul g.D g.T g.P)

pub owners_few : {g : Geometry} {r : Region} → RegionBounded g r → owners g r ≤ most_pages
owners_few {g} {r} bounds =
    let fewer = mul-le-mul_right {m = region_blocks g r - 1} {n = region_blocks g r} g.P (omega arith) in
    omega (arith, fewer, bounds.owners_to, region_few bounds.bounded r)
