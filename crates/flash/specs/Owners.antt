-- What rule 1 says of the owners of a region's valid pages, and how many of its pages are valid: the tests of rules 1 and 3 leave both to
-- those of the map.
use Rattle.std.specs.Prelude.{ℕ, ◌+◌, ◌<◌, ◌≡◌, List}
use Rattle.std.proofs.Common.{arith}
use Rattle.scope.specs.Counting.{count}
use Rattle.scope.specs.Geometry.{Geometry}
use Rattle.scope.specs.Lent.{valid, state_of, owner_of, is_valid}
use Rattle.scope.specs.Regions.{Region, owners, first_page, region_pages, HasPage}
use Rattle.scope.specs.Sound.{PagesFit}

abbrev pub OwnersFit : Geometry → Region → List ℕ → Type 0
OwnersFit g r spare = (p : ℕ) → HasPage g r p → state_of p spare ≡ valid → owner_of p spare < owners g r

pub owners_fit : (g : Geometry) (r : Region) (chip spare : List ℕ) → PagesFit g r chip spare → OwnersFit g r spare
owners_fit g r chip spare fit p h v = (fit p h).owned (λ e. omega arith)

abbrev pub valid_in : Geometry → Region → List ℕ → ℕ
valid_in g r spare = count (region_pages g r) (λ i. is_valid (first_page g r + i) spare)
