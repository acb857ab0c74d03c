-- 01, "What the library covers" and "What is lent": the two regions of the chip, their blocks, their pages and their owners.
use Rattle.std.specs.Prelude.{ℕ, ◌+◌, ◌*◌, ◌≤◌, ◌<◌}
use Rattle.scope.specs.Geometry.{Geometry, M}

-- "Here each kind has its own region." "Data blocks come first."
pub data Region : Type 0 where
  Data : Region
  Translation : Region

abbrev pub first_block : Geometry → Region → ℕ
first_block g Data = 0
first_block g Translation = g.D

abbrev pub region_blocks : Geometry → Region → ℕ
region_blocks g Data = g.D
region_blocks g Translation = g.T

-- "Owner is a logical page (data) or a translation page number (translation)": below L or M.
abbrev pub owners : Geometry → Region → ℕ
owners g Data = g.L
owners g Translation = M g

-- "Block b has pages b·P to b·P+P-1."
abbrev pub page_in : Geometry → ℕ → ℕ → ℕ
page_in g b i = b * g.P + i

-- A block of the region; a page of the region.
abbrev pub HasBlock : Geometry → Region → ℕ → Type 0
HasBlock g r b = (first_block g r ≤ b) × (b < first_block g r + region_blocks g r)

abbrev pub first_page : Geometry → Region → ℕ
first_page g r = first_block g r * g.P

abbrev pub region_pages : Geometry → Region → ℕ
region_pages g r = region_blocks g r * g.P

abbrev pub HasPage : Geometry → Region → ℕ → Type 0
HasPage g r p = (first_page g r ≤ p) × (p < first_page g r + region_pages g r)
