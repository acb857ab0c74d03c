-- 01, "Geometry": the six numbers, which of them are accepted, and what they derive.
-- Numbers are unbounded here, so that no product wraps, also where the geometry is refused.
use Rattle.std.specs.Prelude.{ℕ, ◌+◌, ◌*◌, ◌-◌, ◌/◌, ◌≤◌, Bool, ◌&&◌, leb}

-- "P pages in a block, W 32-bit words in a page, D data blocks, T translation blocks, L logical pages, C cache entries."
pub record Geometry : Type 0 where
  pub P : ℕ
  pub W : ℕ
  pub D : ℕ
  pub T : ℕ
  pub L : ℕ
  pub C : ℕ

-- "M is L/W rounded up": the number of translation pages.
abbrev pub M : Geometry → ℕ
M g = (g.L + (g.W - 1)) / g.W

-- The most pages in a block, of blocks, and so of pages on a chip: the bounds that a larger chip would raise.
abbrev pub most_pages_in_block : ℕ
most_pages_in_block = 64

abbrev pub most_blocks : ℕ
most_blocks = 1024

abbrev pub most_pages : ℕ
most_pages = most_blocks * most_pages_in_block

-- "Accepted exactly when": the table, a row a pair of fields.
pub record Accepted (g : Geometry) : Type 0 where
  pub P_from : 1 ≤ g.P
  pub P_to : g.P ≤ most_pages_in_block
  pub W_from : 1 ≤ g.W
  pub W_to : g.W ≤ 512
  pub D_from : 2 ≤ g.D
  pub T_from : 2 ≤ g.T
  pub D+T_to : g.D + g.T ≤ most_blocks
  pub L_from : 1 ≤ g.L
  pub L_to : g.L ≤ (g.D - 1) * g.P - 1
  pub M_from : 1 ≤ M g
  pub M_to : M g ≤ (g.T - 1) * g.P - 1
  pub C_from : 1 ≤ g.C
  pub C_to : g.C ≤ 4096

-- The same as a decision, a row of the table a line.
abbrev pub within : ℕ → ℕ → ℕ → Bool
within from x to = leb from x && leb x to

unfoldable pub accepted : Geometry → Bool
accepted g =
    within 1 g.P most_pages_in_block
    && within 1 g.W 512
    && (leb 2 g.D && leb 2 g.T && leb (g.D + g.T) most_blocks)
    && within 1 g.L ((g.D - 1) * g.P - 1)
    && within 1 (M g) ((g.T - 1) * g.P - 1)
    && within 1 g.C 4096

-- The blocks and the pages of the whole chip.
abbrev pub blocks : Geometry → ℕ
blocks g = g.D + g.T

abbrev pub pages : Geometry → ℕ
pages g = blocks g * g.P
