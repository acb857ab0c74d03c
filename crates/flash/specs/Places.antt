-- Where pages and blocks lie: a page is in one block and in one region, and a block's pages are in the block's region.
use Rattle.std.specs.Prelude.{ℕ, ◌+◌, ◌*◌, ◌/◌, ◌%◌, ◌≤◌, ◌<◌, ◌≡◌, ◌≢◌, ◌⊎◌}
use Rattle.std.proofs.Common.{sym, ap, inl, inr, mul-le-mul_left, mul-le-mul_right, div-add-mod', mod-lt, arith}
use Rattle.scope.specs.Geometry.{Geometry, blocks, pages}
use Rattle.scope.specs.Regions.{Region, Data, Translation, first_block, region_blocks, page_in, HasBlock, HasPage}
use Rattle.flash.specs.Cases.{below?}
use Rattle.flash.specs.Stores.{slot_below, slot_same}
use Rattle.flash.specs.Moments.{Outside}

-- ---- regions

-- A region's blocks and pages are the chip's.
pub block_on_chip : (g : Geometry) (r : Region) (b : ℕ) → HasBlock g r b → b < blocks g
block_on_chip g Data b h = omega arith
block_on_chip g Translation b h = omega arith

pub page_on_chip : (g : Geometry) (r : Region) (p : ℕ) → HasPage g r p → p < pages g
page_on_chip g Data p h = omega arith
page_on_chip g Translation p h = omega arith

-- The other region.
abbrev pub other : Region → Region
other Data = Translation
other Translation = Data

-- Each block of the chip is in a region, and so is each page; none is in both.
pub block_region : (g : Geometry) (b : ℕ) → b < blocks g → HasBlock g Data b ⊎ HasBlock g Translation b
block_region g b h = below? b g.D (λ k. inl (omega arith)) (λ k. inr (omega arith))

pub page_region : (g : Geometry) (p : ℕ) → p < pages g → HasPage g Data p ⊎ HasPage g Translation p
page_region g p h = below? p (g.D * g.P) (λ k. inl (omega arith)) (λ k. inr (omega arith))

pub block_other : (g : Geometry) (r : Region) (b c : ℕ) → HasBlock g r b → HasBlock g (other r) c → b ≢ c
block_other g Data b c h k = omega arith
block_other g Translation b c h k = omega arith

pub page_other : (g : Geometry) (r : Region) (p q : ℕ) → HasPage g r p → HasPage g (other r) q → p ≢ q
page_other g Data p q h k = omega arith
page_other g Translation p q h k = omega arith

-- ---- blocks

-- The pages of a block of the region are pages of the region, and the other way round.
pub page_in_region : (g : Geometry) (r : Region) (b i : ℕ) → HasBlock g r b → i < g.P → HasPage g r (page_in g b i)
page_in_region g r b i h k =
    let low : first_block g r * g.P ≤ b * g.P = mul-le-mul_right g.P h.0 in
    let end : ℕ = first_block g r + region_blocks g r in
    let high : b * g.P + i < end * g.P = slot_below g.P end b i h.1 k in
    (omega arith, omega arith)

pub block_of_page : (g : Geometry) (r : Region) (b i : ℕ) → i < g.P → HasPage g r (page_in g b i) → HasBlock g r b
block_of_page g r b i k h = (
  below? b (first_block g r) (λ l. omega (arith, mul-le-mul_right g.P l)) (λ l. l),
  below? b (first_block g r + region_blocks g r) (λ l. l) (λ l. omega (arith, mul-le-mul_right g.P l)),
)

-- A page lies in block p / P, at p % P; for a page of the region it is a block of the region.
pub record InBlock (g : Geometry) (r : Region) (p : ℕ) : Type 0 where
  pub has_block : HasBlock g r (p / g.P)
  pub below_P : p % g.P < g.P
  pub is_page : p ≡ page_in g (p / g.P) (p % g.P)

pub in_block : (g : Geometry) (r : Region) (p : ℕ) → HasPage g r p → InBlock g r p
in_block g r p h =
    let is : page_in g (p / g.P) (p % g.P) ≡ p = div-add-mod' p g.P in
    let some_pages : 0 < g.P =
    below? 0 g.P (λ l. l) (λ l. absurd (omega (arith, mul-le-mul_left (region_blocks g r) l))) in
    let below : p % g.P < g.P = mod-lt p some_pages in
    record {
      has_block = block_of_page g r (p / g.P) (p % g.P) below (rw is h);
      below_P = below;
      is_page = sym is;
    }

-- One page is in one block, at one place.
pub page_in_same : (g : Geometry) (b c i j : ℕ) → i < g.P → j < g.P → page_in g b i ≡ page_in g c j → (b ≡ c) × (i ≡ j)
page_in_same g b c i j h k e =
    let same : b ≡ c = slot_same g.P b c i j h k e in
    (same, omega (arith, ap (λ (x : ℕ). x * g.P) same))

-- A page of another block, and one of the other region, is outside of the block.
pub outside_block : (g : Geometry) (b c i : ℕ) → i < g.P → c ≢ b → Outside g b (page_in g c i)
outside_block g b c i h ne j k e = ne (page_in_same g c b i j h k e).0

pub outside_region : (g : Geometry) (r : Region) (b q : ℕ) → HasBlock g r b → HasPage g (other r) q → Outside g b q
outside_region g r b q h k j l e = page_other g r (page_in g b j) q (page_in_region g r b j h l) k (sym e)
