-- Rules 1 and 3 of the n blocks of P pages from block `first` on, in one walk over the blocks, which counts the valid pages on its way.
-- Nothing is asked of the slices but that they reach as far as these blocks.
use Rattle.std.specs.Prelude.{ℕ, ◌+◌, ◌*◌, ◌≤◌, ◌<◌, ◌≡◌, Bool, true, false, ◌&&◌, ◌||◌, List, Option, Some, None, MatchOption, eqb, length}
use Rattle.std.proofs.Common.{sym, ap, ◌∙◌, add-mul, zero-mul, suc-mul, mul-le-mul_right, add-one, arith}
use Rattle.scope.specs.Counting.{all, count}
use Rattle.scope.specs.Geometry.{Geometry, blocks}
use Rattle.scope.proofs.Decided.{pages_fit_decided, blocks_fit_decided}
use Rattle.scope.specs.Laws.Decides.{Decides, by_and}
use Rattle.scope.specs.Lent.{spare_words, chip_size, spare_size, is_valid}
use Rattle.scope.specs.Regions.{Region, Data, Translation, owners, first_block, region_blocks, region_pages}
use Rattle.scope.specs.SmallRecord.{SmallRecord, open_block, next_offset}
use Rattle.scope.specs.Sound.{PagesFit, BlocksFit}
use Rattle.flash.specs.Cases.{and_true, true_and, clash}
use Rattle.flash.specs.Counting.{count_add, count_same, count_le}
use Rattle.flash.specs.Owners.{valid_in}
use Rattle.flash.specs.Tests.{all_same, all_add, all_upto, decides_by}
use Rattle.survey.specs.Blocks.{rule_3, rule_3_region, SoFar, so_far_none, so_far_more, stops_here, adds, others_fit, besides}
use Rattle.survey.specs.Pages.{rule_1, rule_1_region}
use Rattle.survey.specs.Pages as Pages
use Rattle.survey.specs.declared.pages.Block.{Block}

-- ---- a region

-- Rules 1 and 3 of a region.
pub record PagesAndBlocks (g : Geometry) (r : Region) (chip spare : List ℕ) (small : SmallRecord) : Type 0 where
  pub pages : PagesFit g r chip spare
  pub blocks : BlocksFit g r spare (open_block r small) (next_offset r small)

-- The slices reach as far as the region's blocks do; those of a whole chip reach as far as either region's.
pub record Reaches (g : Geometry) (r : Region) (chip spare census : List ℕ) : Type 0 where
  pub in_chip : (first_block g r + region_blocks g r) * g.P * g.W ≤ length chip
  pub in_spare : (first_block g r + region_blocks g r) * g.P * spare_words ≤ length spare
  pub in_census : first_block g r + region_blocks g r ≤ length census

pub whole_reaches : (g : Geometry) (r : Region) (chip spare census : List ℕ) → length chip ≡ chip_size g → length spare ≡ spare_size g
    → blocks g ≤ length census → Reaches g r chip spare census
whole_reaches g r chip spare census chip_fits spare_fits census_fits =
    let in_pages = mul-le-mul_right g.P (on_chip r) in
    record {
      in_chip = omega (arith, mul-le-mul_right g.W in_pages, chip_fits);
      in_spare = omega (arith, in_pages, spare_fits);
      in_census = omega (arith, on_chip r, census_fits);
    }
  where
    on_chip : (r : Region) → first_block g r + region_blocks g r ≤ blocks g
    on_chip Data = omega arith
    on_chip Translation = omega arith

-- What a walk found: None where what it tests does not hold, else a count, and what the census then has.
pub record Held (Holds : Type 0) (count : ℕ) (Numbered : Type 0) (valid : ℕ) : Type 0 where
  pub rules : Holds
  pub counts : valid ≡ count
  pub numbers : Numbered

abbrev pub Surveyed : Option ℕ → Type 0 → ℕ → Type 0 → Type 0
Surveyed found Holds count Numbered = MatchOption found (Holds → ⊥) (Held Holds count Numbered)

-- The pages of the row, counted from its first block's first.
abbrev pub row_fits : ℕ → ℕ → ℕ → ℕ → List ℕ → List ℕ → ℕ → Bool
row_fits W limit P first chip spare j = rule_1 W limit chip spare (first * P + j)

abbrev pub row_valid : ℕ → ℕ → List ℕ → ℕ → Bool
row_valid P first spare j = is_valid (first * P + j) spare

-- Scope's rules of a region are those of its row of blocks.
both_decide : (g : Geometry) (r : Region) (chip spare : List ℕ) (small : SmallRecord) (limit : ℕ) → limit ≡ owners g r
    → Decides
    (rule_3 g.P (first_block g r) (region_blocks g r) spare (open_block r small) (next_offset r small)
    && all (region_pages g r) (row_fits g.W limit g.P (first_block g r) chip spare))
    (BlocksFit g r spare (open_block r small) (next_offset r small) × PagesFit g r chip spare)
both_decide g r chip spare small limit is =
    by_and
    (decides_by (rule_3_region g r spare (open_block r small) (next_offset r small)) (blocks_fit_decided g r spare (open_block r small) (next_offset r small)))
    (decides_by (rule_1_region g r chip spare limit is) (pages_fit_decided g r chip spare))

pub surveyed_region : (g : Geometry) (r : Region) (chip spare : List ℕ) (small : SmallRecord) (found : Option ℕ) (limit : ℕ) (Numbered : Type 0)
    → limit ≡ owners g r
    → Surveyed found
    (rule_3 g.P (first_block g r) (region_blocks g r) spare (open_block r small) (next_offset r small)
    && all (region_pages g r) (row_fits g.W limit g.P (first_block g r) chip spare) ≡ true)
    (count (region_pages g r) (row_valid g.P (first_block g r) spare))
    Numbered
    → Surveyed found (PagesAndBlocks g r chip spare small) (valid_in g r spare) Numbered
surveyed_region g r chip spare small None limit Numbered is fails =
    λ x. fails ((both_decide g r chip spare small limit is).passes (x.blocks, x.pages))
surveyed_region g r chip spare small (Some valid) limit Numbered is held =
    let b = (both_decide g r chip spare small limit is).holds held.rules in
    record { rules = record { pages = b.1; blocks = b.0 }; counts = held.counts; numbers = held.numbers }

-- ---- the walk

module _ (W limit P first : ℕ) (chip spare : List ℕ) (opened : ℕ) where
  abbrev page_fits : ℕ → Bool
  page_fits = row_fits W limit P first chip spare

  abbrev page_valid : ℕ → Bool
  page_valid = row_valid P first spare

  -- Block i of the row stands behind the pages of the blocks before it.
  behind : (i j : ℕ) → first * P + (i * P + j) ≡ (first + i) * P + j
  behind i j = omega (arith, add-mul first i P)

  one_more : (i : ℕ) → (i + 1) * P ≡ i * P + P
  one_more i = ap (λ (k : ℕ). k * P) (add-one i) ∙ suc-mul i P

  all_block : (i : ℕ) → all ((i + 1) * P) page_fits ≡ all (i * P) page_fits && all P (λ j. rule_1 W limit chip spare ((first + i) * P + j))
  all_block i =
      ap (λ (k : ℕ). all k page_fits) (one_more i) ∙ all_add (i * P) P page_fits
      ∙ ap (λ (b : Bool). all (i * P) page_fits && b)
      (all_same P (λ j. page_fits (i * P + j)) (λ j. rule_1 W limit chip spare ((first + i) * P + j)) (λ j h.
      ap (rule_1 W limit chip spare) (behind i j)))

  count_block : (i : ℕ) → count ((i + 1) * P) page_valid ≡ count (i * P) page_valid + count P (λ j. is_valid ((first + i) * P + j) spare)
  count_block i =
      ap (λ (k : ℕ). count k page_valid) (one_more i) ∙ count_add (i * P) P page_valid
      ∙ ap (λ (k : ℕ). count (i * P) page_valid + k)
      (count_same P (λ j. page_valid (i * P + j)) (λ j. is_valid ((first + i) * P + j) spare) (λ j h.
      ap (λ (p : ℕ). is_valid p spare) (behind i j)))

  -- After i blocks: rule 3 as Blocks.antt walks it, rule 1 of their pages, and how many of these are valid.
  pub record Walked (i total valid : ℕ) : Type 0 where
    pub so_far : SoFar P first spare opened i total
    pub fit : all (i * P) page_fits ≡ true
    pub counted : valid ≡ count (i * P) page_valid

  pub walked_none : Walked 0 0 0
  walked_none =
      record {
        so_far = so_far_none P first spare opened;
        fit = ap (λ (k : ℕ). all k page_fits) (zero-mul P);
        counted = sym (ap (λ (k : ℕ). count k page_valid) (zero-mul P));
      }

  -- What was found of block i, of whose pages the rule holds.
  abbrev Looked : ℕ → Block → Type 0
  Looked i b = Pages.Looked W limit chip spare ((first + i) * P) P true b

  pub walked_more : (i total valid e : ℕ) (b : Block) → 1 ≤ P → Walked i total valid → Looked i b
      → e ≡ adds P first spare opened i → eqb e P || eqb e 0 ≡ true → Walked (i + 1) (total + e) (valid + b.valid)
  walked_more i total valid e b h w l is whole =
      record {
        so_far = so_far_more P first spare opened i total e h w.so_far is whole;
        fit = all_block i ∙ true_and w.fit (sym l.fit);
        counted = sym (count_block i ∙ omega (arith, w.counted, l.valid_are));
      }

  -- The walk stops at a block that breaks one of the rules.
  abbrev pub rules : ℕ → Bool
  rules n = others_fit P first spare opened n && besides P first spare opened n && all (n * P) page_fits

  pub pages_stop : (i n : ℕ) → i < n → all P (λ j. rule_1 W limit chip spare ((first + i) * P + j)) ≡ false → rules n ≡ true → ⊥
  pages_stop i n h fails p =
      let all_fit = (and_true (others_fit P first spare opened n && besides P first spare opened n) (all (n * P) page_fits) p).1 in
      let here : all ((i + 1) * P) page_fits ≡ true = all_upto ((i + 1) * P) (n * P) page_fits (mul-le-mul_right P (omega arith)) all_fit in
      clash (and_true (all (i * P) page_fits) (all P (λ j. rule_1 W limit chip spare ((first + i) * P + j))) (sym (all_block i) ∙ here)).1
      fails

  pub blocks_stop : (i n e : ℕ) → i < n → e ≡ adds P first spare opened i → eqb e P || eqb e 0 ≡ false → rules n ≡ true → ⊥
  blocks_stop i n e h is fails p = clash p (sym (ap (λ (b : Bool). b && all (n * P) page_fits) (stops_here P first spare opened i n e h is fails)))

  -- The valid pages so far are no more than the pages.
  pub few_valid : (i total valid : ℕ) → Walked i total valid → valid ≤ i * P
  few_valid i total valid w = omega (arith, w.counted, count_le (i * P) page_valid)
