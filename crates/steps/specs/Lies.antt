-- What the leaves ask of the lists that they are lent, and so where pages and blocks lie in these: in range, and no product wraps.
use Rattle.std.specs.Prelude.{ℕ, ◌+◌, ◌*◌, ◌≤◌, ◌<◌, ◌≡◌, refl, ◌⊎◌, List, length}
use Rattle.std.proofs.Common.{◌∙◌, sym, subst, inl, inr, mul-le-mul_right, add-mul, mod-lt, add-one, arith}
use Rattle.scope.specs.Geometry.{Geometry, most_pages_in_block, most_pages, blocks, pages}
use Rattle.scope.specs.Regions.{Region, HasBlock, page_in}
use Rattle.scope.specs.SmallRecord.{SmallRecord, open_block, next_offset, with_open, advanced}
use Rattle.scope.specs.Lent.{spare_words, chip_size, spare_size, translation_word}
use Rattle.lent.specs.declared.Record.{Record}
use Rattle.lent.specs.Model.{small}
use Rattle.flash.specs.Bounded.{Bounded, few_pages}
use Rattle.flash.specs.Cases.{below?}
use Rattle.flash.specs.Stores.{slot_below}
use Rattle.flash.specs.Places.{block_on_chip}

-- A chip of the right size; a spare of the right size. What is lent may be a chip without translation blocks.
pub record ChipLent (g : Geometry) (chip : List ℕ) : Type 0 where
  pub bounded : Bounded g
  pub chip_fits : length chip ≡ chip_size g

pub record SpareLent (g : Geometry) (spare : List ℕ) : Type 0 where
  pub bounded : Bounded g
  pub spare_fits : length spare ≡ spare_size g

-- A chip stays one where its length does.
pub chip_still : {g : Geometry} {chip chip' : List ℕ} → ChipLent g chip → length chip' ≡ length chip → ChipLent g chip'
chip_still lent e = record { bounded = lent.bounded; chip_fits = e ∙ lent.chip_fits }

-- ---- pages

-- A page's words; its spare words.
pub record WordsLie (g : Geometry) (chip : List ℕ) (p : ℕ) : Type 0 where
  pub page_to : p < most_pages
  pub W_to : g.W ≤ 512
  pub words : p * g.W + g.W ≤ length chip

pub record SpareLies (spare : List ℕ) (p : ℕ) : Type 0 where
  pub page_to : p < most_pages
  pub words : (p + 1) * spare_words ≤ length spare

pub words_lie : {g : Geometry} {chip : List ℕ} → ChipLent g chip → (p : ℕ) → p < pages g → WordsLie g chip p
words_lie {g} lent p h =
    record {
      page_to = omega (arith, few_pages lent.bounded);
      W_to = lent.bounded.W_to;
      words = omega (arith, mul-le-mul_right g.W h, lent.chip_fits);
    }

pub spare_lies : {g : Geometry} {spare : List ℕ} → SpareLent g spare → (p : ℕ) → p < pages g → SpareLies spare p
spare_lies lent p h =
    record { page_to = omega (arith, few_pages lent.bounded); words = omega (arith, lent.spare_fits) }

-- A translation page's word for a logical page.
pub record WordLies (g : Geometry) (chip : List ℕ) (p l : ℕ) : Type 0 where
  pub page_to : p * g.W ≤ length chip
  pub word_to : translation_word g l < 512
  pub inside : p * g.W + translation_word g l < length chip

pub word_lies : {g : Geometry} {chip : List ℕ} → ChipLent g chip → (p l : ℕ) → p < pages g → WordLies g chip p l
word_lies lent p l h =
    let below = mod-lt l lent.bounded.W_from in
    let page = words_lie lent p h in
    record { page_to = omega arith; word_to = omega arith; inside = omega arith }

-- Two pages lie apart, or the first lies no nearer to the front.
pub pages_apart : (w p q : ℕ) → (p * w + w ≤ q * w) ⊎ (q * w ≤ p * w)
pages_apart w p q = below? p q (λ h. inl (omega (arith, mul-le-mul_right w h))) (λ h. inr (mul-le-mul_right w h))

-- ---- blocks

-- All words of a block, in the chip and in the spare.
pub record BlockLies (g : Geometry) (chip spare : List ℕ) (b : ℕ) : Type 0 where
  pub P_to : g.P ≤ most_pages_in_block
  pub W_to : g.W ≤ 512
  pub first_to : b * g.P < most_pages
  pub size_to : g.P * g.W ≤ 32768
  pub words : b * g.P * g.W + g.P * g.W ≤ length chip
  pub spares : (b * g.P + g.P) * spare_words ≤ length spare

-- Those in the spare alone.
pub record BlockSpares (g : Geometry) (spare : List ℕ) (b : ℕ) : Type 0 where
  pub P_to : g.P ≤ most_pages_in_block
  pub first_to : b * g.P < most_pages
  pub spares : (b * g.P + g.P) * spare_words ≤ length spare

pub block_spares : {g : Geometry} {spare : List ℕ} → SpareLent g spare → (b : ℕ) → b < blocks g → BlockSpares g spare b
block_spares {g} spare b h =
    let behind : b * g.P + g.P ≤ pages g = omega (arith, mul-le-mul_right g.P h) in
    record {
      P_to = spare.bounded.P_to;
      first_to = omega (arith, few_pages spare.bounded, spare.bounded.P_from);
      spares = omega (arith, spare.spare_fits);
    }

pub block_lies : {g : Geometry} {chip spare : List ℕ} → ChipLent g chip → SpareLent g spare → (b : ℕ) → b < blocks g
    → BlockLies g chip spare b
block_lies {g} chip spare b h =
    let behind : b * g.P + g.P ≤ pages g = omega (arith, mul-le-mul_right g.P h) in
    let most : g.P * g.W ≤ most_pages_in_block * g.W = mul-le-mul_right g.W chip.bounded.P_to in
    let in_words : (b * g.P + g.P) * g.W ≤ pages g * g.W = mul-le-mul_right g.W behind in
    record {
      P_to = chip.bounded.P_to;
      W_to = chip.bounded.W_to;
      first_to = omega (arith, few_pages chip.bounded, chip.bounded.P_from);
      size_to = omega (arith, chip.bounded.W_to);
      words = omega (arith, add-mul (b * g.P) g.P g.W, chip.chip_fits);
      spares = omega (arith, spare.spare_fits);
    }

-- ---- the open block's next page

abbrev pub next_page : Geometry → Region → SmallRecord → ℕ
next_page g r s = page_in g (open_block r s) (next_offset r s)

-- It has one: the open block lies in its region, and its next offset is below P.
pub record HasNext (g : Geometry) (r : Region) (s : SmallRecord) : Type 0 where
  pub in_region : HasBlock g r (open_block r s)
  pub room : next_offset r s < g.P

pub next_same : {g : Geometry} {r : Region} {rec rec' : Record} → rec' ≡ rec → HasNext g r (small rec) → HasNext g r (small rec')
next_same {g} {r} e h = subst (λ (k : Record). HasNext g r (small k)) (sym e) h

pub next_on_chip : {g : Geometry} {r : Region} {s : SmallRecord} → HasNext g r s → next_page g r s < pages g
next_on_chip {g} {r} {s} h =
    slot_below g.P (blocks g) (open_block r s) (next_offset r s) (block_on_chip g r (open_block r s) h.in_region) h.room

pub next_to : {g : Geometry} {r : Region} {s : SmallRecord} → Bounded g → HasNext g r s → next_page g r s < most_pages
next_to bounded h = omega (arith, few_pages bounded, next_on_chip h)

-- Its words lie in the chip.
module _ {g : Geometry} {r : Region} {s : SmallRecord} (next : HasNext g r s) {q : ℕ} (is_next : q ≡ next_page g r s) where
  pub next_words_lie : {chip : List ℕ} → ChipLent g chip → WordsLie g chip q
  next_words_lie lent = words_lie lent q (rw is_next (next_on_chip next))

-- The same by the record's numbers, and the record that names the page behind it.
module _ (r : Region) (s : SmallRecord) {b i : ℕ} (is_b : b ≡ open_block r s) (is_i : i ≡ next_offset r s) where
  pub next_is : (g : Geometry) → b * g.P + i ≡ next_page g r s
  next_is g = rw (is_b, is_i) refl

  pub open_on_chip : {g : Geometry} → HasNext g r s → b < blocks g
  open_on_chip {g} next = rw is_b (block_on_chip g r (open_block r s) next.in_region)

  pub offset_in_block : {g : Geometry} → HasNext g r s → i < g.P
  offset_in_block next = rw is_i next.room

  pub advanced_is : with_open r b (i + 1) s ≡ advanced r s
  advanced_is = rw (is_b, is_i, add-one) refl
