-- Stores into a list that holds slots of w words each, one after the other: word j of slot p is at p * w + j.
-- Chip and spare are such lists, with w = W and w = spare-words; an operation stores a whole slot, or all P of a block.
use Rattle.std.specs.Prelude.{ℕ, zero, suc, ◌+◌, ◌*◌, ◌/◌, ◌%◌, ◌<◌, ◌≡◌, refl, ◌≢◌, List, [], ◌∷◌, length, get_or, set, replicate}
use Rattle.std.proofs.Common.{ap, ◌∙◌, mul-le-mul_right, div-add-mod', mod-lt, div-lt_iff_lt-mul, add-mul, arith, length-set, get_or-set_same, get_or-set_other}
use Rattle.std.proofs.lemmas.List.{length-replicate, get_or-replicate}
use Rattle.std.proofs.lemmas.List.Edits.{sets}
use Rattle.flash.specs.Cases.{below?}

-- ---- a run of stores

module _ {A : Type 0} where
  -- A place that no store is at keeps what it has; the others hold what was stored.
  pub getD_sets_outside : (l : List A) (i : ℕ) (vs : List A) (j : ℕ) (d : A)
      → ((k : ℕ) → k < length vs → j ≢ i + k) → get_or (sets l i vs) j d ≡ get_or l j d
  getD_sets_outside l i [] j d out = refl
  getD_sets_outside l i (v ∷ vs) j d out =
      getD_sets_outside (set l i v) (suc i) vs j d (λ k h e. out (suc k) (omega arith) (omega arith))
      ∙ get_or-set_other l i j v d (λ e. out 0 (omega arith) (omega arith))

  pub getD_sets_inside : (l : List A) (i : ℕ) (vs : List A) (k : ℕ) (d : A)
      → k < length vs → i + k < length l → get_or (sets l i vs) (i + k) d ≡ get_or vs k d
  getD_sets_inside l i [] k d h fits = absurd (omega arith)
  getD_sets_inside l i (v ∷ vs) zero d h fits =
      getD_sets_outside (set l i v) (suc i) vs (i + 0) d (λ k _ e. omega arith)
      ∙ ap (λ (j : ℕ). get_or (set l i v) j d) (omega arith)
      ∙ get_or-set_same l i v d (omega arith)
  getD_sets_inside l i (v ∷ vs) (suc k) d h fits =
      ap (λ (j : ℕ). get_or (sets (set l i v) (suc i) vs) j d) (omega arith)
      ∙ getD_sets_inside (set l i v) (suc i) vs k d (omega arith) (omega (arith, length-set l i v))

-- ---- slots of w words

-- The words of a slot lie in the list; of two slots none is shared.
pub slot_below : (w n p j : ℕ) → p < n → j < w → p * w + j < n * w
slot_below w n p j h k = omega (arith, mul-le-mul_right w h)

pub slot_same : (w p q i j : ℕ) → i < w → j < w → p * w + i ≡ q * w + j → p ≡ q
slot_same w p q i j h k e =
    below? p q
    (λ l. omega (arith, mul-le-mul_right w l))
    (λ l. below? q p (λ m. omega (arith, mul-le-mul_right w m)) (λ m. omega arith))

-- Slot i of the P from slot b * P on, in words counted from the first.
pub slot_in_block : (w P b i j : ℕ) → (b * P + i) * w + j ≡ b * P * w + (i * w + j)
slot_in_block w P b i j = omega (arith, add-mul (b * P) i w)

-- Where slot p is stored, w words, the others keep theirs; slots b * P to b * P + P - 1 are filled with one word, and the
-- others keep theirs.
module _ (l : List ℕ) (w : ℕ) where
  pub slot_kept : (p q j d : ℕ) (vs : List ℕ) → length vs ≡ w → j < w → q ≢ p
      → get_or (sets l (p * w) vs) (q * w + j) d ≡ get_or l (q * w + j) d
  slot_kept p q j d vs len h other =
      getD_sets_outside l (p * w) vs (q * w + j) d (λ k m e. other (slot_same w q p j k h (omega arith) e))

  pub block_filled : (P b i j v d : ℕ) → i < P → j < w → (b * P + i) * w + j < length l
      → get_or (sets l (b * P * w) (replicate (P * w) v)) ((b * P + i) * w + j) d ≡ v
  block_filled P b i j v d h k fits =
      let at : (b * P + i) * w + j ≡ b * P * w + (i * w + j) = slot_in_block w P b i j in
      let inside : i * w + j < P * w = slot_below w P i j h k in
      ap (λ (m : ℕ). get_or (sets l (b * P * w) (replicate (P * w) v)) m d) at
      ∙ getD_sets_inside l (b * P * w) (replicate (P * w) v) (i * w + j) d
      (omega (arith, length-replicate (P * w) v)) (omega arith)
      ∙ get_or-replicate (P * w) (i * w + j) v d inside

  pub block_kept : (P b q j v d : ℕ) → j < w → ((i : ℕ) → i < P → q ≢ b * P + i)
      → get_or (sets l (b * P * w) (replicate (P * w) v)) (q * w + j) d ≡ get_or l (q * w + j) d
  block_kept P b q j v d h out =
      getD_sets_outside l (b * P * w) (replicate (P * w) v) (q * w + j) d (λ k m e.
      let inside : k < P * w = omega (arith, length-replicate (P * w) v) in
      out (k / w) ((div-lt_iff_lt-mul (omega arith)).1 inside)
      (slot_same w q (b * P + k / w) j (k % w) h (mod-lt k (omega arith))
      (omega (arith, slot_in_block w P b (k / w) (k % w), div-add-mod' k w))))
