-- What follows a version's fields, a field at a time: laws of whole_fields that the loop over them cites.
use Rattle.std.specs.Prelude.{ℕ, zero, suc, ◌+◌, ◌≤◌, ◌<◌, ◌≡◌, refl, false, ◌&&◌, List, [], ◌∷◌, length, get_or, drop, ltb, None}
use Rattle.std.proofs.Math.Path.{sym, ap}
use Rattle.std.proofs.Common.{◌∙◌, arith, length-drop, drop-drop, lt-ltb, le-ltb, ne_eqb}
use Rattle.settings.specs.Fields.{number, whole_fields}
use Rattle.fields.specs.Model.{Skipped}

-- With n bytes to end a field: there are so many, and the rest is whole; or there are fewer.
pub ended_whole : (last n : ℕ) (bytes : List ℕ) → n ≤ length bytes → whole_fields last n bytes ≡ whole_fields last 0 (drop n bytes)
unfolding whole_fields
ended_whole last zero bytes h = refl
ended_whole last (suc n) [] h = absurd (omega (arith, h))
ended_whole last (suc n) (byte ∷ bytes) h = ended_whole last n bytes (omega (arith, h))

pub ended_cut : (last n : ℕ) (bytes : List ℕ) → length bytes < n → whole_fields last n bytes ≡ false
unfolding whole_fields
ended_cut last zero bytes h = absurd (omega (arith, h))
ended_cut last (suc n) [] h = refl
ended_cut last (suc n) (byte ∷ bytes) h = ended_cut last n bytes (omega (arith, h))

-- A field's head is there: its tag is above the last, and its own bytes end it.
pub head_there : (last : ℕ) (bytes : List ℕ) → 3 ≤ length bytes
    → whole_fields last 0 bytes ≡ (ltb last (get_or bytes 0 0) && whole_fields last (number 2 (drop 1 bytes)) (drop 3 bytes))
unfolding whole_fields number
head_there last [] h = absurd (omega (arith, h))
head_there last (tag ∷ []) h = absurd (omega (arith, h))
head_there last (tag ∷ high ∷ []) h = absurd (omega (arith, h))
head_there last (tag ∷ high ∷ low ∷ bytes) h =
    ap (λ (n : ℕ). ltb last tag && whole_fields last n bytes) (omega arith)

-- What the tests of a field find, in their order.
pub no_head : (last : ℕ) (bytes : List ℕ) → length bytes < 3 → Skipped bytes last None
unfolding whole_fields
no_head last [] h = refl
no_head last (tag ∷ []) h = refl
no_head last (tag ∷ high ∷ []) h = refl
no_head last (tag ∷ high ∷ low ∷ bytes) h = absurd (omega (arith, h))

module _ (last : ℕ) (bytes : List ℕ) (head : 3 ≤ length bytes) where
  not_whole : whole_fields last 0 bytes ≡ false → Skipped bytes last None
  not_whole e = e ∙ sym (ne_eqb (length bytes) 0 (λ z. absurd (omega (arith, z))))

  pub low_tag : get_or bytes 0 0 ≤ last → Skipped bytes last None
  low_tag h = not_whole (head_there last bytes head ∙ rw (le-ltb _ _ h) refl)

  module _ (high : last < get_or bytes 0 0) {n : ℕ} (size : n ≡ number 2 (drop 1 bytes)) where
    pub cut : length bytes < 3 + n → Skipped bytes last None
    cut h =
        not_whole
        (head_there last bytes head ∙ rw (lt-ltb _ _ high) (ended_cut last (number 2 (drop 1 bytes)) (drop 3 bytes) (omega (arith, h, size, length-drop 3 bytes))))

    pub whole : 3 + n ≤ length bytes → whole_fields last 0 bytes ≡ whole_fields last 0 (drop (3 + n) bytes)
    whole h =
        head_there last bytes head ∙ rw (lt-ltb _ _ high) (ended_whole last (number 2 (drop 1 bytes)) (drop 3 bytes) (omega (arith, h, size, length-drop 3 bytes)) ∙ ap (whole_fields last 0) (drop-drop (number 2 (drop 1 bytes)) 3 bytes ∙ ap (λ (k : ℕ). drop (3 + k) bytes) (sym size)))

    pub behind_field : {rest : List ℕ} → 3 + n ≤ length bytes → rest ≡ drop (3 + n) bytes
        → (length rest < length bytes) × (whole_fields last 0 bytes ≡ whole_fields last 0 rest)
    behind_field h e = (omega (arith, ap length e, length-drop (3 + n) bytes, h), whole h ∙ ap (whole_fields last 0) (sym e))
