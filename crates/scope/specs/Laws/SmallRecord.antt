-- The small record as words: as many words as it has fields hold a record, and words that are stored as they were read change no slice,
-- of whatever length. Nothing here lists the fields: how many there are is `record_words`.
use Rattle.std.specs.Prelude.{ℕ, zero, suc, ◌≡◌, refl, List, [], ◌∷◌, length, get_or}
use Rattle.std.proofs.Common.{ap, ◌∙◌, arith}
use Rattle.std.proofs.lemmas.List.Edits.{sets, sets-eq}
use Rattle.std.proofs.lemmas.List.{set-get_or}
use Rattle.scope.specs.SmallRecord.{SmallRecord, record_words, record_of, words_from}

pub record_stored : (small : List ℕ) (r : SmallRecord) → length small ≡ record_words → record_of (sets small 0 (words_from r)) ≡ r
record_stored small r e = ap record_of (sets-eq (words_from r) small 0 (omega arith))

-- The n words from place i on, 0 where there are none.
read_from : ℕ → ℕ → List ℕ → List ℕ
read_from zero i l = []
read_from (suc n) i l = get_or l i 0 ∷ read_from n (suc i) l

read_from_stored : (n i : ℕ) (l : List ℕ) → sets l i (read_from n i l) ≡ l
unfolding read_from
read_from_stored zero i l = refl
read_from_stored (suc n) i l =
    ap (λ (m : List ℕ). sets m (suc i) (read_from n (suc i) l)) (set-get_or l i 0) ∙ read_from_stored n (suc i) l

pub record_words_kept : (small : List ℕ) → sets small 0 (words_from (record_of small)) ≡ small
unfolding read_from
record_words_kept small = read_from_stored record_words 0 small
