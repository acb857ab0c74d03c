-- What `whole_fields` passes, said without it: fields of higher tags laid one after the other, and nothing else.
use Rattle.std.specs.Prelude.{ℕ, zero, suc, ◌+◌, ◌*◌, ◌/◌, ◌%◌, ◌<◌, ◌≡◌, refl, true, List, [], ◌∷◌, ◌++◌, length}
use Rattle.std.proofs.Common.{sym, ap, ◌∙◌, true≢false, arith}
use Rattle.scope.specs.Laws.Decides.{by_below, by_itself, by_and}
use Rattle.settings.specs.Fields.{number, bytes_of, whole_fields}
use Rattle.settings.specs.Laid.{Bytes, Skipped, laid, Higher}
use Rattle.settings.proofs.Laws.Numbers.{bytes_of_their_number}

bytes_passed : (last : ℕ) (bytes rest : List ℕ) → whole_fields last (length bytes) (bytes ++ rest) ≡ whole_fields last 0 rest
unfolding whole_fields
bytes_passed last [] rest = refl
bytes_passed last (b ∷ bytes) rest = bytes_passed last bytes rest

pub laid_is_whole : (last : ℕ) (fs : List Skipped) → Higher last fs → whole_fields last 0 (laid fs) ≡ true
unfolding whole_fields laid bytes_of
laid_is_whole last [] h = refl
laid_is_whole last (f ∷ fs) h =
    (by_and (by_below last f.tag) (by_itself _)).passes
    (h.0, ap (λ (n : ℕ). whole_fields last n (f.bytes ++ laid fs)) its_length ∙ bytes_passed last f.bytes (laid fs) ∙ laid_is_whole last fs h.2)
  where
    its_length : length f.bytes / 256 % 256 * 256 + length f.bytes % 256 ≡ length f.bytes
    its_length = omega (arith, h.1)

-- n bytes that end a field, and fields laid behind them.
pub record WasLaid (last n : ℕ) (bytes : List ℕ) : Type 0 where
  pub ending : List ℕ
  pub as_many : length ending ≡ n
  pub fields : List Skipped
  pub higher : Higher last fields
  pub whole : bytes ≡ ending ++ laid fields

pub whole_was_laid : (last n : ℕ) (bytes : List ℕ) → Bytes bytes → whole_fields last n bytes ≡ true → WasLaid last n bytes
unfolding whole_fields laid number
whole_was_laid last zero [] b e = record { ending = []; as_many = refl; fields = []; higher = tt; whole = refl }
whole_was_laid last zero (tag ∷ []) b e = absurd (true≢false (sym e))
whole_was_laid last zero (tag ∷ high ∷ []) b e = absurd (true≢false (sym e))
whole_was_laid last zero (tag ∷ high ∷ low ∷ bytes) b e =
    let (above, e1) = (by_and (by_below last tag) (by_itself (whole_fields last (high * 256 + low) bytes))).holds e in
    more above (whole_was_laid last (high * 256 + low) bytes (λ i. b (suc (suc (suc i)))) e1)
  where
    more : last < tag → WasLaid last (high * 256 + low) bytes → WasLaid last zero (tag ∷ high ∷ low ∷ bytes)
    more above w =
        record {
          ending = [];
          as_many = refl;
          fields = record { tag = tag; bytes = w.ending } ∷ w.fields;
          higher = (above, omega (arith, w.as_many, b 1, b 2), w.higher);
          whole =
              ap (λ (l : List ℕ). tag ∷ high ∷ low ∷ l) w.whole
              ∙ ap (λ (size : List ℕ). tag ∷ size ++ w.ending ++ laid w.fields) (sym its_bytes);
        }
      where
        its_number : length w.ending ≡ number 2 (high ∷ low ∷ bytes)
        its_number = omega (arith, w.as_many)

        its_bytes : bytes_of 2 (length w.ending) ≡ high ∷ low ∷ []
        its_bytes = ap (bytes_of 2) its_number ∙ bytes_of_their_number 2 (high ∷ low ∷ bytes) (λ i. b (suc i)) (omega arith)
whole_was_laid last (suc n) [] b e = absurd (true≢false (sym e))
whole_was_laid last (suc n) (byte ∷ bytes) b e =
    let w = whole_was_laid last n bytes (λ i. b (suc i)) e in
    record {
      ending = byte ∷ w.ending;
      as_many = ap suc w.as_many;
      fields = w.fields;
      higher = w.higher;
      whole = ap (λ (l : List ℕ). byte ∷ l) w.whole;
    }
