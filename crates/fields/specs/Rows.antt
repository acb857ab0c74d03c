-- The fields of a version, read one after the other: what the loop over its table knows before row i, and how a row goes on.
use Rattle.std.specs.Prelude.{ℕ, suc, ◌+◌, ◌≤◌, ◌<◌, ◌≡◌, List, [], ◌∷◌, map, length, get_or, set, take, drop, Ok, Err}
use Rattle.std.specs.Borrow.{Bor}
use Rattle.std.proofs.Common.{sym, ◌∙◌, add-one, arith, length-set, drop-cons, drop_of_length-le, take_all, take-suc-set}
use Rattle.std.proofs.Math.Path.{ap}
use Rattle.settings.specs.Fields.{Field, Reading, Refused, Numbers, next, fields_read}
use Rattle.settings.proofs.Laws.Fields.{refusal_stays}
use Rattle.fields.specs.declared.Field.{Field as FieldOf}
use Rattle.fields.specs.declared.refusal.Refusal.{Refusal}
use Rattle.fields.specs.Model.{field, refusal, Next}

-- Row i, and the rows after it.
pub row_at : (fs : List FieldOf) (i : ℕ) (d : FieldOf) → i < length fs → map field (drop i fs) ≡ field (get_or fs i d) ∷ map field (drop (suc i) fs)
row_at fs i d h = ap (map field) (drop-cons fs i d h)

-- Before row i: the first i numbers are there, and the rows from i on are to be read from the rest.
pub record BeforeRow (bytes : List ℕ) (fs : List FieldOf) (numbers rest : List ℕ) (i : ℕ) : Type 0 where
  pub rows : length fs ≡ 6
  pub six : length numbers ≡ 6
  pub goes_on : fields_read (map field fs) (Numbers [] bytes) ≡ fields_read (map field (drop i fs)) (Numbers (take i numbers) rest)

module _ {bytes : List ℕ} {fs : List FieldOf} {numbers rest : List ℕ} {i : ℕ} (b : BeforeRow bytes fs numbers rest i) where
  module _ (more : i < 6) (d : FieldOf) where
    next_row : (r : Reading) → next (field (get_or fs i d)) (Numbers (take i numbers) rest) ≡ r
        → fields_read (map field fs) (Numbers [] bytes) ≡ fields_read (map field (drop (suc i) fs)) r
    unfolding fields_read
    next_row r e =
        b.goes_on ∙ ap (λ (l : List Field). fields_read l (Numbers (take i numbers) rest)) (row_at fs i d (omega (arith, more, b.rows)))
        ∙ ap (fields_read (map field (drop (suc i) fs))) e

    pub before_next : {x : ℕ} {behind : Bor (List ℕ)} → Next rest (field (get_or fs i d)) (Ok (x, behind))
        → BeforeRow bytes fs (set numbers i x) behind.now (i + 1)
    before_next {x} {behind} r =
        rw (add-one i)
        record {
          rows = b.rows;
          six = length-set numbers i x ∙ b.six;
          goes_on =
              next_row _ (r.is (take i numbers)) ∙ ap (λ (l : List ℕ). fields_read (map field (drop (suc i) fs)) (Numbers l behind.now)) (sym (take-suc-set numbers i x (omega (arith, more, b.six))));
        }

    pub refused_there : {r : Refusal} → Next rest (field (get_or fs i d)) (Err r)
        → fields_read (map field fs) (Numbers [] bytes) ≡ Refused (refusal r)
    refused_there {r} n = next_row _ (n.is (take i numbers)) ∙ refusal_stays (map field (drop (suc i) fs)) (refusal r)

  -- Behind the last row.
  pub all_rows_read : 6 ≤ i → fields_read (map field fs) (Numbers [] bytes) ≡ Numbers numbers rest
  unfolding fields_read
  all_rows_read h =
      b.goes_on
      ∙ ap (λ (l : List FieldOf). fields_read (map field l) (Numbers (take i numbers) rest)) (drop_of_length-le fs {i = i} (omega (arith, h, b.rows)))
      ∙ ap (λ (l : List ℕ). Numbers l rest) (take_all i numbers (omega (arith, h, b.six)))
