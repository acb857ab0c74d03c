-- Bytes put one behind the other, and the record that they make.
use Prim.Native.Nat.{ℕ, zero, suc, ◌+◌, ◌-◌, ◌/◌, ◌≤◌, ◌<◌}
use Rattle.std.specs.Prelude.{◌≡◌, length, set, map, get_or}
use Rattle.std.specs.Int.{w32, to_be_bytes}
use Rattle.std.proofs.Math.Path.{refl, sym, ap}
use Rattle.std.proofs.Common.{◌∙◌, add-one, arith, length-set, length-append, take_all, take-suc-set, drop-cons}
use mathlib.Core.List.{List, [], ◌∷◌, ◌++◌, append_assoc, append-nil}
use Rattle.std.proofs.Math.ListN.{take, drop, drop_of_length-le}
use Rattle.settings.specs.Fields.{Field, field_bytes, field_written, fields_written, bytes_in, bytes_of}
use Rattle.settings.proofs.Laws.Fields.{length_field_written}
use Rattle.fields.specs.declared.Field.{Field as FieldOf}
use Rattle.fields.specs.Model.{Put, field}
use Rattle.fields.specs.Rows.{row_at}

-- The last n of a number's four bytes.
pub last_bytes : (n x : ℕ) → n ≤ 4 → drop (4 - n) (to_be_bytes w32 x) ≡ bytes_of n x
unfolding bytes_of
last_bytes zero x h = refl
last_bytes (suc zero) x h = refl
last_bytes (suc (suc zero)) x h = refl
last_bytes (suc (suc (suc zero))) x h = let e : x / 256 / 256 ≡ x / 65536 = omega arith in cc
last_bytes (suc (suc (suc (suc zero)))) x h =
    let e : x / 256 / 256 ≡ x / 65536 = omega arith in
    let e' : x / 256 / 256 / 256 ≡ x / 16777216 = omega arith in
    cc
last_bytes (suc (suc (suc (suc (suc n))))) x h = absurd (omega (arith, h))

pub put_one : (place : List ℕ) (at b : ℕ) → at < length place → Put place (set place at b) at (b ∷ [])
put_one place at b h =
    record {
      put = ap (λ (k : ℕ). take k (set place at b)) (add-one at) ∙ take-suc-set place at b h;
      same = length-set place at b;
    }

pub put_then : {before between after : List ℕ} {at k : ℕ} {xs ys : List ℕ} → Put before between at xs → k ≡ at + length xs
    → Put between after k ys → Put before after at (xs ++ ys)
put_then {before} {between} {after} {at} {k} {xs} {ys} a e b =
    record {
      put =
          ap (λ (n : ℕ). take n after) behind ∙ b.put
          ∙ ap (λ (l : List ℕ). l ++ ys) (ap (λ (n : ℕ). take n between) e ∙ a.put) ∙ append_assoc (take at before) xs ys;
      same = b.same ∙ a.same;
    }
  where
    behind : at + length (xs ++ ys) ≡ k + length ys
    behind = omega (arith, length-append xs ys, e)

-- The writer before row i: what stands in the place already, and what the rows from i on add, is the whole.
pub record WrittenBefore (whole place : List ℕ) (fs : List FieldOf) (numbers : List ℕ) (at i : ℕ) : Type 0 where
  pub rows : length fs ≡ 6
  pub six : length numbers ≡ 6
  pub fits : at + bytes_in (map field (drop i fs)) ≡ length place
  pub is : take at place ++ fields_written (map field (drop i fs)) (drop i numbers) ≡ whole

module _ {whole place : List ℕ} {fs : List FieldOf} {numbers : List ℕ} {at i : ℕ} (w : WrittenBefore whole place fs numbers at i) where
  module _ (more : i < 6) (d : FieldOf) where
    row : map field (drop i fs) ≡ field (get_or fs i d) ∷ map field (drop (suc i) fs)
    row = row_at fs i d (omega (arith, more, w.rows))

    pub room_for_row : at + field_bytes (field (get_or fs i d)) ≤ length place
    unfolding bytes_in
    room_for_row = omega (arith, w.fits, ap bytes_in row)

    pub written_next : {after : List ℕ} → Put place after at (field_written (field (get_or fs i d)) (get_or numbers i 0))
        → WrittenBefore whole after fs numbers (at + field_bytes (field (get_or fs i d))) (i + 1)
    unfolding bytes_in fields_written
    written_next {after} p =
        rw (add-one i)
        record {
          rows = w.rows;
          six = w.six;
          fits = omega (arith, w.fits, ap bytes_in row, p.same);
          is =
              ap (λ (l : List ℕ). l ++ rest) (ap (λ (k : ℕ). take k after) (ap (λ (k : ℕ). at + k) (sym (length_field_written f x))) ∙ p.put)
              ∙ append_assoc (take at place) (field_written f x) rest
              ∙ ap (λ (l : List ℕ). take at place ++ l) (sym (ap (λ (l : List Field). fields_written l (drop i numbers)) row ∙ ap (fields_written (f ∷ map field (drop (suc i) fs))) (drop-cons numbers i 0 (omega (arith, more, w.six)))))
              ∙ w.is;
        }
      where
        f : Field
        f = field (get_or fs i d)

        x : ℕ
        x = get_or numbers i 0

        rest : List ℕ
        rest = fields_written (map field (drop (suc i) fs)) (drop (suc i) numbers)

  pub written_whole : 6 ≤ i → place ≡ whole
  unfolding bytes_in fields_written
  written_whole h =
      sym (take_all at place (omega (arith, w.fits, ap bytes_in none_left))) ∙ sym (append-nil (take at place))
      ∙ ap (λ (l : List Field). take at place ++ fields_written l (drop i numbers)) (sym none_left) ∙ w.is
    where
      none_left : map field (drop i fs) ≡ []
      none_left = ap (map field) (drop_of_length-le fs {i = i} (omega (arith, h, w.rows)))
