-- A field, and fields one after the other: what was written is read, and what was read is as it is written. Each law leaves open what
-- follows the fields.
use Rattle.std.specs.Prelude.{ℕ, suc, ◌+◌, ◌^◌, ◌≤◌, ◌<◌, ◌≡◌, refl, ◌≢◌, not, List, [], ◌∷◌, ◌++◌, eqb, ltb, length, get_or, take, drop}
use Rattle.std.proofs.Common.{sym, ap, ap₂, subst, ◌∙◌, append_assoc, append-nil, arith, length-append, length-drop, take-append-drop, drop_at, eqb-true, eq-eqb, ltb-false, le-ltb}
use Rattle.std.proofs.lemmas.Bool.{not-false}
use Rattle.settings.specs.Fields.{Field, head_bytes, field_bytes, number, bytes_of, Reading, Refused, Numbers, next, fields_read, field_written, fields_written, bytes_in}
use Rattle.settings.specs.Laid.{Bytes}
use Rattle.settings.proofs.Laws.Numbers.{length_bytes_of, number_of_its_bytes, bytes_of_their_number, bytes_dropped}
use Rattle.settings.proofs.Laws.Tests.{not_refused}

-- One number for each field; the field's length fits its two bytes, and the number the bytes of the field.
abbrev pub Fits : List Field → List ℕ → Type 0
Fits [] [] = Unit {0}
Fits [] (x ∷ numbers) = ⊥
Fits (f ∷ fs) [] = ⊥
Fits (f ∷ fs) (x ∷ numbers) = (f.bytes < 256 ^ 2) × (x < 256 ^ f.bytes) × Fits fs numbers

-- ---- lengths

pub length_field_written : (f : Field) (x : ℕ) → length (field_written f x) ≡ field_bytes f
unfolding bytes_of
length_field_written f x = omega (arith, length_bytes_of f.bytes x)

pub length_fields_written : (fs : List Field) (numbers : List ℕ) → length numbers ≡ length fs
    → length (fields_written fs numbers) ≡ bytes_in fs
unfolding fields_written bytes_in
length_fields_written [] numbers e = refl
length_fields_written (f ∷ fs) [] e = absurd (omega arith)
length_fields_written (f ∷ fs) (x ∷ numbers) e =
    length-append (field_written f x) (fields_written fs numbers)
    ∙ ap₂ ◌+◌ (length_field_written f x) (length_fields_written fs numbers (omega arith))

-- ---- the three tests of a field

pub record Whole (f : Field) (bytes : List ℕ) : Type 0 where
  pub enough : field_bytes f ≤ length bytes
  pub tagged : get_or bytes 0 0 ≡ f.tag
  pub sized : number 2 (drop 1 bytes) ≡ f.bytes

-- What is read of a field that passes them.
abbrev pub field_read : Field → List ℕ → List ℕ → Reading
field_read f numbers bytes = Numbers (numbers ++ number f.bytes (drop head_bytes bytes) ∷ []) (drop (field_bytes f) bytes)

pub whole_is_read : (f : Field) (numbers bytes : List ℕ) → Whole f bytes → next f (Numbers numbers bytes) ≡ field_read f numbers bytes
unfolding next
whole_is_read f numbers bytes w =
    rw (
      le-ltb (length bytes) (field_bytes f) w.enough,
      eq-eqb (get_or bytes 0 0) f.tag w.tagged,
      eq-eqb (number 2 (drop 1 bytes)) f.bytes w.sized,
    )

abbrev is_refusal : Reading → Type 0
is_refusal (Refused n) = Unit {0}
is_refusal (Numbers numbers bytes) = ⊥

refusal_is_no_reading : {n : ℕ} {numbers bytes : List ℕ} → Refused n ≢ Numbers numbers bytes
refusal_is_no_reading e = subst is_refusal e tt

pub read_was_whole : (f : Field) (numbers bytes numbers' rest : List ℕ) → next f (Numbers numbers bytes) ≡ Numbers numbers' rest
    → Whole f bytes
unfolding next
read_was_whole f numbers bytes numbers' rest e =
    let (enough, e1) = not_refused (ltb (length bytes) (field_bytes f)) refusal_is_no_reading e in
    let (tagged, e2) = not_refused (not (eqb (get_or bytes 0 0) f.tag)) refusal_is_no_reading e1 in
    let (sized, _) = not_refused (not (eqb (number 2 (drop 1 bytes)) f.bytes)) refusal_is_no_reading e2 in
    record {
      enough = ltb-false (length bytes) (field_bytes f) enough;
      tagged = eqb-true (get_or bytes 0 0) f.tag (not-false (eqb (get_or bytes 0 0) f.tag) tagged);
      sized = eqb-true (number 2 (drop 1 bytes)) f.bytes (not-false (eqb (number 2 (drop 1 bytes)) f.bytes) sized);
    }

-- ---- what was written is read

pub written_field_is_read : (f : Field) (x : ℕ) (numbers rest : List ℕ) → f.bytes < 256 ^ 2 → x < 256 ^ f.bytes
    → next f (Numbers numbers (field_written f x ++ rest)) ≡ Numbers (numbers ++ x ∷ []) rest
unfolding bytes_of
written_field_is_read f x numbers rest h k =
    whole_is_read f numbers (field_written f x ++ rest)
    (record {
      enough = omega (arith, length-append (field_written f x) rest, length_field_written f x);
      tagged = refl;
      sized = number_of_its_bytes 2 f.bytes (bytes_of f.bytes x ++ rest) h;
    })
    ∙ ap₂ (λ (y : ℕ) (l : List ℕ). Numbers (numbers ++ y ∷ []) l)
    (number_of_its_bytes f.bytes x rest k)
    (drop_at (field_written f x) rest (field_bytes f) (length_field_written f x))

pub written_fields_are_read : (fs : List Field) (xs numbers rest : List ℕ) → Fits fs xs
    → fields_read fs (Numbers numbers (fields_written fs xs ++ rest)) ≡ Numbers (numbers ++ xs) rest
unfolding fields_read fields_written
written_fields_are_read [] [] numbers rest h = ap (λ (l : List ℕ). Numbers l rest) (sym (append-nil numbers))
written_fields_are_read [] (x ∷ xs) numbers rest h = absurd h
written_fields_are_read (f ∷ fs) [] numbers rest h = absurd h
written_fields_are_read (f ∷ fs) (x ∷ xs) numbers rest h =
    ap (λ (l : List ℕ). fields_read fs (next f (Numbers numbers l))) (append_assoc (field_written f x) (fields_written fs xs) rest)
    ∙ ap (fields_read fs) (written_field_is_read f x numbers (fields_written fs xs ++ rest) h.0 h.1)
    ∙ written_fields_are_read fs xs (numbers ++ x ∷ []) rest h.2
    ∙ ap (λ (l : List ℕ). Numbers l rest) (append_assoc numbers (x ∷ []) xs)

-- ---- what was read is as it is written

-- A list of at least three elements and n: those, and the rest.
parted : (n : ℕ) (bytes : List ℕ) → head_bytes + n ≤ length bytes
    → get_or bytes 0 0 ∷ take 2 (drop 1 bytes) ++ take n (drop head_bytes bytes) ++ drop (head_bytes + n) bytes ≡ bytes
parted n [] h = absurd (omega arith)
parted n (a ∷ []) h = absurd (omega arith)
parted n (a ∷ b ∷ []) h = absurd (omega arith)
parted n (a ∷ b ∷ c ∷ bytes) h =
    let n_more : head_bytes + n ≡ suc (suc (suc n)) = omega arith in
    ap (λ (k : ℕ). a ∷ b ∷ c ∷ (take n bytes ++ drop k (a ∷ b ∷ c ∷ bytes))) n_more
    ∙ ap (λ (l : List ℕ). a ∷ b ∷ c ∷ l) (take-append-drop n bytes)

pub whole_is_written : (f : Field) (bytes : List ℕ) → Bytes bytes → Whole f bytes
    → field_written f (number f.bytes (drop head_bytes bytes)) ++ drop (field_bytes f) bytes ≡ bytes
whole_is_written f bytes b w =
    ap₂ (λ (tag : ℕ) (size : List ℕ). tag ∷ size ++ bytes_of f.bytes x ++ rest)
    (sym w.tagged)
    (ap (bytes_of 2) (sym w.sized) ∙ bytes_of_their_number 2 (drop 1 bytes) (bytes_dropped 1 bytes b) (omega (arith, w.enough, length-drop 1 bytes)))
    ∙ ap (λ (l : List ℕ). get_or bytes 0 0 ∷ take 2 (drop 1 bytes) ++ l ++ rest)
    (bytes_of_their_number f.bytes (drop head_bytes bytes) (bytes_dropped head_bytes bytes b) (omega (arith, w.enough, length-drop head_bytes bytes)))
    ∙ parted f.bytes bytes w.enough
  where
    x : ℕ
    x = number f.bytes (drop head_bytes bytes)

    rest : List ℕ
    rest = drop (field_bytes f) bytes

-- What was read: as many numbers as fields, put behind those before, out of the bytes that write them.
pub record WasWritten (fs : List Field) (numbers bytes numbers' rest : List ℕ) : Type 0 where
  pub own : List ℕ
  pub one_each : length own ≡ length fs
  pub behind : numbers' ≡ numbers ++ own
  pub written : bytes ≡ fields_written fs own ++ rest

-- A refusal stays.
pub refusal_stays : (fs : List Field) (n : ℕ) → fields_read fs (Refused n) ≡ Refused n
unfolding fields_read next
refusal_stays [] n = refl
refusal_stays (f ∷ fs) n = refusal_stays fs n

-- Where numbers were read in the end, none of the fields was refused.
none_refused : (fs : List Field) (r : Reading) {numbers bytes : List ℕ} → fields_read fs r ≡ Numbers numbers bytes
    → (numbers₁ : List ℕ) × (bytes₁ : List ℕ) × (r ≡ Numbers numbers₁ bytes₁)
none_refused fs (Refused n) e = absurd (refusal_is_no_reading (sym (refusal_stays fs n) ∙ e))
none_refused fs (Numbers numbers₁ bytes₁) e = (numbers₁, bytes₁, refl)

pub read_fields_were_written : (fs : List Field) (numbers bytes numbers' rest : List ℕ) → Bytes bytes
    → fields_read fs (Numbers numbers bytes) ≡ Numbers numbers' rest → WasWritten fs numbers bytes numbers' rest
unfolding fields_read fields_written
read_fields_were_written [] numbers bytes numbers' rest b e =
    record { own = []; one_each = refl; behind = cc (append-nil numbers); written = cc }
read_fields_were_written (f ∷ fs) numbers bytes numbers' rest b e =
    let (numbers₁, bytes₁, p) = none_refused fs (next f (Numbers numbers bytes)) e in
    let w : Whole f bytes = read_was_whole f numbers bytes numbers₁ bytes₁ p in
    let x : ℕ = number f.bytes (drop head_bytes bytes) in
    let after : List ℕ = drop (field_bytes f) bytes in
    let q : fields_read fs (field_read f numbers bytes) ≡ Numbers numbers' rest = ap (fields_read fs) (sym (whole_is_read f numbers bytes w)) ∙ e in
    let others = read_fields_were_written fs (numbers ++ x ∷ []) after numbers' rest (bytes_dropped (field_bytes f) bytes b) q in
    record {
      own = x ∷ others.own;
      one_each = ap suc others.one_each;
      behind = others.behind ∙ append_assoc numbers (x ∷ []) others.own;
      written =
          sym (whole_is_written f bytes b w)
          ∙ ap (λ (l : List ℕ). field_written f x ++ l) others.written
          ∙ sym (append_assoc (field_written f x) (fields_written fs others.own) rest);
    }
