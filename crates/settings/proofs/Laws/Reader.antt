-- The reader's steps around the fields, taken apart: what makes them accept, what they accepted, and what they hand back where they refuse.
use Rattle.std.specs.Prelude.{ℕ, zero, suc, ◌+◌, ◌≡◌, refl, ◌≢◌, true, not, List, [], ◌∷◌, eqb, ltb, length, get_or, drop, replicate}
use Rattle.std.proofs.Common.{sym, ap, subst, ◌∙◌, arith, drop-cons, eqb-true}
use Rattle.std.proofs.Math.Option.{Option, none, some, some-injective, some-ne-none}
use Rattle.std.proofs.Math.Seq.{drop-length}
use Rattle.std.proofs.lemmas.Bool.{not-false}
use Rattle.scope.specs.Geometry.{accepted}
use Rattle.settings.specs.Fields.{Field, field_bytes, number, Reading, Refused, Numbers, ACCEPTED, next, fields_read}
use Rattle.settings.specs.Settings.{Version, version_of, may_follow, numbers_of, numbers_words, geometry_from, Answered, answered, ended, by_table, by_version}
use Rattle.settings.proofs.Laws.Tests.{of_both, not_refused}

-- ---- accepting

pub ended_accepts : (v : Version) (numbers tail : List ℕ) → may_follow v tail ≡ true → accepted (geometry_from numbers) ≡ true
    → ended v (Numbers numbers tail) ≡ answered ACCEPTED numbers
ended_accepts v numbers tail f a = rw (f, a)

-- A refusal is not 0, in a reading as in an answer.
abbrev pub SaysWhy : Reading → Type 0
SaysWhy (Refused n) = n ≢ ACCEPTED
SaysWhy (Numbers numbers bytes) = Unit {0}

pub next_says_why : (f : Field) (r : Reading) → SaysWhy r → SaysWhy (next f r)
unfolding next
next_says_why f (Refused n) h = h
next_says_why f (Numbers numbers bytes) h =
    of_both SaysWhy (ltb (length bytes) (field_bytes f)) (λ e. omega arith)
    (λ e. of_both SaysWhy (not (eqb (get_or bytes 0 0) f.tag)) (λ e. omega arith)
    (λ e. of_both SaysWhy (not (eqb (number 2 (drop 1 bytes)) f.bytes)) (λ e. omega arith) (λ e. tt)))

pub fields_read_say_why : (fs : List Field) (r : Reading) → SaysWhy r → SaysWhy (fields_read fs r)
unfolding fields_read
fields_read_say_why [] r h = h
fields_read_say_why (f ∷ fs) r h = fields_read_say_why fs (next f r) (next_says_why f r h)

-- Two calls that gave the same gave the same answer and left the same; so one with another answer than 0 did not accept.
pub same_outcome : {r r₁ : ℕ} {left left₁ : List ℕ} → answered r left ≡ answered r₁ left₁ → (r ≡ r₁) × (left ≡ left₁)
same_outcome e = (ap (λ (a : Answered). a.answer) e, ap (λ (a : Answered). a.left) e)

pub did_not_accept : (n : ℕ) {left numbers : List ℕ} → n ≢ ACCEPTED → answered n left ≢ answered ACCEPTED numbers
did_not_accept n h e = h (same_outcome e).0

-- ---- what was accepted

-- All the fields were read, nothing stands behind them that may not, and the geometry is accepted.
pub record Ended (v : Version) (r : Reading) (numbers : List ℕ) : Type 0 where
  pub tail : List ℕ
  pub all_read : r ≡ Numbers numbers tail
  pub follows : may_follow v tail ≡ true
  pub is_accepted : accepted (geometry_from numbers) ≡ true

pub ended_accepted : (v : Version) (r : Reading) (numbers : List ℕ) → SaysWhy r → ended v r ≡ answered ACCEPTED numbers → Ended v r numbers
ended_accepted v (Refused n) numbers h e = absurd (did_not_accept n h e)
ended_accepted v (Numbers xs tail) numbers h e =
    let (follows, e1) = not_refused (not (may_follow v tail)) (did_not_accept _ (omega arith)) e in
    let (is_accepted, e2) = not_refused (not (accepted (geometry_from xs))) (did_not_accept _ (omega arith)) e1 in
    let same : xs ≡ numbers = (same_outcome e2).1 in
    record {
      tail = tail;
      all_read = ap (λ (l : List ℕ). Numbers l tail) same;
      follows = not-false (may_follow v tail) follows;
      is_accepted =
          subst (λ (l : List ℕ). accepted (geometry_from l) ≡ true) same (not-false (accepted (geometry_from xs)) is_accepted);
    }

pub table_accepted : (o : Option Version) (bytes numbers : List ℕ) → by_table o bytes ≡ answered ACCEPTED numbers
    → (v : Version) × (o ≡ some v) × (ended v (fields_read v.fields (Numbers [] bytes)) ≡ answered ACCEPTED numbers)
table_accepted none bytes numbers e = absurd (did_not_accept _ (omega arith) e)
table_accepted (some v) bytes numbers e = (v, refl, e)

pub version_accepted : (known : List Version) (r : Reading) (numbers : List ℕ) → SaysWhy r → by_version known r ≡ answered ACCEPTED numbers
    → (before : List ℕ) × (bytes : List ℕ) × (r ≡ Numbers before bytes)
version_accepted known (Refused n) numbers h e = absurd (did_not_accept n h e)
version_accepted known (Numbers before bytes) numbers h e = (before, bytes, refl)

-- ---- the table of versions

-- A fact of each version of a table.
abbrev pub Each : (Version → Type 0) → List Version → Type 0
Each P [] = Unit {0}
Each P (v ∷ known) = P v × Each P known

-- A version that is found is one of them, and is found under its own number.
pub found_is_one : (P : Version → Type 0) (known : List Version) (n : ℕ) (v : Version) → Each P known → version_of known n ≡ some v
    → P v × (n ≡ v.number)
unfolding version_of
found_is_one P [] n v h = λ e. absurd (some-ne-none v (sym e))
found_is_one P (w ∷ known) n v h =
    of_both (λ (o : Option Version). o ≡ some v → P v × (n ≡ v.number)) (eqb n w.number)
    (λ b e. let same : w ≡ v = some-injective w v e in
    (subst P same h.0, eqb-true n w.number b ∙ ap (λ (v : Version). v.number) same))
    (λ b. found_is_one P known n v h.1)

-- ---- the six numbers

-- The n elements of a list from place i on: those of a geometry that was read are such, and nothing here lists them.
elements : ℕ → ℕ → List ℕ → List ℕ
elements zero i l = []
elements (suc n) i l = get_or l i 0 ∷ elements n (suc i) l

elements_are_the_rest : (n i : ℕ) (l : List ℕ) → i + n ≡ length l → elements n i l ≡ drop i l
unfolding elements
elements_are_the_rest zero i l e =
    let all : length l ≡ i = omega arith in
    sym (subst (λ (k : ℕ). drop k l ≡ []) all (drop-length l))
elements_are_the_rest (suc n) i l e =
    ap (λ (rest : List ℕ). get_or l i 0 ∷ rest) (elements_are_the_rest n (suc i) l (omega arith)) ∙ sym (drop-cons l i 0 (omega arith))

pub numbers_of_their_geometry : (numbers : List ℕ) → length numbers ≡ numbers_words → numbers_of (geometry_from numbers) ≡ numbers
unfolding elements
numbers_of_their_geometry numbers e = elements_are_the_rest numbers_words 0 numbers (omega arith)

-- ---- refusing

-- "A refusal hands back six zeros."
abbrev pub ZerosIfRefused : Answered → Type 0
ZerosIfRefused a = a.answer ≢ ACCEPTED → a.left ≡ replicate numbers_words 0

ended_zeros : (v : Version) (r : Reading) → ZerosIfRefused (ended v r)
ended_zeros v (Refused n) = λ h. refl
ended_zeros v (Numbers numbers tail) =
    of_both ZerosIfRefused (not (may_follow v tail)) (λ e h. refl)
    (λ e. of_both ZerosIfRefused (not (accepted (geometry_from numbers))) (λ e h. refl) (λ e h. absurd (h refl)))

table_zeros : (o : Option Version) (bytes : List ℕ) → ZerosIfRefused (by_table o bytes)
table_zeros none bytes = λ h. refl
table_zeros (some v) bytes = ended_zeros v (fields_read v.fields (Numbers [] bytes))

pub version_zeros : (known : List Version) (r : Reading) → ZerosIfRefused (by_version known r)
version_zeros known (Refused n) = λ h. refl
version_zeros known (Numbers numbers bytes) = table_zeros (version_of known (get_or numbers 0 0)) bytes
