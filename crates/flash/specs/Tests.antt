-- What a test's result tells: equations between tests, tests one after the other, and a loop that tests each number.
use Rattle.std.specs.Prelude.{ℕ, zero, suc, ◌+◌, ◌≤◌, ◌<◌, ◌≡◌, refl, Bool, true, false, not, ◌&&◌, ◌||◌}
use Rattle.std.proofs.Common.{sym, ◌∙◌, subst, add-zero, add-suc, add-one, arith}
use Rattle.std.proofs.lemmas.Bool.{not-true, not-false}
use Rattle.scope.specs.Counting.{all}
use Rattle.scope.specs.Laws.Decides.{Decides}
use Rattle.flash.specs.Cases.{clash, true_and, is_false}
use Rattle.flash.specs.Counting.{all_each, each_all}

-- Two tests that pass together are equal; a sum of none.
pub same_test : (a b : Bool) → (a ≡ true → b ≡ true) → (b ≡ true → a ≡ true) → a ≡ b
same_test true b f g = sym (f refl)
same_test false b f g = sym (is_false b (λ p. clash (g p) refl))

pub or_none : (a : Bool) {b : Bool} → b ≡ false → a || b ≡ a
or_none true p = refl
or_none false p = p

pub and_passed : (a : Bool) → a && true ≡ a
and_passed true = refl
and_passed false = refl

pub and_assoc : (a b c : Bool) → a && b && c ≡ a && (b && c)
and_assoc true b c = refl
and_assoc false b c = refl

-- What a branch on `!f(..)` tells of the test that f's result equals.
pub refused : {r b : Bool} → r ≡ b → not r ≡ true → b ≡ false
refused {r} e h = sym e ∙ not-true r h

pub passed : {r b : Bool} → r ≡ b → not r ≡ false → b ≡ true
passed {r} e h = sym e ∙ not-false r h

-- Two tests one after the other: the first refused; the first passed, and the second's result handed on.
pub first_refused : {r a : Bool} (b : Bool) → r ≡ a → not r ≡ true → false ≡ a && b
first_refused b e h = rw (refused e h)

pub first_passed : {r a q b : Bool} → r ≡ a → not r ≡ false → q ≡ b → q ≡ a && b
first_passed e h k = rw (passed e h) k

-- ---- results that decide

-- Two tests that decide one proposition are equal; a result decides that the test which it equals passes.
pub decided_same : {a b : Bool} {X : Type 0} → Decides a X → Decides b X → a ≡ b
decided_same {a} {b} d e = same_test a b (λ p. e.passes (d.holds p)) (λ q. d.passes (e.holds q))

pub decides_test : {r b : Bool} → r ≡ b → Decides r (b ≡ true)
decides_test e = record { holds = λ p. sym e ∙ p; passes = λ p. e ∙ p }

pub decides_by : {r b : Bool} {X : Type 0} → r ≡ b → Decides b X → Decides r X
decides_by {X = X} e d = subst (λ (t : Bool). Decides t X) (sym e) d

-- What a branch on `!f(..)` tells of what f's result decides: where it is refused, the whole of which it is a part doesn't hold.
pub part_passed : {r : Bool} {X : Type 0} → Decides r X → not r ≡ false → X
part_passed {r} d h = d.holds (not-false r h)

pub part_refused : {r : Bool} {X Whole : Type 0} → Decides r X → not r ≡ true → (Whole → X) → Decides false Whole
part_refused {r} d h part =
    record { holds = λ p. clash p refl; passes = λ w. clash (d.passes (part w)) (not-true r h) }

-- ---- tests of the numbers below a bound

-- Tests that agree below n pass together.
pub all_same : (n : ℕ) (f h : ℕ → Bool) → ((i : ℕ) → i < n → f i ≡ h i) → all n f ≡ all n h
all_same zero f h e = refl
all_same (suc n) f h e = rw (all_same n f h (λ i k. e i (omega arith)), e n (omega arith))

-- The numbers below m + n: those below m, and those from m on.
pub all_add : (m n : ℕ) (f : ℕ → Bool) → all (m + n) f ≡ all m f && all n (λ i. f (m + i))
all_add m zero f = rw (add-zero m) (sym (and_passed (all m f)))
all_add m (suc n) f = rw (add-suc, all_add m n f) (and_assoc (all m f) (all n (λ i. f (m + i))) (f (m + n)))

pub all_upto : (m n : ℕ) (f : ℕ → Bool) → m ≤ n → all n f ≡ true → all m f ≡ true
all_upto m n f le p = each_all m f (λ j k. all_each n f p j (omega arith))

-- A loop that tests the numbers below n one after the other, at i: those before i have passed. The code's result of a test is r, and
-- `if !r` stops.
pub record PassedUpto (n : ℕ) (f : ℕ → Bool) (i : ℕ) : Type 0 where
  pub within : i ≤ n
  pub fine : all i f ≡ true

pub passed_none : (n : ℕ) (f : ℕ → Bool) → PassedUpto n f 0
passed_none n f = record { within = omega arith; fine = refl }

pub passed_more : {f : ℕ → Bool} (n i : ℕ) (r : Bool) → PassedUpto n f i → i < n → r ≡ f i → not r ≡ false → PassedUpto n f (i + 1)
passed_more n i r t h e p = record { within = omega arith; fine = rw add-one (true_and t.fine (passed e p)) }

pub passed_stops : {f : ℕ → Bool} (n i : ℕ) (r : Bool) → PassedUpto n f i → i < n → r ≡ f i → not r ≡ true → false ≡ all n f
passed_stops {f} n i r t h e p = sym (is_false (all n f) (λ q. clash (all_each n f q i h) (refused e p)))

pub passed_done : {f : ℕ → Bool} (n i : ℕ) → PassedUpto n f i → n ≤ i → true ≡ all n f
passed_done {f} n i t h =
    let is : n ≡ i = omega (arith, t.within) in
    rw is (sym t.fine)
