-- Splits of a proof on a test, which keep the goal and give each case its fact, and what the Boolean connectives say.
use Rattle.std.specs.Prelude.{ℕ, suc, ◌≤◌, ◌<◌, ◌≡◌, refl, ◌≢◌, Bool, true, false, not, ◌&&◌, ◌||◌, eqb, ltb}
use Rattle.std.proofs.Common.{sym, ◌∙◌, true≢false, arith}
use borrow.Author.Tests.{eqb-true, eqb-false, ltb-true, ltb-false}

-- A test, with its equation in either case.
pub on {ℓ} : {X : Type ℓ} (b : Bool) → (b ≡ true → X) → (b ≡ false → X) → X
on true f g = f refl
on false f g = g refl

-- Two numbers are equal or not; one is below the other or not.
pub same? {ℓ} : {X : Type ℓ} (a b : ℕ) → (a ≡ b → X) → (a ≢ b → X) → X
same? a b f g = on (eqb a b) (λ e. f (eqb-true a b e)) (λ e. g (eqb-false a b e))

pub below? {ℓ} : {X : Type ℓ} (a b : ℕ) → (a < b → X) → (b ≤ a → X) → X
below? a b f g = on (ltb a b) (λ e. f (ltb-true a b e)) (λ e. g (ltb-false a b e))

-- A number below suc n is below n or is n: the step of an induction on a bound.
pub last {ℓ} : {X : Type ℓ} (i n : ℕ) → i < suc n → (i < n → X) → (i ≡ n → X) → X
last i n h f g = below? i n f (λ k. g (omega arith))

-- A test does not both pass and fail.
pub clash {ℓ} : {X : Type ℓ} {b : Bool} → b ≡ true → b ≡ false → X
clash p q = absurd (true≢false (sym p ∙ q))

-- What && and || say, and how they are shown.
pub and_true : (a b : Bool) → (a && b) ≡ true → (a ≡ true) × (b ≡ true)
and_true true b h = (refl, h)
and_true false b h = clash h refl

pub true_and : {a b : Bool} → a ≡ true → b ≡ true → (a && b) ≡ true
true_and p q = rw (p, q)

pub and_cases {ℓ} : {X : Type ℓ} (a b : Bool) → (a && b) ≡ false → (a ≡ false → X) → (b ≡ false → X) → X
and_cases true b h f g = g h
and_cases false b h f g = f refl

pub or_cases {ℓ} : {X : Type ℓ} (a b : Bool) → (a || b) ≡ true → (a ≡ true → X) → (b ≡ true → X) → X
or_cases true b h f g = f refl
or_cases false b h f g = g h

pub or_right : (a : Bool) {b : Bool} → b ≡ true → (a || b) ≡ true
or_right true q = refl
or_right false q = q

pub or_false : (a b : Bool) → (a || b) ≡ false → (a ≡ false) × (b ≡ false)
or_false true b h = clash refl h
or_false false b h = (refl, h)

-- A test's negation, either way; the tests themselves are turned by `not-true` and `not-false` of borrow.Author.Tests.
pub not_of_false : {b : Bool} → b ≡ false → not b ≡ true
not_of_false p = rw p

pub not_of_true : {b : Bool} → b ≡ true → not b ≡ false
not_of_true p = rw p

pub twice_not : (b : Bool) → not (not b) ≡ b
twice_not true = refl
twice_not false = refl

-- A test that cannot fail passes; one that cannot pass fails.
pub is_true : (b : Bool) → (b ≡ false → ⊥) → b ≡ true
is_true true h = refl
is_true false h = absurd (h refl)

pub is_false : (b : Bool) → (b ≡ true → ⊥) → b ≡ false
is_false true h = absurd (h refl)
is_false false h = refl
