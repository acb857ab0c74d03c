-- A chain of tests, each with its refusal: what it came to says which of them passed.
use Rattle.std.specs.Prelude.{◌≡◌, refl, ◌≢◌, Bool, true, false, cond}

-- What holds of the refusal, where the test refuses, and of the rest, where it passes, holds of the chain.
pub of_both : {A : Type 0} (P : A → Type 0) (b : Bool) {x y : A} → (b ≡ true → P x) → (b ≡ false → P y) → P (cond b x y)
of_both P true p q = p refl
of_both P false p q = q refl

-- Where the chain came to something else than the refusal, the test passed, and the rest of the chain came to it.
pub not_refused : {A : Type 0} {x y z : A} (b : Bool) → x ≢ z → cond b x y ≡ z → (b ≡ false) × (y ≡ z)
not_refused {x = x} {y = y} {z = z} b h = of_both (λ w. w ≡ z → (b ≡ false) × (y ≡ z)) b (λ p e. absurd (h e)) (λ p e. (p, e))
