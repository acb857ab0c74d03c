-- 01, "Reply numbers": the numbers, and the tests that give the refusals. "Tests go in number order and the first that applies answers."
use Rattle.std.specs.Prelude.{ℕ, Bool, true, cond, ◌&&◌, List, [], ◌∷◌, eqb}
use Rattle.scope.specs.Operations.{Step, give}

abbrev pub DONE : ℕ
DONE = 0

abbrev pub UNWRITTEN : ℕ
UNWRITTEN = 1

abbrev pub GEOMETRY : ℕ
GEOMETRY = 2

abbrev pub LENGTH : ℕ
LENGTH = 3

abbrev pub DAMAGED : ℕ
DAMAGED = 4

abbrev pub KIND : ℕ
KIND = 5

abbrev pub PAGE : ℕ
PAGE = 6

-- A refusal's number, and whether it applies.
pub record Test : Type 0 where
  pub number : ℕ
  pub applies : Bool

-- The number of the first test that applies; DONE where none does.
unfoldable pub first_applying : List Test → ℕ
first_applying [] = DONE
first_applying (t ∷ ts) = cond t.applies t.number (first_applying ts)

-- The steps where no test applies; else the refusal, which "changes nothing" and counts 0, 0, 0.
unfoldable pub admit : {A : Type 0} → List Test → (ℕ → A) → Step A → Step A
admit tests refused steps =
    cond (eqb (first_applying tests) DONE) steps (give (refused (first_applying tests)))

-- "LENGTH: some slice differs from the sizes above": a list's length and the size that it should have.
pub record Size : Type 0 where
  pub has : ℕ
  pub should : ℕ

unfoldable pub right_sizes : List Size → Bool
right_sizes [] = true
right_sizes (z ∷ zs) = eqb z.has z.should && right_sizes zs
