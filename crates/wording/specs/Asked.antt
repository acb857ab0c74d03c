-- The request words as requests: "a request two", kind and page.
use Rattle.std.specs.Prelude.{ℕ, zero, suc, ◌+◌, ◌*◌, ◌/◌, ◌<◌, ◌≡◌, refl, List, [], ◌∷◌, length, get_or}
use Rattle.std.proofs.Common.{ap₂, ◌∙◌, arith}
use Rattle.scope.specs.Lent.{Request}
use Rattle.scope.specs.Calls.{no_request}
use Rattle.scope.specs.Boundary.{requests_of}

-- A last word alone is no request, so there are half as many, rounded down.
pub half_as_many : (ws : List ℕ) → length (requests_of ws) ≡ length ws / 2
unfolding requests_of
half_as_many [] = refl
half_as_many (k ∷ []) = refl
half_as_many (k ∷ p ∷ ws) = omega (arith, half_as_many ws)

-- Request i is in words 2i and 2i + 1.
abbrev pub words_at : List ℕ → ℕ → Request
words_at ws i = record { kind = get_or ws (2 * i) 0; page = get_or ws (2 * i + 1) 0 }

pub request_at : (ws : List ℕ) (i : ℕ) → i < length ws / 2 → get_or (requests_of ws) i no_request ≡ words_at ws i
unfolding requests_of
request_at [] i h = absurd (omega arith)
request_at (k ∷ []) i h = absurd (omega arith)
request_at (k ∷ p ∷ ws) zero h = refl
request_at (k ∷ p ∷ ws) (suc i) h =
    request_at ws i (omega arith)
    ∙ ap₂ (λ (a b : ℕ). record { kind = get_or (k ∷ p ∷ ws) a 0; page = get_or (k ∷ p ∷ ws) b 0 }) kind_word page_word
  where
    kind_word : suc (suc (2 * i)) ≡ 2 * suc i
    kind_word = omega arith

    page_word : suc (suc (2 * i + 1)) ≡ 2 * suc i + 1
    page_word = omega arith
