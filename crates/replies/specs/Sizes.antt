-- The lengths beside the state's, tested together with those of the state.
use Rattle.std.specs.Prelude.{ℕ, ◌*◌, ◌≤◌, ◌≡◌, refl, ◌≢◌, Bool, true, false, ◌&&◌, List, [], ◌∷◌, ◌++◌, eqb, leb}
use Rattle.std.proofs.Common.{sym, ap, ◌∙◌, le-leb, eq-eqb, ne_eqb}
use Rattle.scope.specs.Geometry.{Geometry}
use Rattle.scope.specs.Lent.{State, most_requests}
use Rattle.scope.specs.Replies.{Size, right_sizes}
use Rattle.scope.specs.Calls.{state_sizes}
use Rattle.scope.specs.Boundary.{call_sizes}
use Rattle.flash.specs.Tests.{and_passed, and_assoc}

-- The sizes of what a run of n requests lends: scope's `run_sizes` of lists of these lengths.
abbrev pub sizes_of_run : Geometry → ℕ → ℕ → ℕ → List Size
sizes_of_run g n words answers = record { has = words; should = n * g.W } ∷ record { has = answers; should = n } ∷ []

-- What is tested beside them: that no request word is odd, as one of C's can be, and what every call lends.
abbrev pub beside_run : ℕ → ℕ → ℕ → List Size
beside_run odd small counts = record { has = odd; should = 0 } ∷ call_sizes small counts

-- What the code tests beside the state's lengths; "page buffer of W words", "at most 1,024" requests.
abbrev pub buffer_right : Geometry → ℕ → List Size → Bool
buffer_right g buffer others = right_sizes (record { has = buffer; should = g.W } ∷ others)

abbrev pub run_right : Geometry → ℕ → ℕ → ℕ → List Size → Bool
run_right g n words answers others = leb n most_requests && right_sizes (sizes_of_run g n words answers ++ others)

-- ---- sizes one after the other, as the code tests them

module _ {has should : ℕ} (zs : List Size) where
  pub size_wrong : has ≢ should → false ≡ right_sizes (record { has = has; should = should } ∷ zs)
  unfolding right_sizes
  size_wrong h = rw (ne_eqb has should h)

  pub size_right : has ≡ should → right_sizes zs ≡ right_sizes (record { has = has; should = should } ∷ zs)
  unfolding right_sizes
  size_right h = rw (eq-eqb has should h)

pub last_size : (has should : ℕ) → eqb has should ≡ right_sizes (record { has = has; should = should } ∷ [])
unfolding right_sizes
last_size has should = sym (and_passed (eqb has should))

-- A run's sizes are tested where it has few enough requests.
pub few_enough : {n : ℕ} {r right : Bool} → n ≤ most_requests → r ≡ right → r ≡ leb n most_requests && right
few_enough {n} h e = rw (le-leb n most_requests h) e

-- ---- with the state's

both : (zs ys : List Size) → right_sizes (zs ++ ys) ≡ right_sizes zs && right_sizes ys
unfolding right_sizes
both [] ys = refl
both (z ∷ zs) ys =
    ap (λ (b : Bool). eqb z.has z.should && b) (both zs ys)
    ∙ sym (and_assoc (eqb z.has z.should) (right_sizes zs) (right_sizes ys))

module _ (g : Geometry) (s : State) where
  -- The code tests with `right`, its own name for whether the sizes beside the state's are right.
  pub with_others : (others : List Size) {right : Bool} → right ≡ right_sizes others
      → right_sizes (state_sizes g s) && right ≡ right_sizes (state_sizes g s ++ others)
  with_others others named = ap (λ (b : Bool). right_sizes (state_sizes g s) && b) named ∙ sym (both (state_sizes g s) others)

  pub with_run : (n words answers : ℕ) (others : List Size)
      → right_sizes (state_sizes g s ++ sizes_of_run g n words answers ++ others) && leb n most_requests
      ≡ right_sizes (state_sizes g s) && run_right g n words answers others
  with_run n words answers others =
      ap (λ (b : Bool). b && leb n most_requests) (both (state_sizes g s) (sizes_of_run g n words answers ++ others))
      ∙ few_first (right_sizes (state_sizes g s)) (right_sizes (sizes_of_run g n words answers ++ others)) (leb n most_requests)
    where
      few_first : (a b c : Bool) → (a && b) && c ≡ a && (c && b)
      few_first true true true = refl
      few_first true true false = refl
      few_first true false true = refl
      few_first true false false = refl
      few_first false b c = refl
