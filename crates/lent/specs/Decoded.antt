-- What the code learns of a word from the entry that it was decoded to, and that *none* alone is decoded to Nowhere.
use Rattle.std.specs.Prelude.{ℕ, ◌≡◌, refl, ◌≢◌, Bool, true, false, cond, eqb}
use Rattle.std.proofs.Common.{arith, eqb-true}
use Rattle.std.proofs.lemmas.Bool.{eqb-false}
use Rattle.scope.specs.Lent.{none, Place, Nowhere, decode}

-- The word of a place is the page's number and no *none*.
pub record IsPlace (x p : ℕ) : Type 0 where
  pub is_page : x ≡ p
  pub is_some : x ≢ none

pub of_place : (x p : ℕ) → Place p ≡ decode x → IsPlace x p
of_place x p = go (eqb x none) refl
  where
    go : (b : Bool) → eqb x none ≡ b → Place p ≡ cond b Nowhere (Place x) → IsPlace x p
    go true e h = let z : ◌≡◌ {A = ℕ} 0 1 = cc in absurd (omega arith)
    go false e h = record { is_page = cc; is_some = eqb-false x none e }

pub of_nowhere : (x : ℕ) → Nowhere ≡ decode x → x ≡ none
of_nowhere x = go (eqb x none) refl
  where
    go : (b : Bool) → eqb x none ≡ b → Nowhere ≡ cond b Nowhere (Place x) → x ≡ none
    go true e h = eqb-true x none e
    go false e h = let z : ◌≡◌ {A = ℕ} 0 1 = cc in absurd (omega arith)
