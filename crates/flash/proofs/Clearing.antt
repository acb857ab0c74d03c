-- 01: "State is erased 4,294,967,295, valid 65,535 or invalid 0, so a change other than an erase only clears bits."
-- That this holds of every allowed list of operations, at each of its moments.
use Rattle.std.specs.Prelude.{ℕ, ◌*◌, ◌/◌, ◌%◌, ◌^◌, ◌≤◌, ◌<◌, ◌≡◌, refl, List, [], ◌∷◌, length, set}
use Rattle.std.proofs.Common.{sym, ap, ◌∙◌, arith, get_or-set_same, get_or-set_other, add-zero}
use Rattle.std.specs.Int.Bits.{bit_and, and_self, and_zero_l}
use Rattle.std.proofs.lemmas.Nat.{and_le_r, and_shr, and_mod}
use Rattle.scope.specs.Geometry.{Geometry}
use Rattle.scope.specs.Lent.{none, erased, invalid, State, spare_words, state_of}
use Rattle.scope.specs.Operations.{Operation, Read, Program, Mark, Erase, apply}
use Rattle.flash.specs.Cases.{same?}
use Rattle.flash.specs.Stores.{block_kept}
use Rattle.flash.specs.Lengths.{Lengths}
use Rattle.flash.specs.Kept.{apply_keeps_lengths}
use Rattle.flash.specs.Pages.{claimed_state, claimed_others}
use Rattle.flash.specs.Moments.{Allows, Allowed, OnlyClears, Clears, ClearsEach}

-- Said of bit i.
pub clears_bit : (new old i : ℕ) → OnlyClears new old → new / 2 ^ i % 2 ≤ old / 2 ^ i % 2
clears_bit new old i c =
    let same : new / 2 ^ i % 2 ≡ bit_and (new / 2 ^ i % 2) (old / 2 ^ i % 2) =
    ap (λ (x : ℕ). x / 2 ^ i % 2) (sym c)
    ∙ ap (λ (x : ℕ). x % 2) (and_shr new old i)
    ∙ and_mod (new / 2 ^ i) (old / 2 ^ i) 1 in
    omega (arith, and_le_r (new / 2 ^ i % 2) (old / 2 ^ i % 2))

-- A state that stays clears nothing; one that is stored clears what it clears at its own page.
stays : {new old : ℕ} → new ≡ old → OnlyClears new old
stays {new} {old} e = rw e (and_self old)

stored : (spare : List ℕ) (p q v : ℕ) → p * spare_words < length spare → OnlyClears v (state_of q spare)
    → OnlyClears (state_of p (set spare (q * spare_words) v)) (state_of p spare)
stored spare p q v h c =
    same? p q
    (λ e. rw (e, get_or-set_same spare (q * spare_words) v none (omega arith)) c)
    (λ ne. stays (get_or-set_other spare (q * spare_words) (p * spare_words) v none (omega arith)))

pub allowed_clears : (g : Geometry) (o : Operation) (s : State) → Lengths g s → Allows g o s.chip s.spare → Clears g o s
unfolding apply
allowed_clears g (Read q) s len ok p h out = stays refl
allowed_clears g (Program q owner words) s len ok p h out =
    same? p q
    (λ e. rw (e, claimed_state q owner s.spare (omega (arith, len.spare_fits)), ok.1.state) refl)
    (λ ne. stays (claimed_others q owner s.spare p ne))
allowed_clears g (Mark q) s len ok p h out =
    stored s.spare p q invalid (omega (arith, len.spare_fits)) (and_zero_l (state_of q s.spare))
allowed_clears g (Erase b) s len ok p h out =
    stays (rw add-zero at (block_kept s.spare spare_words g.P b p 0 erased none (omega arith) out))

pub allowed_clears_each : (g : Geometry) (os : List Operation) (s : State) → Lengths g s → Allowed g os s → ClearsEach g os s
allowed_clears_each g [] s len ok = tt
allowed_clears_each g (o ∷ os) s len ok =
    (allowed_clears g o s len ok.0, allowed_clears_each g os (apply g o s) (apply_keeps_lengths g o s len) ok.1)
