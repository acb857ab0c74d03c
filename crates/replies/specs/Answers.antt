-- The two ways to a call's contract: a test applies and nothing is done, or none does and the steps are made.
use Rattle.std.specs.Prelude.{ℕ, ◌≡◌, refl, ◌≢◌, List, [], ◌∷◌, length, set}
use Rattle.std.proofs.Common.{sym, ap, ◌∙◌, arith, eq-eqb, ne_eqb}
use Rattle.flash.specs.Listed.{counts_same}
use Rattle.lent.specs.Does.{Does}
use Rattle.lent.specs.DoesLaws.{does_give, does_look, does_bind, does_cond_true, does_cond_false}
use Rattle.scope.specs.Lent.{State}
use Rattle.scope.specs.Operations.{Counts, no_counts, Step, look, ◌>>=◌}
use Rattle.scope.specs.Replies.{DONE, Test, first_applying, admit}
use Rattle.scope.specs.Boundary.{counts_words, put_counts}
use Rattle.scope.specs.Holding.{Answers}

pub set_three : (l : List ℕ) → length l ≡ counts_words → {a b c : ℕ} → set (set (set l 0 a) 1 b) 2 c ≡ a ∷ b ∷ c ∷ []
set_three [] e = absurd (omega arith)
set_three (x ∷ []) e = absurd (omega arith)
set_three (x ∷ y ∷ []) e = absurd (omega arith)
set_three (x ∷ y ∷ z ∷ []) e = refl
set_three (x ∷ y ∷ z ∷ w ∷ l) e = absurd (omega arith)

-- A call that does its definition from no counts on, and puts its counts.
pub does_answers : {A : Type 0} {m : Step A} {s s' : State} {x : A} (c : Counts) {counts counts' : List ℕ}
    → Does m s no_counts x s' c → counts' ≡ put_counts counts c → Answers (m s) counts x s' counts'
does_answers {m = m} {s = s} c {counts} d e =
    record {
      value = d.value;
      after = d.after;
      counted = e ∙ ap (put_counts counts) (sym d.counting ∙ counts_same (omega arith) (omega arith) (omega arith));
    }

-- Tests, and the steps that follow them where none applies.
module _ {A : Type 0} (ts : List Test) (refused : ℕ → A) (steps : Step A) {s : State} {c : Counts} where
  pub admit_refuses : {n : ℕ} → n ≡ first_applying ts → n ≢ DONE → Does (admit ts refused steps) s c (refused n) s c
  unfolding admit
  admit_refuses e h = rw e (does_cond_false _ _ _ (ne_eqb (first_applying ts) DONE (λ z. h (e ∙ z))) (does_give _))

  pub admit_serves : {x : A} {s' : State} {c' : Counts} → DONE ≡ first_applying ts → Does steps s c x s' c'
      → Does (admit ts refused steps) s c x s' c'
  unfolding admit
  admit_serves e d = does_cond_true _ _ _ (eq-eqb (first_applying ts) DONE (sym e)) d

-- The same for tests that look at the state.
module _ {A B : Type 0} (f : State → B) (tests : B → List Test) (refused : ℕ → A) (steps : Step A) {s : State} {c : Counts} where
  pub refuses : {n : ℕ} → n ≡ first_applying (tests (f s)) → n ≢ DONE
      → Does (look f >>= (λ t. admit (tests t) refused steps)) s c (refused n) s c
  refuses e h = does_bind _ (does_look f) (admit_refuses _ _ _ e h)

  pub admits : {x : A} {s' : State} {c' : Counts} → DONE ≡ first_applying (tests (f s)) → Does steps s c x s' c'
      → Does (look f >>= (λ t. admit (tests t) refused steps)) s c x s' c'
  admits e d = does_bind _ (does_look f) (admit_serves _ _ _ e d)
