-- "Chip and spare after are the operations applied in their order to chip and spare before": what that says of a step, and that it
-- holds of each form that a step is made of. AppliedSteps.antt has it of every step and call.
use Prim.Native.Nat.{ℕ, zero, suc}
use Rattle.std.specs.Prelude.{◌≡◌, Bool, true, false, cond, List, [], ◌∷◌, ◌++◌}
use Rattle.std.proofs.Math.Path.{refl}
use Rattle.std.proofs.Common.{◌∙◌}
use Rattle.scope.specs.Geometry.{Geometry}
use Rattle.scope.specs.SmallRecord.{SmallRecord}
use Rattle.scope.specs.Lent.{State, Mapping}
use Rattle.scope.specs.Operations.{Operation, Read, Program, Mark, Erase, Step, apply, apply_all, give, look, perform, set_directory, set_cache, set_small, for, ◌>>=◌}
use Rattle.scope.specs.Room.{Following}

-- Two states with the same chip and spare.
pub record SameFlash (s t : State) : Type 0 where
  pub chip : s.chip ≡ t.chip
  pub spare : s.spare ≡ t.spare

pub record Applied (g : Geometry) {A : Type 0} (m : Step A) : Type 0 where
  pub law : (s : State) → SameFlash (m s).after (apply_all g (m s).did s)

-- All that operations change.
abbrev pub flash_of : State → List ℕ × List ℕ
flash_of s = (s.chip, s.spare)

-- States that differ elsewhere alone: `refl` says so of a state with another directory, cache or record.
pub flash_as : {s t : State} → flash_of s ≡ flash_of t → SameFlash s t
flash_as e = record { chip = λ i. (e i).0; spare = λ i. (e i).1 }

pub flash_refl : {s : State} → SameFlash s s
flash_refl = flash_as refl

pub flash_trans : {s t u : State} → SameFlash s t → SameFlash t u → SameFlash s u
flash_trans a b = record { chip = a.chip ∙ b.chip; spare = a.spare ∙ b.spare }

pub apply_same : (g : Geometry) (o : Operation) {s t : State} → SameFlash s t → SameFlash (apply g o s) (apply g o t)
unfolding apply
apply_same g (Read p) h = h
apply_same g (Program p owner words) h = record { chip = rw h.chip; spare = rw h.spare }
apply_same g (Mark p) h = record { chip = h.chip; spare = rw h.spare }
apply_same g (Erase b) h = record { chip = rw h.chip; spare = rw h.spare }

pub apply_all_same : (g : Geometry) (os : List Operation) {s t : State}
    → SameFlash s t → SameFlash (apply_all g os s) (apply_all g os t)
unfolding apply_all
apply_all_same g [] h = h
apply_all_same g (o ∷ os) h = apply_all_same g os (apply_same g o h)

pub apply_all_append : (g : Geometry) (os ps : List Operation) (s : State)
    → apply_all g (os ++ ps) s ≡ apply_all g ps (apply_all g os s)
unfolding apply_all
apply_all_append g [] ps s = refl
apply_all_append g (o ∷ os) ps s = apply_all_append g os ps (apply g o s)

-- The law of what follows a moved page.
pub record AppliedFollowing (g : Geometry) (follow : Following) : Type 0 where
  pub moved : (k p : ℕ) → Applied g (follow.moved k p)
  pub settled : (waiting : List Mapping) → Applied g (follow.settled waiting)

-- Each form that a step is made of.
module _ {g : Geometry} where
  pub applied_bind : {A B : Type 0} {m : Step A} {f : A → Step B}
      → Applied g m → ((x : A) → Applied g (f x)) → Applied g (m >>= f)
  unfolding ◌>>=◌
  applied_bind {m = m} {f} a b =
      record {
        law = λ s.
            let s' = (m s).after in
            flash_trans
            ((b (m s).value).law s')
            (rw apply_all_append (apply_all_same g (f (m s).value s').did (a.law s)));
      }

  pub applied_give : {A : Type 0} (x : A) → Applied g (give x)
  unfolding give apply_all
  applied_give x = record { law = λ s. flash_refl }

  pub applied_look : {A : Type 0} (f : State → A) → Applied g (look f)
  unfolding look apply_all
  applied_look f = record { law = λ s. flash_refl }

  pub applied_perform : (o : Operation) → Applied g (perform g o)
  unfolding perform apply_all
  applied_perform o = record { law = λ s. flash_refl }

  pub applied_set_directory : (f : State → List ℕ) → Applied g (set_directory f)
  unfolding set_directory apply_all
  applied_set_directory f = record { law = λ s. flash_as refl }

  pub applied_set_cache : (f : State → List ℕ) → Applied g (set_cache f)
  unfolding set_cache apply_all
  applied_set_cache f = record { law = λ s. flash_as refl }

  pub applied_set_small : (f : SmallRecord → SmallRecord) → Applied g (set_small f)
  unfolding set_small apply_all
  applied_set_small f = record { law = λ s. flash_as refl }

  pub applied_cond : {A : Type 0} {m n : Step A} (b : Bool) → Applied g m → Applied g n → Applied g (cond b m n)
  applied_cond true a c = a
  applied_cond false a c = c

  pub applied_for : {f : ℕ → Step (Unit {0})} (n : ℕ) → ((i : ℕ) → Applied g (f i)) → Applied g (for n f)
  unfolding for
  applied_for zero a = applied_give tt
  applied_for (suc n) a = applied_bind (applied_for n a) (λ _. a n)
