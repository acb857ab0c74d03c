-- Laws that put contracts together as 01's definitions put steps together: one for each way to make a step of others.
use Rattle.std.specs.Prelude.{ℕ, zero, suc, ◌+◌, ◌≡◌, refl, Bool, true, false, cond, List, [], ◌++◌}
use Rattle.std.proofs.Math.Path.{ap}
use Rattle.std.proofs.Common.{◌∙◌, arith}
use Rattle.scope.specs.Geometry.{Geometry}
use Rattle.scope.specs.SmallRecord.{SmallRecord}
use Rattle.scope.specs.Lent.{State, with_flash, with_directory, with_cache, with_small}
use Rattle.scope.specs.Operations.{Operation, Read, Program, Mark, Erase, apply, Counts, counts_add, no_counts, counts_of, counted, Outcome, Step, give, look, perform, set_directory, set_cache, set_small, for, ◌>>=◌}
use Rattle.flash.specs.Listed.{counts_same, counted_++}
use Rattle.lent.specs.Does.{Does}

-- ---- counts

-- The counts with one more of a kind.
abbrev pub one_read : Counts → Counts
one_read c = record { reads = c.reads + 1; programs = c.programs; erases = c.erases }

abbrev pub one_program : Counts → Counts
one_program c = record { reads = c.reads; programs = c.programs + 1; erases = c.erases }

abbrev pub one_erase : Counts → Counts
one_erase c = record { reads = c.reads; programs = c.programs; erases = c.erases + 1 }

-- No operation adds nothing.
counted_none : (c : Counts) → counts_add c (counted []) ≡ c
unfolding counted
counted_none c = counts_same (omega arith) (omega arith) (omega arith)

-- ---- ends

-- The same step under other names for what it leaves and for what it hands back.
pub does_ends : {A : Type 0} {m : Step A} {s s' s'' : State} {c c' c'' : Counts} {x : A}
    → Does m s c x s' c' → s' ≡ s'' → c' ≡ c'' → Does m s c x s'' c''
does_ends a e q = record { value = a.value; after = a.after ∙ e; counting = a.counting ∙ q }

pub does_value : {A : Type 0} {m : Step A} {s s' : State} {c c' : Counts} {x y : A} → Does m s c x s' c' → x ≡ y → Does m s c y s' c'
does_value a e = record { value = a.value ∙ e; after = a.after; counting = a.counting }

-- The same outcome, the same contract.
pub does_same : {A : Type 0} {m n : Step A} {s s' : State} {c c' : Counts} {x : A} → m s ≡ n s → Does n s c x s' c' → Does m s c x s' c'
does_same {A} {c = c} e d =
    record {
      value = ap (λ (o : Outcome A). o.value) e ∙ d.value;
      after = ap (λ (o : Outcome A). o.after) e ∙ d.after;
      counting = ap (λ (o : Outcome A). counts_add c (counted o.did)) e ∙ d.counting;
    }

-- A state with equal parts in the place of its own is the same.
module _ (s : State) {r r' : SmallRecord} where
  pub flash_same : {chip chip' spare spare' : List ℕ} → chip ≡ chip' → spare ≡ spare' → r ≡ r'
      → with_flash chip spare (with_small r s) ≡ with_flash chip' spare' (with_small r' s)
  flash_same a b e = λ i. with_flash (a i) (b i) (with_small (e i) s)

  pub directory_same : {directory directory' : List ℕ} → directory ≡ directory' → r ≡ r'
      → with_directory directory (with_small r s) ≡ with_directory directory' (with_small r' s)
  directory_same a e = λ i. with_directory (a i) (with_small (e i) s)

  pub cache_same : {cache cache' : List ℕ} → cache ≡ cache' → r ≡ r'
      → with_cache cache (with_small r s) ≡ with_cache cache' (with_small r' s)
  cache_same a e = λ i. with_cache (a i) (with_small (e i) s)

-- ---- nothing done

module _ {A : Type 0} {s : State} {c : Counts} where
  pub does_give : (x : A) → Does (give x) s c x s c
  unfolding give
  does_give x = record { value = refl; after = refl; counting = counted_none c }

  pub does_look : (f : State → A) → Does (look f) s c (f s) s c
  unfolding look
  does_look f = record { value = refl; after = refl; counting = counted_none c }

  -- What was seen, under another name.
  pub does_look_at : (f : State → A) {x : A} → f s ≡ x → Does (look f) s c x s c
  unfolding look
  does_look_at f e = record { value = e; after = refl; counting = counted_none c }

-- ---- one step after another

-- f is the rest of the definition, which antt finds in the goal: write `_`.
module _ {A B : Type 0} {m : Step A} {s s₁ s₂ : State} {c c₁ c₂ : Counts} {x : A} {y : B} where
  pub does_bind : (f : A → Step B) → Does m s c x s₁ c₁ → Does (f x) s₁ c₁ y s₂ c₂ → Does (m >>= f) s c y s₂ c₂
  unfolding ◌>>=◌
  does_bind f a b =
      record {
        value = ap (λ (o : Outcome B). o.value) goes_on ∙ b.value;
        after = ap (λ (o : Outcome B). o.after) goes_on ∙ b.after;
        counting = ap (λ (o : Outcome B). counts_add c (counted ((m s).did ++ o.did))) goes_on
            ∙ ap (counts_add c) (counted_++ (m s).did (f x s₁).did)
            ∙ counts_same (omega arith) (omega arith) (omega arith)
            ∙ ap (λ (k : Counts). counts_add k (counted (f x s₁).did)) a.counting
            ∙ b.counting;
      }
    where
      goes_on : f (m s).value (m s).after ≡ f x s₁
      goes_on = ap (λ (v : A). f v (m s).after) a.value ∙ ap (f x) a.after

-- ---- a step that a test chooses

module _ {A : Type 0} {s s' : State} {c c' : Counts} {x : A} where
  pub does_cond_true : (b : Bool) (m n : Step A) → b ≡ true → Does m s c x s' c' → Does (cond b m n) s c x s' c'
  does_cond_true b m n e a = rw e a

  pub does_cond_false : (b : Bool) (m n : Step A) → b ≡ false → Does n s c x s' c' → Does (cond b m n) s c x s' c'
  does_cond_false b m n e a = rw e a

-- ---- operations

module _ (g : Geometry) {s : State} {c : Counts} where
  -- An operation, with what it adds to the counts.
  does_perform : (o : Operation) {c' : Counts} → counts_add c (counts_add (counts_of o) no_counts) ≡ c'
      → Does (perform g o) s c tt (apply g o s) c'
  unfolding perform counted
  does_perform o e = record { value = refl; after = refl; counting = e }

  pub does_read : (p : ℕ) → Does (perform g (Read p)) s c tt s (one_read c)
  unfolding apply
  does_read p = does_perform (Read p) (counts_same (omega arith) (omega arith) (omega arith))

  pub does_program : (p owner : ℕ) (words : List ℕ)
      → Does (perform g (Program p owner words)) s c tt (apply g (Program p owner words) s) (one_program c)
  does_program p owner words = does_perform (Program p owner words) (counts_same (omega arith) (omega arith) (omega arith))

  pub does_mark : (p : ℕ) → Does (perform g (Mark p)) s c tt (apply g (Mark p) s) c
  does_mark p = does_perform (Mark p) (counts_same (omega arith) (omega arith) (omega arith))

  pub does_erase : (b : ℕ) → Does (perform g (Erase b)) s c tt (apply g (Erase b) s) (one_erase c)
  does_erase b = does_perform (Erase b) (counts_same (omega arith) (omega arith) (omega arith))

-- ---- the parts that are not flash

module _ {s : State} {c : Counts} where
  pub does_set_directory : (f : State → List ℕ) → Does (set_directory f) s c tt (with_directory (f s) s) c
  unfolding set_directory
  does_set_directory f = record { value = refl; after = refl; counting = counted_none c }

  pub does_set_cache : (f : State → List ℕ) → Does (set_cache f) s c tt (with_cache (f s) s) c
  unfolding set_cache
  does_set_cache f = record { value = refl; after = refl; counting = counted_none c }

  pub does_set_small : (f : SmallRecord → SmallRecord) → Does (set_small f) s c tt (with_small (f s.small) s) c
  unfolding set_small
  does_set_small f = record { value = refl; after = refl; counting = counted_none c }

-- ---- a step for each number below a bound: for none, and for one more

module _ (f : ℕ → Step (Unit {0})) {s : State} {c : Counts} where
  pub does_for_none : Does (for zero f) s c tt s c
  unfolding for
  does_for_none = does_give tt

  pub does_for_more : (n : ℕ) {s₁ s₂ : State} {c₁ c₂ : Counts}
      → Does (for n f) s c tt s₁ c₁ → Does (f n) s₁ c₁ tt s₂ c₂ → Does (for (suc n) f) s c tt s₂ c₂
  unfolding for
  does_for_more n a b = does_bind _ a b
