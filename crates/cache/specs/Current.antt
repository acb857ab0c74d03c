-- Current places and rule 7, by what the cache holds and what flash stores; and what the steps that change the cache do to them.
use Rattle.std.specs.Prelude.{ℕ, ◌<◌, ◌≡◌, refl, ◌≢◌, List, eqb}
use Rattle.std.proofs.Common.{arith, sym, ◌∙◌, eq-eqb, ne_eqb, lt-ltb, le-ltb}
use Rattle.std.proofs.Math.Path.{ap}
use Rattle.flash.specs.Cases.{on, same?, below?}
use Rattle.scope.specs.Geometry.{Geometry}
use Rattle.scope.specs.Lent.{State, logical_at, physical_at, translation_page}
use Rattle.scope.specs.Operations.{Operation, Outcome}
use Rattle.scope.specs.Sound.{rank_of, stored, current, UnchangedAgree}
use Rattle.cache.specs.Ranks.{rank_found, rank_missing}
use Rattle.cache.specs.Holds.{Found, Hit, Miss, hit_is_no_miss, updated, updated_here, updated_elsewhere, hit_at}
use Rattle.cache.specs.Neighbours.{unchanged_found, page_unchanged}
use Rattle.cache.specs.Steps.{HoldsIn, CacheStep}

-- "The cache's if l is cached, else the translation page's word."
abbrev pub place_or : ℕ → Found → ℕ
place_or word (Hit place changed) = place
place_or word Miss = word

-- Rule 7, of a map and of what flash stores.
abbrev pub Agrees : (ℕ → Found) → (ℕ → ℕ) → Type 0
Agrees m word = (l place : ℕ) → m l ≡ Hit place 0 → place ≡ word l

-- What flash stores in a state.
abbrev pub stored_in : Geometry → State → ℕ → ℕ
stored_in g s = stored g s.chip s.directory

module _ (g : Geometry) (s : State) (m : ℕ → Found) (h : HoldsIn g s m) where
  pub current_is : (l : ℕ) → current g s l ≡ place_or (stored_in g s l) (m l)
  unfolding current
  current_is l =
      let i = rank_of g s.cache s.small.used l in
      below? i g.C
      (λ k.
      let r = rank_found g s.cache s.small.used l k in
      rw (lt-ltb i g.C k) (ap (place_or (stored_in g s l)) (sym (h.hits i r.in_use) ∙ ap m r.is_l)))
      (λ k.
      let n = rank_missing g s.cache s.small.used l h.entries.at_most k in
      rw (le-ltb i g.C k) (ap (place_or (stored_in g s l)) (sym (h.misses l n))))

  pub agree_maps : UnchangedAgree g s → Agrees m (stored_in g s)
  agree_maps seven l place e =
      let a = hit_at g s.cache s.small.used m h l place 0 e in
      sym a.physical
      ∙ seven a.rank (omega (arith, a.in_use, h.entries.at_most)) a.in_use a.changed
      ∙ ap (stored_in g s) a.logical

  pub maps_agree : Agrees m (stored_in g s) → UnchangedAgree g s
  maps_agree a i c u z =
      a (logical_at i s.cache) (physical_at i s.cache) (h.hits i u ∙ ap (Hit (physical_at i s.cache)) z)

-- Every current place is as it was, and rule 7 holds.
pub record PlacesKept (g : Geometry) (s s' : State) : Type 0 where
  pub places : (l : ℕ) → l < g.L → current g s' l ≡ current g s l
  pub agree : UnchangedAgree g s'

pub places_then : {g : Geometry} {s s' s'' : State} → PlacesKept g s s' → PlacesKept g s' s'' → PlacesKept g s s''
places_then a b = record { places = λ l k. b.places l k ∙ a.places l k; agree = b.agree }

-- The current place of l is now `place`; the others are as they were, and rule 7 holds.
pub record PlaceSet (g : Geometry) (l place : ℕ) (s s' : State) : Type 0 where
  pub here : current g s' l ≡ place
  pub elsewhere : (k : ℕ) → k < g.L → k ≢ l → current g s' k ≡ current g s k
  pub agree : UnchangedAgree g s'

-- Where l already had the place, all are kept.
set_keeps_places : {g : Geometry} {l place : ℕ} {s s' : State}
    → PlaceSet g l place s s' → current g s l ≡ place → PlacesKept g s s'
set_keeps_places {l = l} a e =
    record {
      places = λ k b. same? k l (λ q. rw q (a.here ∙ sym e)) (λ q. a.elsewhere k b q);
      agree = a.agree;
    }

-- A step of the cache alone leaves what flash stores, so that only the map decides.
module _ {g : Geometry} {A : Type 0} {s : State} {o : Outcome A} {ops : List Operation} {used : ℕ} {m : ℕ → Found}
    (step : CacheStep g s o ops used m) where
  step_stored : (l : ℕ) → stored_in g o.after l ≡ stored_in g s l
  step_stored l = rw (step.flash.chip, step.directory)

  step_current : (l : ℕ) → current g o.after l ≡ place_or (stored_in g s l) (m l)
  step_current l = current_is g o.after m step.holds l ∙ ap (λ w. place_or w (m l)) (step_stored l)

  step_agree : Agrees m (stored_in g s) → UnchangedAgree g o.after
  step_agree a = maps_agree g o.after m step.holds (λ l place e. a l place e ∙ sym (step_stored l))

module _ (g : Geometry) (s : State) (m : ℕ → Found) (h : HoldsIn g s m) (seven : UnchangedAgree g s) where
  -- The map stays.
  pub touch_keeps_places : {A : Type 0} {o : Outcome A} {ops : List Operation} {used : ℕ}
      → CacheStep g s o ops used m → PlacesKept g s o.after
  touch_keeps_places step =
      record {
        places = λ l b. step_current step l ∙ sym (current_is g s m h l);
        agree = step_agree step (agree_maps g s m h seven);
      }

  -- The answer for l changes: rule 7 asks of the new one what it asks of every entry.
  updated_sets_place : {A : Type 0} {o : Outcome A} {ops : List Operation} {used : ℕ} (l : ℕ) (new : Found)
      → CacheStep g s o ops used (updated m l new) → ((place : ℕ) → new ≡ Hit place 0 → place ≡ stored_in g s l)
      → PlaceSet g l (place_or (stored_in g s l) new) s o.after
  updated_sets_place l new step fits =
      record {
        here = step_current step l ∙ ap (place_or (stored_in g s l)) (updated_here m l new);
        elsewhere = λ k b d.
            step_current step k ∙ ap (place_or (stored_in g s k)) (updated_elsewhere m l new k d) ∙ sym (current_is g s m h k);
        agree = step_agree step (λ k place e. same? k l
            (λ q. fits place (sym (updated_here m l new) ∙ ap (updated m l new) (sym q) ∙ e) ∙ ap (stored_in g s) (sym q))
            (λ q. agree_maps g s m h seven k place (sym (updated_elsewhere m l new k q) ∙ e)));
      }

  -- What flash stores for l enters the cache, unchanged.
  pub enter_keeps_places : {A : Type 0} {o : Outcome A} {ops : List Operation} {used : ℕ} (l place : ℕ)
      → CacheStep g s o ops used (updated m l (Hit place 0)) → m l ≡ Miss → place ≡ stored_in g s l → PlacesKept g s o.after
  enter_keeps_places l place step miss q =
      set_keeps_places
      (updated_sets_place l (Hit place 0) step (λ p e. let z : p ≡ place = cc in z ∙ q))
      (current_is g s m h l ∙ ap (place_or (stored_in g s l)) miss ∙ sym q)

  -- What flash stores for the page of the entry at a rank leaves the cache.
  pub forget_keeps_places : {A : Type 0} {o : Outcome A} {ops : List Operation} {used : ℕ} (i : ℕ)
      → CacheStep g s o ops used (updated m (logical_at i s.cache) Miss)
      → i < s.small.used → physical_at i s.cache ≡ stored_in g s (logical_at i s.cache) → PlacesKept g s o.after
  forget_keeps_places i step k q =
      let l = logical_at i s.cache in
      set_keeps_places
      (updated_sets_place l Miss step (λ p e. absurd (hit_is_no_miss (sym e))))
      (current_is g s m h l ∙ ap (place_or (stored_in g s l)) (h.hits i k) ∙ q)

  -- Another place for l, changed.
  pub set_entry_sets_place : {A : Type 0} {o : Outcome A} {ops : List Operation} {used : ℕ} (l place : ℕ)
      → CacheStep g s o ops used (updated m l (Hit place 1)) → PlaceSet g l place s o.after
  set_entry_sets_place l place step =
      updated_sets_place l (Hit place 1) step (λ p e. let z : ◌≡◌ {A = ℕ} 1 0 = cc in absurd (omega arith))

  -- The entries of translation page t become unchanged, where flash stores the place of each.
  pub unchanged_keeps_places : {A : Type 0} {o : Outcome A} {ops : List Operation} {used : ℕ} (t : ℕ)
      → CacheStep g s o ops used (page_unchanged g t m)
      → ((l place c : ℕ) → m l ≡ Hit place c → translation_page g l ≡ t → place ≡ stored_in g s l) → PlacesKept g s o.after
  unchanged_keeps_places t step stores =
      record {
        places = λ l b. step_current step l ∙ same_place l ∙ sym (current_is g s m h l);
        agree = step_agree step agrees;
      }
    where
      place_unchanged : (word : ℕ) (f : Found) → place_or word (unchanged_found f) ≡ place_or word f
      place_unchanged word (Hit place c) = refl
      place_unchanged word Miss = refl

      same_place : (l : ℕ) → place_or (stored_in g s l) (page_unchanged g t m l) ≡ place_or (stored_in g s l) (m l)
      same_place l =
          on (eqb (translation_page g l) t) (λ e. rw e (place_unchanged (stored_in g s l) (m l))) (λ e. rw e refl)

      was_stored : (l place : ℕ) → translation_page g l ≡ t → (f : Found) → m l ≡ f → unchanged_found f ≡ Hit place 0
          → place ≡ stored_in g s l
      was_stored l place of_t (Hit p c) e q = let z : place ≡ p = cc in z ∙ stores l p c e of_t
      was_stored l place of_t Miss e q = absurd (hit_is_no_miss (sym q))

      agrees : Agrees (page_unchanged g t m) (stored_in g s)
      agrees l place e =
          same? (translation_page g l) t
          (λ q. was_stored l place q (m l) refl (rw (eq-eqb (translation_page g l) t q) at e))
          (λ q. agree_maps g s m h seven l place (rw (ne_eqb (translation_page g l) t q) at e))
