-- What becomes of current places and rule 7 when flash changes while the cache stays.
use Rattle.std.specs.Prelude.{ℕ, ◌<◌, ◌≡◌, refl, false, List, []}
use Rattle.std.proofs.Common.{arith, ap, sym, ◌∙◌}
use Rattle.std.proofs.lemmas.Bool.{eqb-false}
use Rattle.scope.specs.Geometry.{Geometry}
use Rattle.scope.specs.Lent.{State, Mapping, logical_at, physical_at, changed_at}
use Rattle.scope.specs.Cache.{is_changed}
use Rattle.scope.specs.Sound.{EntriesFit, current, UnchangedAgree}
use Rattle.cache.specs.Holds.{Found, Hit, Miss, hit_is_no_miss, hit_below_L}
use Rattle.cache.specs.Steps.{HoldsIn}
use Rattle.cache.specs.Current.{place_or, stored_in, PlacesKept, current_is, agree_maps, maps_agree}
use Rattle.cache.specs.Waiting.{latest, Waits, latest_none}

-- An entry that is not changed equals what flash stores.
pub unchanged_stored : (g : Geometry) (s : State) → EntriesFit g s.cache s.small.used → UnchangedAgree g s
    → (i : ℕ) → i < s.small.used → is_changed i s.cache ≡ false
    → physical_at i s.cache ≡ stored_in g s (logical_at i s.cache)
unchanged_stored g s fits seven i k e =
    seven i (omega (arith, fits.at_most)) k
    (omega (arith, fits.changed_fits i k, eqb-false (changed_at i s.cache) 1 e))

-- Where flash matters: for a page that is not cached, and by rule 7 for one that is cached and unchanged.
abbrev pub RestsOnFlash : Found → Type 0
RestsOnFlash (Hit place c) = c ≡ 0
RestsOnFlash Miss = Unit {0}

-- Every current place is what it was while w waited, and rule 7 holds.
pub record Settled (g : Geometry) (w : List Mapping) (s s' : State) : Type 0 where
  pub places : (l : ℕ) → l < g.L → current g s' l ≡ latest w l (current g s l)
  pub agree : UnchangedAgree g s'

-- The cache stays, and flash stores what waited, of pages that are not cached, wherever it matters.
module _ (g : Geometry) (s s' : State) (m : ℕ → Found) (h : HoldsIn g s m) (seven : UnchangedAgree g s)
    (cache : s'.cache ≡ s.cache) (used : s'.small.used ≡ s.small.used) where
  pub stored_settles : (w : List Mapping) → ((l : ℕ) → Waits w l → m l ≡ Miss)
      → ((l : ℕ) → l < g.L → RestsOnFlash (m l) → stored_in g s' l ≡ latest w l (stored_in g s l))
      → Settled g w s s'
  stored_settles w apart stores =
      record {
        places = λ l b. current_is g s' m h' l ∙ place l b (m l) refl;
        agree = maps_agree g s' m h' (λ l p e.
            agree_maps g s m h seven l p e
            ∙ sym (latest_none w l (stored_in g s l) (not_waiting l p 0 e))
            ∙ sym (stores l (hit_below_L g s.cache s.small.used m h l p 0 e) (rw e refl)));
      }
    where
      h' : HoldsIn g s' m
      h' = rw (cache, used) h

      not_waiting : (l p c : ℕ) → m l ≡ Hit p c → Waits w l → ⊥
      not_waiting l p c e q = hit_is_no_miss (sym e ∙ apart l q)

      was : (l : ℕ) (f : Found) → m l ≡ f → current g s l ≡ place_or (stored_in g s l) f
      was l f e = current_is g s m h l ∙ ap (place_or (stored_in g s l)) e

      place : (l : ℕ) → l < g.L → (f : Found) → m l ≡ f → place_or (stored_in g s' l) (m l) ≡ latest w l (current g s l)
      place l b (Hit p c) e =
          rw e (sym (latest_none w l (current g s l) (not_waiting l p c e) ∙ was l (Hit p c) e))
      place l b Miss e = rw e (stores l b (rw e tt) ∙ ap (latest w l) (sym (was l Miss e)))

  -- The same where nothing waited.
  pub stored_keeps_places : ((l : ℕ) → l < g.L → RestsOnFlash (m l) → stored_in g s' l ≡ stored_in g s l)
      → PlacesKept g s s'
  stored_keeps_places stores =
      let a = stored_settles [] (λ l q. absurd q) stores in
      record { places = a.places; agree = a.agree }
