-- Dropping an entry. If it is changed it is written back first: flash comes to store the places of all changed entries of its translation
-- page, and these become unchanged. An unchanged entry can go. Every current place stays, and rule 7 holds, at each of the three steps.
use Rattle.std.specs.Prelude.{ℕ, suc, ◌≤◌, ◌<◌, ◌≡◌, refl, ◌≢◌, false, List, []}
use Rattle.std.proofs.Common.{arith, ap, sym, ◌∙◌, subst, eq-eqb}
use Rattle.flash.specs.Cases.{same?}
use Rattle.scope.specs.Geometry.{Geometry}
use Rattle.scope.specs.Lent.{State, Mapping, logical_at, changed_at, translation_page}
use Rattle.scope.specs.Operations.{set_cache}
use Rattle.scope.specs.Cache.{is_changed, changed_of, become_unchanged, forget}
use Rattle.scope.specs.Sound.{UnchangedAgree}
use Rattle.cache.specs.Holds.{Found, Hit, Miss, updated, hit_at, hit_below_L}
use Rattle.cache.specs.Waiting.{latest, latest_none}
use Rattle.cache.specs.Neighbours.{ChangedAt, test_of_page, changed_of_waits, changed_of_latest, page_unchanged, no_longer_changed}
use Rattle.cache.specs.Steps.{HoldsIn, CacheStep, RanksKept, forget_law, become_unchanged_law}
use Rattle.cache.specs.Current.{stored_in, PlacesKept, agree_maps, forget_keeps_places, unchanged_keeps_places}
use Rattle.cache.specs.Stored.{RestsOnFlash, unchanged_stored, stored_keeps_places}

-- What an update with the changed entries of translation page t leaves: the cache, and what flash stores for all other pages.
pub record ChangedStored (g : Geometry) (t : ℕ) (s s' : State) : Type 0 where
  pub cache : s'.cache ≡ s.cache
  pub used : s'.small.used ≡ s.small.used
  pub here : (l : ℕ) → l < g.L → translation_page g l ≡ t
      → stored_in g s' l ≡ latest (changed_of g t s.small.used s.cache) l (stored_in g s l)
  pub elsewhere : (l : ℕ) → l < g.L → translation_page g l ≢ t → stored_in g s' l ≡ stored_in g s l

module _ (g : Geometry) (t : ℕ) (s s' : State) (m : ℕ → Found) (h : HoldsIn g s m) (seven : UnchangedAgree g s)
    (stores : ChangedStored g t s s') where
  abbrev used : ℕ
  used = s.small.used

  abbrev set : List Mapping
  set = changed_of g t used s.cache

  -- What was set is of changed entries, so that flash is as it was wherever rule 7 or a place rests on it.
  rests : (l : ℕ) → l < g.L → RestsOnFlash (m l) → stored_in g s' l ≡ stored_in g s l
  rests l below r =
      same? (translation_page g l) t
      (λ e. stores.here l below e ∙ latest_none set l (stored_in g s l) (λ q. unset (changed_of_waits g t s.cache used l q)))
      (λ e. stores.elsewhere l below e)
    where
      unset : ChangedAt g t used l s.cache → ⊥
      unset c =
          let e : changed_at c.rank s.cache ≡ 0 = subst RestsOnFlash (ap m (sym c.is_l) ∙ h.hits c.rank c.before) r in
          omega (arith, e, c.changed)

  pub update_keeps_places : PlacesKept g s s'
  update_keeps_places = stored_keeps_places g s s' m h seven stores.cache stores.used rests

  -- Flash stores the place of every entry of the page: of a changed one because it was set, of another by rule 7.
  pub page_stored : (l place c : ℕ) → m l ≡ Hit place c → translation_page g l ≡ t → place ≡ stored_in g s' l
  page_stored l place c e of_t =
      let a = hit_at g s.cache used m h l place c e in
      let below = hit_below_L g s.cache used m h l place c e in
      same? c 1
      (λ q. sym (stores.here l below of_t
      ∙ ap (λ k. latest set k (stored_in g s l)) (sym a.logical)
      ∙ changed_of_latest g t s.cache used a.rank (stored_in g s l) a.in_use
      (test_of_page g t s.cache a.rank (ap (translation_page g) a.logical ∙ of_t)
      ∙ eq-eqb (changed_at a.rank s.cache) 1 (a.changed ∙ q))
      (λ j k. h.entries.different j a.rank k a.in_use)
      ∙ a.physical))
      (λ q.
      let z : c ≡ 0 = omega (arith, h.entries.changed_fits a.rank a.in_use, a.changed) in
      let unchanged : m l ≡ Hit place 0 = e ∙ ap (Hit place) z in
      agree_maps g s m h seven l place unchanged ∙ sym (rests l below (rw unchanged refl)))

  h' : HoldsIn g s' m
  h' = rw (stores.cache, stores.used) h

  -- They become unchanged.
  pub unchanged_then : RanksKept g s' (become_unchanged g t s') (page_unchanged g t m)
  unchanged_then = become_unchanged_law g s' m h' t

  pub become_unchanged_keeps_places : PlacesKept g s' (become_unchanged g t s').after
  become_unchanged_keeps_places = unchanged_keeps_places g s' m h' update_keeps_places.agree t unchanged_then.step page_stored

  pub unchanged_in_page : (i : ℕ) → i < used → translation_page g (logical_at i s.cache) ≡ t
      → is_changed i (become_unchanged g t s').after.cache ≡ false
  unfolding become_unchanged set_cache
  unchanged_in_page i in_use of_t = rw (stores.cache, stores.used) (no_longer_changed g t s.cache used m h i in_use of_t)

-- An unchanged entry, the last and a trial one, is forgotten.
pub record Dropped (g : Geometry) (i : ℕ) (s : State) (m : ℕ → Found) : Type 0 where
  pub step : CacheStep g s (forget i s) [] i (updated m (logical_at i s.cache) Miss)
  pub places : PlacesKept g s (forget i s).after

pub drop_law : (g : Geometry) (s : State) (m : ℕ → Found) → HoldsIn g s m → UnchangedAgree g s → (i : ℕ) → suc i ≡ s.small.used
    → s.small.protected ≤ i → is_changed i s.cache ≡ false → Dropped g i s m
drop_law g s m h seven i last trial unchanged =
    let step = forget_law g s m h i last trial in
    record {
      step = step;
      places = forget_keeps_places g s m h seven i step (omega arith)
          (unchanged_stored g s h.entries seven i (omega arith) unchanged);
    }
