-- 02, P2: what the write-back of a dropped entry promises of its neighbours, from any sound state. Rule 7 of the entries that became
-- unchanged is where an error would look right: the word that was set is the one that they name.
use Rattle.std.specs.Prelude.{ℕ, ◌≤◌, ◌<◌, ◌≡◌, ◌≢◌, false}
use Rattle.std.proofs.Math.Path.{sym, ap}
use Rattle.std.proofs.Common.{◌∙◌}
use Rattle.scope.specs.Geometry.{Geometry, Accepted}
use Rattle.scope.specs.Lent.{State, logical_at, physical_at, changed_at, translation_page}
use Rattle.scope.specs.Operations.{Outcome, look, set_cache, ◌>>=◌}
use Rattle.scope.specs.Cache.{is_changed, changed_of, become_unchanged}
use Rattle.scope.specs.Steps.{write_back, update}
use Rattle.scope.specs.Sound.{Sound}
use Rattle.flash.specs.Moments.{cost}
use Rattle.flash.specs.Lengths.{Lengths}
use Rattle.cache.specs.Neighbours.{physical_stays, other_stays}
use Rattle.cache.specs.Steps.{HoldsIn}
use Rattle.cache.specs.Current.{stored_in}
use Rattle.cache.specs.Drop.{ChangedStored, page_stored, unchanged_in_page}
use Rattle.promises.specs.Parts.{cache_of, cached, cache_holds}
use Rattle.promises.specs.Update.{update_bound, Updated}
use Rattle.promises.specs.Translate.{changed_updated, updated_can_go}

-- "All changed cached entries of the same translation page are to be set in that one update and become unchanged, ranks kept": of the
-- entries in use, by their rank, where the one at rank i is dropped.
pub record WrittenTogether (g : Geometry) (i : ℕ) (s : State) (o : Outcome (Unit {0})) : Type 0 where
  -- Flash stores the place that each entry of the page names, and each is unchanged.
  pub stored : (j : ℕ) → j < s.small.used → translation_page g (logical_at j s.cache) ≡ translation_page g (logical_at i s.cache)
      → stored_in g o.after (logical_at j s.cache) ≡ physical_at j s.cache
  pub unchanged : (j : ℕ) → j < s.small.used → translation_page g (logical_at j s.cache) ≡ translation_page g (logical_at i s.cache)
      → is_changed j o.after.cache ≡ false
  -- One of another page is changed if it was.
  pub others : (j : ℕ) → j < s.small.used → translation_page g (logical_at j s.cache) ≢ translation_page g (logical_at i s.cache)
      → changed_at j o.after.cache ≡ changed_at j s.cache
  -- Each entry has the rank and the place that it had, and as many are in use and protected.
  pub ranks : (j : ℕ) → logical_at j o.after.cache ≡ logical_at j s.cache
  pub places : (j : ℕ) → physical_at j o.after.cache ≡ physical_at j s.cache
  pub used : o.after.small.used ≡ s.small.used
  pub protected : o.after.small.protected ≡ s.small.protected
  -- The bound is that of one update, with one entry or with many.
  pub costs : cost o.did ≤ update_bound g

module _ {g : Geometry} (ok : Accepted g) (s : State) (len : Lengths g s) (sound : Sound g s) (i : ℕ) (in_use : i < s.small.used) where
  abbrev t : ℕ
  t = translation_page g (logical_at i s.cache)

  -- The state once the page is updated.
  abbrev s₁ : State
  s₁ = (update g t (changed_of g t s.small.used s.cache) s).after

  updated : Updated g t (changed_of g t s.small.used s.cache) (update_bound g) s (update g t (changed_of g t s.small.used s.cache) s)
  updated = changed_updated s len sound i in_use ok

  stores : ChangedStored g t s s₁
  stores = record { cache = updated.only.cache; used = updated.only.rest.used; here = updated.here; elsewhere = updated.elsewhere }

  holds : HoldsIn g s (cached g s)
  holds = cache_holds g s len (cache_of sound)

  pub written_together : WrittenTogether g i s (write_back g i s)
  unfolding write_back become_unchanged set_cache look ◌>>=◌
  written_together =
      let go = updated_can_go s len sound i in_use (update g t (changed_of g t s.small.used s.cache) s) updated in
      record {
        stored = λ j u of_t. sym (page_stored g t s s₁ (cached g s) holds sound.rule_7 stores (logical_at j s.cache)
            (physical_at j s.cache) (changed_at j s.cache) (holds.hits j u) of_t);
        unchanged = λ j u of_t. unchanged_in_page g t s s₁ (cached g s) holds sound.rule_7 stores j u of_t;
        others = λ j u other. rw (stores.cache, stores.used) (other_stays g t s.cache s.small.used (cached g s) holds j u other);
        ranks = go.ranks;
        places = λ j. physical_stays g t s₁.cache s₁.small.used j ∙ ap (physical_at j) stores.cache;
        used = go.used;
        protected = go.protected;
        costs = go.kept.costs;
      }
