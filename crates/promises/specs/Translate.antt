-- Translate: l's entry is found, or is fetched, and another one is dropped and written back where it must be. Every logical
-- page stays where it is, and it costs at most 2P+2.
use Rattle.std.specs.Prelude.{ℕ, suc, ◌+◌, ◌*◌, ◌≤◌, ◌<◌, ◌≡◌, refl, false, cond, List, ◌++◌}
use Rattle.std.proofs.Common.{sym, ◌∙◌, ap, subst, arith, lt-ltb, le-ltb}
use Rattle.scope.specs.Geometry.{Geometry, Accepted}
use Rattle.scope.specs.Lent.{Mapping, Entry, Place, Nowhere, State, named, logical_at, translation_page}
use Rattle.scope.specs.Operations.{Outcome, give, look, nothing, counted, ◌>>=◌}
use Rattle.scope.specs.Cache.{touch, forget, dropped, is_changed, changed_of, become_unchanged}
use Rattle.scope.specs.Steps.{write_back, drop_entry, drop_if_full, fetch, translate, update}
use Rattle.scope.specs.Sound.{rank_of, Sound}
use Rattle.flash.specs.Moments.{cost}
use Rattle.flash.specs.Cases.{on, same?, below?}
use Rattle.flash.specs.Lengths.{Lengths}
use Rattle.flash.specs.Listed.{cost_none}
use Rattle.cache.specs.Ranks.{HasRank, rank_found, rank_missing}
use Rattle.cache.specs.Holds.{Miss, updated, updated_here, updated_elsewhere, holds_found}
use Rattle.cache.specs.Neighbours.{changed_of_waits, page_unchanged, unchanged_misses}
use Rattle.cache.specs.Steps.{HoldsIn, RanksKept, full_has_trial, dropped_is_trial, forget_ranks, forget_protected, touch_law}
use Rattle.cache.specs.Current.{stored_in, touch_keeps_places, enter_keeps_places}
use Rattle.cache.specs.Drop.{ChangedStored, update_keeps_places, unchanged_then, become_unchanged_keeps_places, unchanged_in_page, drop_law}
use Rattle.cache.specs.Fetch.{page_read, fetch_law}
use Rattle.promises.specs.Index.{page_below}
use Rattle.promises.specs.Parts.{index_of, cache_of, cached, cache_holds, border_same}
use Rattle.promises.specs.Update.{update_bound, Updated, update_law}
use Rattle.promises.specs.Stored.{MappingsOf}
use Rattle.promises.specs.Keeping.{Kept, within, kept_none, kept_then, kept_sound, cache_kept}

-- The most that translate costs.
abbrev pub translate_bound : Geometry → ℕ
translate_bound g = 2 * g.P + 2

-- What translate promises: all is kept, and l's entry is in use at the rank handed back.
pub record Translated (g : Geometry) (l : ℕ) (s : State) (o : Outcome ℕ) : Type 0 where
  pub kept : Kept g (translate_bound g) s o
  pub rank : HasRank o.after.cache o.after.small.used l o.value

page_read_cost : (e : Entry) → cost (page_read e) ≤ 1
unfolding counted
page_read_cost (Place p) = omega arith
page_read_cost Nowhere = omega arith

-- All is kept, no page has come into the cache, and the entry at rank i, still in use, is unchanged: it can go.
pub record CanGo (g : Geometry) (i : ℕ) (s : State) (o : Outcome (Unit {0})) : Type 0 where
  pub kept : Kept g (update_bound g) s o
  pub used : o.after.small.used ≡ s.small.used
  pub protected : o.after.small.protected ≡ s.small.protected
  pub ranks : (j : ℕ) → logical_at j o.after.cache ≡ logical_at j s.cache
  pub missing : (k : ℕ) → cached g s k ≡ Miss → cached g o.after k ≡ Miss
  pub unchanged : is_changed i o.after.cache ≡ false

-- An entry is free, and no page has come into the cache; of those in use only the last may have gone.
pub record Free (g : Geometry) (s : State) (o : Outcome (Unit {0})) : Type 0 where
  pub kept : Kept g (update_bound g) s o
  pub room : o.after.small.used < g.C
  pub none_gone : s.small.used < g.C → o.after.small.used ≡ s.small.used
  pub one_gone : g.C ≤ s.small.used → suc o.after.small.used ≡ s.small.used
  pub protected : o.after.small.protected ≡ s.small.protected
  pub ranks : (j : ℕ) → j < o.after.small.used → logical_at j o.after.cache ≡ logical_at j s.cache
  pub missing : (k : ℕ) → cached g s k ≡ Miss → cached g o.after k ≡ Miss

-- ---- the entry that goes

module _ {g : Geometry} (s : State) (len : Lengths g s) (sound : Sound g s) (i : ℕ) (in_use : i < s.small.used) where
  abbrev used : ℕ
  used = s.small.used

  abbrev t : ℕ
  t = translation_page g (logical_at i s.cache)

  -- The changed entries of its translation page, which is updated with them.
  abbrev set : List Mapping
  set = changed_of g t used s.cache

  of_t : MappingsOf g t set
  of_t l waits =
      let c = changed_of_waits g t s.cache used l waits in
      (subst (λ k. k < g.L) c.is_l (sound.rule_5.below_L c.rank c.before), c.of_t)

  pub changed_updated : Accepted g → Updated g t set (update_bound g) s (update g t set s)
  changed_updated ok =
      update_law ok t set s (index_of sound) (page_below ok (logical_at i s.cache) (sound.rule_5.below_L i in_use)) of_t len

  holds : HoldsIn g s (cached g s)
  holds = cache_holds g s len (cache_of sound)

  -- Written back: they are set, which moves no page, and then unchanged, which moves none either.
  pub updated_can_go : (o : Outcome (Unit {0})) → Updated g t set (update_bound g) s o
      → CanGo g i s (record {
        value = tt;
        after = (become_unchanged g t o.after).after;
        did = o.did ++ (become_unchanged g t o.after).did;
      })
  updated_can_go o u =
      record {
        kept = within (update_bound g) (omega arith) (kept_then o (become_unchanged g t o.after) updated settled);
        used = marked.step.used ∙ stores.used;
        protected = marked.protected ∙ u.only.rest.protected;
        ranks = λ j. marked.ranks j ∙ ap (logical_at j) stores.cache;
        missing = λ k e. holds_found g after.cache after.small.used (page_unchanged g t (cached g s)) marked.step.holds k
            ∙ unchanged_misses g t (cached g s) k e;
        unchanged = unchanged_in_page g t s o.after (cached g s) holds sound.rule_7 stores i in_use refl;
      }
    where
      stores : ChangedStored g t s o.after
      stores = record { cache = u.only.cache; used = u.only.rest.used; here = u.here; elsewhere = u.elsewhere }

      marked : RanksKept g o.after (become_unchanged g t o.after) (page_unchanged g t (cached g s))
      marked = unchanged_then g t s o.after (cached g s) holds sound.rule_7 stores

      after : State
      after = (become_unchanged g t o.after).after

      updated : Kept g (update_bound g) s o
      updated =
          let places = update_keeps_places g t s o.after (cached g s) holds sound.rule_7 stores in
          record {
            sound = kept_sound sound u.index
                (record {
                  entries = rw (stores.cache, stores.used) sound.rule_5;
                  border = border_same stores.used u.only.rest.protected sound.rule_5_protected;
                  agree = places.agree;
                })
                u.only.data_pages u.only.rest.head places.places;
            lengths = u.lengths;
            places = places.places;
            pages = u.only.data_pages;
            done = u.done;
            costs = u.costs;
          }

      settled : Kept g 0 o.after (become_unchanged g t o.after)
      settled =
          cache_kept Nowhere updated.sound u.lengths marked.step
          (become_unchanged_keeps_places g t s o.after (cached g s) holds sound.rule_7 stores) (omega (arith, cost_none))

  -- "If it is changed, first write it back."
  pub can_go : Accepted g → CanGo g i s (cond (is_changed i s.cache) (write_back g i) nothing s)
  unfolding write_back look give ◌>>=◌
  can_go ok =
      on (is_changed i s.cache)
      (λ e. rw e (updated_can_go (update g t set s) (changed_updated ok)))
      (λ e. rw e (record {
        kept = kept_none tt sound len;
        used = refl;
        protected = refl;
        ranks = λ j. refl;
        missing = λ k q. q;
        unchanged = e;
      }))

  -- The last entry goes, a trial one.
  forgotten : g.C ≤ used → s.small.protected ≤ i → suc i ≡ used → (o : Outcome (Unit {0})) → CanGo g i s o
      → Free g s (record {
        value = (forget i o.after).value;
        after = (forget i o.after).after;
        did = o.did ++ (forget i o.after).did;
      })
  forgotten full trial last o go =
      let s₁ = o.after in
      let m = cached g s₁ in
      let f = forget i s₁ in
      let d = drop_law g s₁ m (cache_holds g s₁ go.kept.lengths (cache_of go.kept.sound)) go.kept.sound.rule_7 i
      (last ∙ sym go.used) (omega (arith, go.protected)) go.unchanged in
      let gone : Kept g 0 s₁ f = cache_kept Nowhere go.kept.sound go.kept.lengths d.step d.places (omega (arith, cost_none)) in
      let l = logical_at i s₁.cache in
      record {
        kept = within (update_bound g) (omega arith) (kept_then o f go.kept gone);
        room = omega (arith, d.step.used, sound.rule_5.at_most);
        none_gone = λ h. absurd (omega arith);
        one_gone = λ h. omega (arith, d.step.used);
        protected = forget_protected i s₁ ∙ go.protected;
        ranks = λ j h. forget_ranks s₁ i j (omega (arith, d.step.used)) ∙ go.ranks j;
        missing = λ k e.
            holds_found g f.after.cache f.after.small.used (updated m l Miss) d.step.holds k
            ∙ same? k l (λ q. rw q (updated_here m l Miss)) (λ q. updated_elsewhere m l Miss k q ∙ go.missing k e);
      }

-- ---- translate

module _ {g : Geometry} (ok : Accepted g) where
  pub dropped_law : (s : State) → Lengths g s → Sound g s → Free g s (drop_if_full g s)
  unfolding drop_if_full drop_entry dropped look give ◌>>=◌
  dropped_law s len sound =
      let used = s.small.used in
      let i = dropped s in
      below? used g.C
      (λ h. rw (lt-ltb used g.C h)
      (record {
        kept = kept_none tt sound len;
        room = h;
        none_gone = λ k. refl;
        one_gone = λ k. absurd (omega arith);
        protected = refl;
        ranks = λ j k. refl;
        missing = λ k e. e;
      }))
      (λ h.
      let (trial, last) = dropped_is_trial s (full_has_trial g s.small ok.C_from sound.rule_5_protected h) in
      rw (le-ltb used g.C h)
      (forgotten s len sound i (omega (arith, last)) h trial last
      (cond (is_changed i s.cache) (write_back g i) nothing s)
      (can_go s len sound i (omega (arith, last)) ok)))

  -- Where l is not cached: an entry is made free, and what flash stores for l enters.
  fetched : (l : ℕ) (s : State) → l < g.L → cached g s l ≡ Miss → (o : Outcome (Unit {0})) → Free g s o
      → Translated g l s (record {
        value = (fetch g l o.after).value;
        after = (fetch g l o.after).after;
        did = o.did ++ (fetch g l o.after).did;
      })
  fetched l s below miss o free =
      let s₁ = o.after in
      let m = cached g s₁ in
      let page = named (translation_page g l) s₁.directory in
      let holds = cache_holds g s₁ free.kept.lengths (cache_of free.kept.sound) in
      let handed = fetch_law g s₁ m holds ok.W_from l free.kept.sound.rule_5_protected.at_most_used free.room (free.missing l miss) below in
      let places = enter_keeps_places g s₁ m holds free.kept.sound.rule_7 l (stored_in g s₁ l)
      handed.step (free.missing l miss) refl in
      let entered : Kept g 1 s₁ (fetch g l s₁) = cache_kept page free.kept.sound free.kept.lengths handed.step places
      (page_read_cost page) in
      record { kept = within (translate_bound g) (omega arith) (kept_then o (fetch g l s₁) free.kept entered); rank = handed.rank }

  pub translate_law : (l : ℕ) (s : State) → Lengths g s → Sound g s → l < g.L → Translated g l s (translate g l s)
  unfolding translate look ◌>>=◌
  translate_law l s len sound below =
      let i = rank_of g s.cache s.small.used l in
      below? i g.C
      (λ h. rw (lt-ltb i g.C h) (touched i (rank_found g s.cache s.small.used l h)))
      (λ h. rw (le-ltb i g.C h)
      (fetched l s below ((cache_holds g s len (cache_of sound)).misses l
      (rank_missing g s.cache s.small.used l sound.rule_5.at_most h))
      (drop_if_full g s) (dropped_law s len sound)))
    where
      touched : (i : ℕ) → HasRank s.cache s.small.used l i → Translated g l s (touch g i s)
      touched i r =
          let holds = cache_holds g s len (cache_of sound) in
          let handed = touch_law g s (cached g s) holds l i r in
          let places = touch_keeps_places g s (cached g s) holds sound.rule_7 handed.step in
          record { kept = cache_kept Nowhere sound len handed.step places (omega (arith, cost_none)); rank = handed.rank }
