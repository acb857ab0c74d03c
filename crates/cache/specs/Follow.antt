-- What follows a moved data page, in the cache: the entry of a cached owner takes the new place, and the others wait.
-- `latest w l (current g s l)` is where page l is while w waits; Stored.antt has what settling makes of it.
use Rattle.std.specs.Prelude.{ℕ, ◌≤◌, ◌<◌, ◌≡◌, refl, ◌≢◌, List, [], ◌∷◌, ◌++◌, length}
use Rattle.std.proofs.Common.{arith, ap, sym, ◌∙◌, ⊎_elim, append-nil, lt-ltb, le-ltb}
use Rattle.flash.specs.Cases.{below?}
use Rattle.flash.specs.Heads.{SameHead, head_same}
use Rattle.scope.specs.Geometry.{Geometry}
use Rattle.scope.specs.Regions.{Region}
use Rattle.scope.specs.Lent.{State, Mapping, cache_size, logical_at}
use Rattle.scope.specs.Operations.{Outcome, give, look, ◌>>=◌}
use Rattle.scope.specs.Steps.{cache_or_wait}
use Rattle.scope.specs.Cache.{set_entry}
use Rattle.scope.specs.Sound.{EntriesFit, rank_of, current, UnchangedAgree}
use Rattle.scope.specs.Laws.Applied.{SameFlash, flash_refl}
use Rattle.cache.specs.Ranks.{HasRank, NotCached, rank_found, rank_missing}
use Rattle.cache.specs.Holds.{Found, Hit, updated, lookup, holds_lookup}
use Rattle.cache.specs.Steps.{HoldsIn, RanksKept, set_entry_law}
use Rattle.cache.specs.Current.{PlaceSet, set_entry_sets_place}
use Rattle.cache.specs.Waiting.{latest, Waits, latest_none, latest_here, latest_elsewhere, waits_append}

-- The pages that wait are logical pages that are not cached.
pub record WaitingFits (g : Geometry) (w : List Mapping) (cache : List ℕ) (used : ℕ) : Type 0 where
  pub below_L : (l : ℕ) → Waits w l → l < g.L
  pub not_cached : (l : ℕ) → Waits w l → NotCached cache used l

-- After page l has moved to a new place while w waited: nothing but the cache may have changed, and there no rank.
pub record Followed (g : Geometry) (w : List Mapping) (l place : ℕ) (s : State) (o : Outcome (List Mapping)) : Type 0 where
  pub did : o.did ≡ []
  pub flash : SameFlash o.after s
  pub directory : o.after.directory ≡ s.directory
  pub heads : (r : Region) → SameHead r s.small o.after.small
  pub used : o.after.small.used ≡ s.small.used
  pub protected : o.after.small.protected ≡ s.small.protected
  pub long : length o.after.cache ≡ cache_size g
  pub entries : EntriesFit g o.after.cache o.after.small.used
  pub ranks : (i : ℕ) → logical_at i o.after.cache ≡ logical_at i s.cache
  pub agree : UnchangedAgree g o.after
  pub at_most_one : length o.value ≤ 1
  pub waiting : WaitingFits g (w ++ o.value) o.after.cache o.after.small.used
  pub here : latest (w ++ o.value) l (current g o.after l) ≡ place
  pub elsewhere : (k : ℕ) → k < g.L → k ≢ l → latest (w ++ o.value) k (current g o.after k) ≡ latest w k (current g s k)

module _ (g : Geometry) (w : List Mapping) (s : State) (long : length s.cache ≡ cache_size g)
    (fits : EntriesFit g s.cache s.small.used) (seven : UnchangedAgree g s)
    (waiting : WaitingFits g w s.cache s.small.used) where
  -- The owner is cached, at rank i.
  entry_follows : (l i place : ℕ) → HasRank s.cache s.small.used l i
      → Followed g w l place s (record { value = []; after = (set_entry i place s).after; did = (set_entry i place s).did ++ [] })
  entry_follows l i place r =
      record {
        did = ap (λ x. x ++ []) set.step.did;
        flash = set.step.flash;
        directory = set.step.directory;
        heads = set.step.heads;
        used = set.step.used;
        protected = set.protected;
        long = set.step.holds.long;
        entries = set.step.holds.entries;
        ranks = set.ranks;
        agree = places.agree;
        at_most_one = omega arith;
        waiting = rw append-nil
            (record {
              below_L = waiting.below_L;
              not_cached = λ k q j u e.
                  waiting.not_cached k q j (omega (arith, set.step.used)) (sym (set.ranks j) ∙ e);
            });
        here = rw append-nil
            (latest_none w l (current g after l) (λ q. waiting.not_cached l q i r.in_use r.is_l) ∙ places.here);
        elsewhere = λ k b d. rw append-nil (ap (latest w k) (places.elsewhere k b d));
      }
    where
      m : ℕ → Found
      m = lookup g s.cache s.small.used

      h : HoldsIn g s m
      h = holds_lookup g s.cache s.small.used long fits

      after : State
      after = (set_entry i place s).after

      set : RanksKept g s (set_entry i place s) (updated m l (Hit place 1))
      set = set_entry_law g s m h l i place r

      places : PlaceSet g l place s after
      places = set_entry_sets_place g s m h seven l place set.step

  -- It isn't, and waits.
  owner_waits : (l place : ℕ) → l < g.L → NotCached s.cache s.small.used l
      → Followed g w l place s (record { value = record { logical = l; physical = place } ∷ []; after = s; did = [] })
  owner_waits l place b n =
      record {
        did = refl;
        flash = flash_refl;
        directory = refl;
        heads = λ r. head_same r refl;
        used = refl;
        protected = refl;
        long = long;
        entries = fits;
        ranks = λ i. refl;
        agree = seven;
        at_most_one = omega arith;
        waiting =
            record {
              below_L = λ k q. ⊎_elim (waiting.below_L k) (⊎_elim (λ e. rw (← e) b) absurd) (waits_append w (x ∷ []) k q);
              not_cached = λ k q. ⊎_elim (waiting.not_cached k) (⊎_elim (λ e. rw (← e) n) absurd) (waits_append w (x ∷ []) k q);
            };
        here = latest_here w l place (current g s l);
        elsewhere = λ k _ d. latest_elsewhere w l place k (current g s k) d;
      }
    where
      x : Mapping
      x = record { logical = l; physical = place }

  pub cache_or_wait_law : (l place : ℕ) → l < g.L → Followed g w l place s (cache_or_wait g l place s)
  unfolding cache_or_wait look give ◌>>=◌
  cache_or_wait_law l place b =
      let i = rank_of g s.cache s.small.used l in
      below? i g.C
      (λ k. rw (lt-ltb i g.C k) (entry_follows l i place (rank_found g s.cache s.small.used l k)))
      (λ k. rw (le-ltb i g.C k) (owner_waits l place b (rank_missing g s.cache s.small.used l fits.at_most k)))
