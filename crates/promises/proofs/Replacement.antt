-- 02, P5: a translation, and so a read, replaces as specs/Replacement.antt says.
use Prim.Native.Nat.{ℕ, suc, ◌≤◌, ◌<◌}
use Rattle.std.specs.Prelude.{◌≡◌, refl, List}
use Rattle.std.proofs.Common.{sym, ◌∙◌, arith}
use Rattle.std.proofs.Math.Path.{ap}
use borrow.Author.Tests.{lt-ltb, le-ltb}
use Rattle.scope.specs.Geometry.{Geometry, Accepted}
use Rattle.scope.specs.Lent.{Entry, Place, Nowhere, decode, State, most_protected, logical_at, physical_at}
use Rattle.scope.specs.Operations.{Outcome, apply, give, look, perform, set_cache, set_small, ◌>>=◌}
use Rattle.scope.specs.Room.{read_page}
use Rattle.scope.specs.Requests.{read_place, read_steps}
use Rattle.scope.specs.Cache.{touch, enter}
use Rattle.scope.specs.Steps.{drop_if_full, fetch, translate}
use Rattle.scope.specs.Sound.{Sound, rank_of}
use Rattle.flash.specs.Lengths.{Lengths}
use Rattle.cache.specs.Entries.{CacheEntry, to_front_entry}
use Rattle.cache.specs.Order.{front_further, front_stays, Entered, entered, enters}
use Rattle.cache.specs.Current.{stored_in}
use Rattle.cache.specs.Fetch.{fetch_enters}
use Rattle.promises.specs.Translate.{Free, dropped_law}
use Rattle.promises.specs.Replacement.{OnHit, OnMiss, Replaces}

module _ {g : Geometry} (ok : Accepted g) (l : ℕ) (s : State) (len : Lengths g s) (sound : Sound g s) where
  touched : (i : ℕ) → i < g.C → OnHit g i s (touch g i s).after
  unfolding touch ◌>>=◌ set_cache set_small give
  touched i h =
      record {
        front = ap (λ (e : CacheEntry). e.logical) (to_front_entry g.C s.cache len.cache_fits i h 0);
        further = λ j k. ap (λ (e : CacheEntry). e.logical) (front_further g.C s.cache i len.cache_fits h j k);
        stay = λ j k. ap (λ (e : CacheEntry). e.logical) (front_stays g.C s.cache i len.cache_fits h j k);
        used = refl;
        in_protected = λ k. rw (lt-ltb i n k) refl;
        in_trial = λ k m. rw (le-ltb i n k, le-ltb (most_protected g) (suc n) m) refl;
        at_limit = λ k m. rw (le-ltb i n k, lt-ltb (most_protected g) (suc n) (omega arith)) (omega arith);
      }
    where
      n : ℕ
      n = s.small.protected

  fetched : (o : Outcome (Unit {0})) → Free g s o → OnMiss g l s (fetch g l o.after).after
  unfolding enter look ◌>>=◌ set_cache set_small
  fetched o free =
      rw (fetch_enters g l s₁ ok.W_from)
      (record {
        front = ap (λ (k : ℕ). logical_at k (entered b used e s₁.cache)) (sym free.protected)
            ∙ ap (λ (x : CacheEntry). x.logical) new.here;
        stay = λ j h. ap (λ (x : CacheEntry). x.logical) (new.before j (omega (arith, free.protected)))
            ∙ free.ranks j (omega (arith, free.protected, before));
        protected = free.protected;
        further = λ j h k. ap (λ (x : CacheEntry). x.logical) (new.further j (omega (arith, free.protected)) (omega arith))
            ∙ free.ranks j (omega arith);
        one_more = λ h. ap suc (free.none_gone h);
        as_many = λ h. free.one_gone h;
      })
    where
      s₁ : State
      s₁ = o.after

      b : ℕ
      b = s₁.small.protected

      used : ℕ
      used = s₁.small.used

      before : b ≤ used
      before = free.kept.sound.rule_5_protected.at_most_used

      e : CacheEntry
      e = record { logical = l; physical = stored_in g s₁ l; changed = 0 }

      new : Entered g.C b used e s₁.cache (entered b used e s₁.cache)
      new = enters g.C s₁.cache free.kept.lengths.cache_fits b used before free.room e

  pub translate_replaces : Replaces g l s (translate g l s).after
  unfolding translate look ◌>>=◌
  translate_replaces =
      let i = rank_of g s.cache s.small.used l in
      record {
        hit = λ h. rw (lt-ltb i g.C h) (touched i h);
        miss = λ h. rw (le-ltb i g.C h) (fetched (drop_if_full g s) (dropped_law ok s len sound));
      }

-- The rest of a read leaves the state as it is.
read_place_leaves : (g : Geometry) (buffer : List ℕ) (e : Entry) (s : State) → (read_place g buffer e s).after ≡ s
unfolding read_place read_page perform apply look give ◌>>=◌
read_place_leaves g buffer (Place p) s = refl
read_place_leaves g buffer Nowhere s = refl

pub read_replaces : {g : Geometry} → Accepted g → (l : ℕ) (buffer : List ℕ) (s : State) → Lengths g s → Sound g s
    → Replaces g l s (read_steps g l buffer s).after
unfolding read_steps look ◌>>=◌
read_replaces {g} ok l buffer s len sound =
    let o = translate g l s in
    rw (read_place_leaves g buffer (decode (physical_at o.value o.after.cache)) o.after) (translate_replaces ok l s len sound)
