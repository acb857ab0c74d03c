-- What the cache holds after each change that scope's Cache.antt makes to its words, and which rank has the page that it is about.
use Rattle.std.specs.Prelude.{ℕ, suc, ◌*◌, ◌≤◌, ◌<◌, ◌≡◌, refl, List, [], ◌∷◌}
use Rattle.std.proofs.Common.{arith, ap, sym, ◌∙◌}
use Rattle.std.proofs.lemmas.List.Edits.{sets}
use Rattle.flash.specs.Cases.{same?}
use Rattle.scope.specs.Geometry.{Geometry}
use Rattle.scope.specs.Lent.{none, entry_words, logical_at}
use Rattle.cache.specs.Entries.{CacheEntry, put_entry, placed, to_front, Stores, put_stores, placed_stores, to_front_entry}
use Rattle.cache.specs.Ranks.{HasRank}
use Rattle.cache.specs.Holds.{Found, Hit, Miss, updated, CacheHolds, miss_not_cached, changed_holds, added_holds, dropped_holds}
use Rattle.cache.specs.Order.{reordered_holds, front_reorders, entered, Entered, enters}

-- A cache that holds m, and in which logical page l has rank i.
pub record HoldsAt (g : Geometry) (cache : List ℕ) (used : ℕ) (m : ℕ → Found) (l i : ℕ) : Type 0 where
  pub holds : CacheHolds g cache used m
  pub rank : HasRank cache used l i

-- A hit "moves to the front".
pub touched_holds : (g : Geometry) (cache : List ℕ) (used : ℕ) (m : ℕ → Found) → CacheHolds g cache used m
    → (l i : ℕ) → HasRank cache used l i → HoldsAt g (to_front i cache) used m l 0
touched_holds g cache used m h l i r =
    record {
      holds = reordered_holds g cache (to_front i cache) used m h
          (front_reorders g.C cache used i h.long h.entries.at_most r.in_use);
      rank =
          record {
            in_use = omega (arith, r.in_use);
            is_l = ap (λ e. e.logical) (to_front_entry g.C cache h.long i below 0) ∙ r.is_l;
          };
    }
  where
    below : i < g.C
    below = omega (arith, r.in_use, h.entries.at_most)

module _ (g : Geometry) (cache : List ℕ) (used : ℕ) (m : ℕ → Found) (h : CacheHolds g cache used m) where
  -- "A miss enters at the trial front", behind b others.
  pub entered_holds : (b l place : ℕ) → b ≤ used → used < g.C → m l ≡ Miss → l < g.L
      → HoldsAt g (entered b used (record { logical = l; physical = place; changed = 0 }) cache) (suc used) (updated m l (Hit place 0)) l b
  entered_holds b l place before room miss below =
      record {
        holds = reordered_holds g new.between (entered b used e cache) (suc used) (updated m l (Hit place 0))
            (added_holds g cache used m h e new.between new.stores room (miss_not_cached g cache used m h l miss) below (omega arith))
            new.reorders;
        rank = record { in_use = omega arith; is_l = ap (λ x. x.logical) new.here };
      }
    where
      e : CacheEntry
      e = record { logical = l; physical = place; changed = 0 }

      new : Entered g.C b used e cache (entered b used e cache)
      new = enters g.C cache h.long b used before room e

  -- "Drop the last": its entry "becomes an unused one, *none* throughout".
  pub forgotten_holds : (i : ℕ) → suc i ≡ used
      → CacheHolds g (sets cache (i * entry_words) (none ∷ none ∷ none ∷ [])) i (updated m (logical_at i cache) Miss)
  forgotten_holds i last =
      dropped_holds g cache used m h i e (put_entry i e cache)
      (put_stores g.C cache h.long i (omega (arith, h.entries.at_most)) e) last (refl, refl, refl)
    where
      e : CacheEntry
      e = record { logical = none; physical = none; changed = none }

  -- "Its entry takes the new place and is changed, with its rank kept": each rank has the logical page that it had.
  module _ (l i place : ℕ) (r : HasRank cache used l i) where
    abbrev e : CacheEntry
    e = record { logical = l; physical = place; changed = 1 }

    stores : Stores g.C i e cache (placed i place cache)
    stores = placed_stores g.C cache h.long i (omega (arith, r.in_use, h.entries.at_most)) l place r.is_l

    pub placed_holds : CacheHolds g (placed i place cache) used (updated m l (Hit place 1))
    placed_holds =
        changed_holds g cache used m h i e (placed i place cache) stores r.in_use (sym r.is_l) (omega arith)

    pub placed_ranks : (j : ℕ) → logical_at j (placed i place cache) ≡ logical_at j cache
    placed_ranks j =
        same? j i
        (λ q. rw q (ap (λ x. x.logical) stores.here ∙ sym r.is_l))
        (λ q. ap (λ x. x.logical) (stores.elsewhere j q))
