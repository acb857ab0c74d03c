-- The steps that change the cache: what each hands back, what the cache holds after it, and that all else stays.
use Prim.Native.Nat.{ℕ, suc, ◌-◌, ◌*◌, ◌≤◌, ◌<◌}
use Rattle.std.proofs.Common.{lt-ltb, le-ltb}
use native.Mathlib.Omega.{arith}
use Rattle.std.specs.Prelude.{◌≡◌, refl, ◌≢◌, List, [], ◌∷◌}
use Rattle.scope.specs.Geometry.{Geometry}
use Rattle.scope.specs.Regions.{Region}
use Rattle.scope.specs.SmallRecord.{SmallRecord, with_used, with_protected}
use Rattle.scope.specs.Lent.{none, State, entry_words, most_protected, logical_at, with_cache, with_small}
use Rattle.scope.specs.Operations.{Operation, Outcome, give, look, set_cache, set_small, ◌>>=◌}
use Rattle.scope.specs.Sound.{ProtectedFit}
use Rattle.scope.specs.Cache.{protected_after, touch, enter, dropped, forget, become_unchanged, set_entry}
use Rattle.scope.specs.Laws.Applied.{SameFlash, flash_as}
use Rattle.flash.specs.Heads.{SameHead, head_same, with_used_head, with_protected_head}
use Rattle.flash.specs.Cases.{below?}
use Rattle.flash.specs.Stores.{getD_sets_outside}
use Rattle.cache.specs.Ranks.{HasRank}
use Rattle.cache.specs.Holds.{Found, Hit, Miss, updated, CacheHolds}
use Rattle.cache.specs.Changes.{HoldsAt, touched_holds, entered_holds, forgotten_holds, placed_holds, placed_ranks}
use Rattle.cache.specs.Neighbours.{page_unchanged, logical_stays, unchanged_holds}

abbrev pub HoldsIn : Geometry → State → (ℕ → Found) → Type 0
HoldsIn g s m = CacheHolds g s.cache s.small.used m

-- A step that changes the cache alone: chip, spare, directory and both regions' heads stay, n entries are used, and no more are protected
-- than may be. The operations are listed, if any: reads.
pub record CacheStep (g : Geometry) {A : Type 0} (s : State) (o : Outcome A) (ops : List Operation) (n : ℕ) (m : ℕ → Found)
    : Type 0 where
  pub did : o.did ≡ ops
  pub flash : SameFlash o.after s
  pub directory : o.after.directory ≡ s.directory
  pub heads : (r : Region) → SameHead r s.small o.after.small
  pub used : o.after.small.used ≡ n
  pub border : ProtectedFit g s.small → ProtectedFit g o.after.small
  pub holds : HoldsIn g o.after m

-- One that hands back the rank of logical page l.
pub record RankHanded (g : Geometry) (s : State) (o : Outcome ℕ) (ops : List Operation) (used : ℕ) (m : ℕ → Found) (l : ℕ)
    : Type 0 where
  pub step : CacheStep g s o ops used m
  pub rank : HasRank o.after.cache o.after.small.used l o.value

-- One that keeps the ranks: each has the logical page that it had, and is protected as it was.
pub record RanksKept (g : Geometry) {A : Type 0} (s : State) (o : Outcome A) (m : ℕ → Found) : Type 0 where
  pub step : CacheStep g s o [] s.small.used m
  pub ranks : (i : ℕ) → logical_at i o.after.cache ≡ logical_at i s.cache
  pub protected : o.after.small.protected ≡ s.small.protected

-- Another cache and another record, with the same heads.
abbrev outcome : {A : Type 0} → A → List ℕ → SmallRecord → State → Outcome A
outcome x cache small s = record { value = x; after = with_small small (with_cache cache s); did = [] }

module _ {g : Geometry} (s : State) (small : SmallRecord) (heads : (r : Region) → SameHead r s.small small)
    (border : ProtectedFit g s.small → ProtectedFit g small) {cache : List ℕ} {m : ℕ → Found} where
  cache_alone : {A : Type 0} {x : A} → CacheHolds g cache small.used m → CacheStep g s (outcome x cache small s) [] small.used m
  cache_alone h =
      record { did = refl; flash = flash_as refl; directory = refl; heads = heads; used = refl; border = border; holds = h }

  rank_handed : {l i : ℕ} → HoldsAt g cache small.used m l i → RankHanded g s (outcome i cache small s) [] small.used m l
  rank_handed h = record { step = cache_alone h.holds; rank = h.rank }

-- ---- the border between the two parts

-- The hit at rank i is protected then, unless none may be, and no more are than may be.
touched_border : (g : Geometry) (i : ℕ) (r : SmallRecord) → i < r.used
    → ProtectedFit g r → ProtectedFit g (with_protected (protected_after g i r.protected) r)
touched_border g i r in_use fit =
    let n = r.protected in
    below? i n
    (λ h. rw (lt-ltb i n h) (record { at_most_half = fit.at_most_half; at_most_used = fit.at_most_used }))
    (λ h. rw (le-ltb i n h) (below? (most_protected g) (suc n)
    (λ k. rw (lt-ltb (most_protected g) (suc n) k)
    (record { at_most_half = omega (arith, fit.at_most_half); at_most_used = omega (arith, fit.at_most_used) }))
    (λ k. rw (le-ltb (most_protected g) (suc n) k) (record { at_most_half = k; at_most_used = omega arith }))))

-- With all C entries in use and at most C/2 protected there is a trial one; and while there is one, it is a trial one that is dropped.
pub full_has_trial : (g : Geometry) (r : SmallRecord) → 1 ≤ g.C → ProtectedFit g r → g.C ≤ r.used → r.protected < r.used
full_has_trial g r some fit full = omega (arith, fit.at_most_half)

pub dropped_is_trial : (s : State) → s.small.protected < s.small.used
    → (s.small.protected ≤ dropped s) × (suc (dropped s) ≡ s.small.used)
unfolding dropped
dropped_is_trial s trial = (omega arith, omega arith)

-- ---- the steps

-- The entry at rank i becomes an unused one, and the others stay.
pub forget_ranks : (s : State) (i j : ℕ) → j ≢ i → logical_at j (forget i s).after.cache ≡ logical_at j s.cache
unfolding forget ◌>>=◌ set_cache set_small
forget_ranks s i j apart =
    getD_sets_outside s.cache (i * entry_words) (none ∷ none ∷ none ∷ []) (j * entry_words) none (λ k m q. omega arith)

pub forget_protected : (i : ℕ) (s : State) → (forget i s).after.small.protected ≡ s.small.protected
unfolding forget ◌>>=◌ set_cache set_small
forget_protected i s = refl

module _ (g : Geometry) (s : State) (m : ℕ → Found) (h : HoldsIn g s m) where
  pub touch_law : (l i : ℕ) → HasRank s.cache s.small.used l i → RankHanded g s (touch g i s) [] s.small.used m l
  unfolding touch ◌>>=◌ set_cache set_small give
  touch_law l i r =
      let n = protected_after g i s.small.protected in
      rank_handed s (with_protected n s.small) (λ k. with_protected_head k n s.small) (touched_border g i s.small r.in_use)
      (touched_holds g s.cache s.small.used m h l i r)

  pub enter_law : (l place : ℕ) → s.small.protected ≤ s.small.used → s.small.used < g.C → m l ≡ Miss → l < g.L
      → RankHanded g s (enter l place s) [] (suc s.small.used) (updated m l (Hit place 0)) l
  unfolding enter ◌>>=◌ set_cache set_small look
  enter_law l place before room miss below =
      let n = suc s.small.used in
      rank_handed s (with_used n s.small) (λ k. with_used_head k n s.small)
      (λ fit. record { at_most_half = fit.at_most_half; at_most_used = omega (arith, fit.at_most_used) })
      (entered_holds g s.cache s.small.used m h s.small.protected l place before room miss below)

  -- The last entry is dropped, a trial one.
  pub forget_law : (i : ℕ) → suc i ≡ s.small.used → s.small.protected ≤ i
      → CacheStep g s (forget i s) [] i (updated m (logical_at i s.cache) Miss)
  unfolding forget ◌>>=◌ set_cache set_small
  forget_law i last trial =
      let q : s.small.used - 1 ≡ i = omega arith in
      rw q (cache_alone s (with_used i s.small) (λ k. with_used_head k i s.small)
      (λ fit. record { at_most_half = fit.at_most_half; at_most_used = trial })
      (forgotten_holds g s.cache s.small.used m h i last))

  pub set_entry_law : (l i place : ℕ) → HasRank s.cache s.small.used l i
      → RanksKept g s (set_entry i place s) (updated m l (Hit place 1))
  unfolding set_entry set_cache
  set_entry_law l i place r =
      record {
        step = cache_alone s s.small (λ k. head_same k refl) (λ fit. fit) (placed_holds g s.cache s.small.used m h l i place r);
        ranks = placed_ranks g s.cache s.small.used m h l i place r;
        protected = refl;
      }

  -- The changed entries of a translation page "become unchanged, ranks kept".
  pub become_unchanged_law : (t : ℕ) → RanksKept g s (become_unchanged g t s) (page_unchanged g t m)
  unfolding become_unchanged set_cache
  become_unchanged_law t =
      record {
        step = cache_alone s s.small (λ k. head_same k refl) (λ fit. fit) (unchanged_holds g t s.cache s.small.used m h);
        ranks = logical_stays g t s.cache s.small.used;
        protected = refl;
      }
