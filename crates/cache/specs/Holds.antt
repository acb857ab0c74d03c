-- The cache as a map from logical pages, whatever its order: what a list of entries holds, and what it holds once its entries
-- change places, one of them changes, one is added and the last is dropped. Each keeps rule 5.
use Rattle.std.specs.Prelude.{ℕ, suc, ◌≤◌, ◌<◌, ◌≡◌, refl, ◌≢◌, cond, List, eqb, ltb, length}
use Rattle.std.proofs.Common.{arith, ap, sym, ◌∙◌, subst, eq-eqb, ne_eqb, lt-ltb, le-ltb}
use Rattle.flash.specs.Cases.{same?, below?, last}
use Rattle.scope.specs.Geometry.{Geometry}
use Rattle.scope.specs.Lent.{none, cache_size, logical_at, physical_at, changed_at}
use Rattle.scope.specs.Sound.{EntriesFit, rank_of}
use Rattle.cache.specs.Entries.{CacheEntry, entry, Stores}
use Rattle.cache.specs.Ranks.{NotCached, rank_found, rank_is, cached?}

-- What the cache says of a logical page: its place and whether that is changed, or nothing.
pub data Found : Type 0 where
  Hit : ℕ → ℕ → Found
  Miss : Found

pub hit_is_no_miss : {p c : ℕ} → Hit p c ≢ Miss
hit_is_no_miss e = let z : ◌≡◌ {A = ℕ} 0 1 = cc in omega arith

unfoldable pub lookup : Geometry → List ℕ → ℕ → ℕ → Found
lookup g cache used l =
    let i = rank_of g cache used l in
    cond (ltb i g.C) (Hit (physical_at i cache) (changed_at i cache)) Miss

-- A map with another answer for one page.
abbrev pub updated : {X : Type 0} → (ℕ → X) → ℕ → X → ℕ → X
updated m l x k = cond (eqb k l) x (m k)

-- A cache of the right size that keeps rule 5 and whose entries in use are what `m` says.
pub record CacheHolds (g : Geometry) (cache : List ℕ) (used : ℕ) (m : ℕ → Found) : Type 0 where
  pub long : length cache ≡ cache_size g
  pub entries : EntriesFit g cache used
  pub hits : (i : ℕ) → i < used → m (logical_at i cache) ≡ Hit (physical_at i cache) (changed_at i cache)
  pub misses : (l : ℕ) → NotCached cache used l → m l ≡ Miss

-- The entry in use for a page, by its rank and its other two words.
pub record HitAt (cache : List ℕ) (used l place c : ℕ) : Type 0 where
  pub rank : ℕ
  pub in_use : rank < used
  pub logical : logical_at rank cache ≡ l
  pub physical : physical_at rank cache ≡ place
  pub changed : changed_at rank cache ≡ c

-- It holds what is looked up in it, and nothing else.
pub holds_lookup : (g : Geometry) (cache : List ℕ) (used : ℕ) → length cache ≡ cache_size g → EntriesFit g cache used
    → CacheHolds g cache used (lookup g cache used)
unfolding lookup
holds_lookup g cache used long fits =
    record {
      long = long;
      entries = fits;
      hits = λ i h. rw (rank_is g cache used (logical_at i cache) fits i h refl, lt-ltb i g.C (omega (arith, fits.at_most)));
      misses = λ l h. below? (rank_of g cache used l) g.C
          (λ k. absurd (h (rank_of g cache used l) (rank_found g cache used l k).in_use (rank_found g cache used l k).is_l))
          (λ k. rw (le-ltb (rank_of g cache used l) g.C k));
    }

module _ (g : Geometry) (cache : List ℕ) (used : ℕ) (m : ℕ → Found) (h : CacheHolds g cache used m) where
  -- A page that the map misses has no entry; one that it hits has one, and is a logical page.
  pub miss_not_cached : (l : ℕ) → m l ≡ Miss → NotCached cache used l
  miss_not_cached l e i k q = hit_is_no_miss (sym (h.hits i k) ∙ ap m q ∙ e)

  pub hit_at : (l place c : ℕ) → m l ≡ Hit place c → HitAt cache used l place c
  hit_at l place c e =
      cached? g cache used l h.entries.at_most
      (λ r.
      let i = rank_of g cache used l in
      let q : Hit (physical_at i cache) (changed_at i cache) ≡ Hit place c = sym (h.hits i r.in_use) ∙ ap m r.is_l ∙ e in
      record { rank = i; in_use = r.in_use; logical = r.is_l; physical = cc; changed = cc })
      (λ n. absurd (hit_is_no_miss (sym e ∙ h.misses l n)))

  pub hit_below_L : (l place c : ℕ) → m l ≡ Hit place c → l < g.L
  hit_below_L l place c e = let a = hit_at l place c e in rw a.logical at (h.entries.below_L a.rank a.in_use)

  -- The map is the one that is looked up.
  pub holds_found : (l : ℕ) → lookup g cache used l ≡ m l
  holds_found l =
      let looked = holds_lookup g cache used h.long h.entries in
      cached? g cache used l h.entries.at_most
      (λ r.
      let i = rank_of g cache used l in
      ap (lookup g cache used) (sym r.is_l) ∙ looked.hits i r.in_use ∙ sym (h.hits i r.in_use) ∙ ap m r.is_l)
      (λ n. looked.misses l n ∙ sym (h.misses l n))

-- What is said of an entry in use, and of an unused one.
abbrev pub Says : (ℕ → Found) → CacheEntry → Type 0
Says m e = m e.logical ≡ Hit e.physical e.changed

abbrev pub Unused : CacheEntry → Type 0
Unused e = (e.logical ≡ none) × (e.physical ≡ none) × (e.changed ≡ none)

pub updated_here : {X : Type 0} (m : ℕ → X) (l : ℕ) (x : X) → updated m l x l ≡ x
updated_here m l x = rw (eq-eqb l l refl)

pub updated_elsewhere : {X : Type 0} (m : ℕ → X) (l : ℕ) (x : X) (k : ℕ) → k ≢ l → updated m l x k ≡ m k
updated_elsewhere m l x k h = rw (ne_eqb k l h)

module _ (g : Geometry) (cache : List ℕ) (used : ℕ) (m : ℕ → Found) (h : CacheHolds g cache used m) where
  -- An entry is stored at a rank that is in use afterwards, as the others were before; no other one in use has its logical page,
  -- and the one that stood there, if it was in use, had the same.
  stored_holds : (i : ℕ) (e : CacheEntry) (cache' : List ℕ) (used' : ℕ) → Stores g.C i e cache cache'
      → i < used' → used ≤ used' → used' ≤ g.C
      → ((j : ℕ) → j < used' → j ≢ i → j < used)
      → ((j : ℕ) → j < used → j ≢ i → logical_at j cache ≢ e.logical)
      → (i < used → logical_at i cache ≡ e.logical)
      → e.logical < g.L → e.changed ≤ 1
      → CacheHolds g cache' used' (updated m e.logical (Hit e.physical e.changed))
  stored_holds i e cache' used' st k grows most others alone same below small =
      record {
        long = st.long;
        entries =
            record {
              at_most = most;
              below_L = λ j u. each (λ x. x.logical < g.L) j u below (λ q v. h.entries.below_L j v);
              different = λ a b ua ub q. same? a i
                  (λ p. same? b i (λ r. p ∙ sym r) (λ r. absurd (only b r ub a p (sym q))))
                  (λ p. same? b i (λ r. absurd (only a p ua b r q))
                  (λ r. h.entries.different a b (others a ua p) (others b ub r)
                  (sym (logical_elsewhere a p) ∙ q ∙ logical_elsewhere b r)));
              changed_fits = λ j u. each (λ x. x.changed ≤ 1) j u small (λ q v. h.entries.changed_fits j v);
              unused = λ j c u. subst Unused (sym (st.elsewhere j (omega arith))) (h.entries.unused j c (omega arith));
            };
        hits = λ j u. each (Says (updated m e.logical new)) j u (updated_here m e.logical new)
            (λ q v. updated_elsewhere m e.logical new (logical_at j cache) (alone j v q) ∙ h.hits j v);
        misses = λ l n.
            updated_elsewhere m e.logical new l (λ q. n i k (logical_here ∙ sym q))
            ∙ h.misses l (λ j u q. same? j i
            (λ p. n i k (logical_here ∙ sym (same (rw (← p) u)) ∙ ap (λ x. logical_at x cache) (sym p) ∙ q))
            (λ p. n j (omega arith) (logical_elsewhere j p ∙ q)));
      }
    where
      new : Found
      new = Hit e.physical e.changed

      each : (F : CacheEntry → Type 0) (j : ℕ) → j < used' → F e → (j ≢ i → j < used → F (entry j cache)) → F (entry j cache')
      each F j u here elsewhere =
          same? j i
          (λ q. rw q (subst F (sym st.here) here))
          (λ q. subst F (sym (st.elsewhere j q)) (elsewhere q (others j u q)))

      logical_here : logical_at i cache' ≡ e.logical
      logical_here = ap (λ x. x.logical) st.here

      logical_elsewhere : (j : ℕ) → j ≢ i → logical_at j cache' ≡ logical_at j cache
      logical_elsewhere j q = ap (λ x. x.logical) (st.elsewhere j q)

      only : (b : ℕ) → b ≢ i → b < used' → (a : ℕ) → a ≡ i → logical_at b cache' ≢ logical_at a cache'
      only b r u a p q = alone b (others b u r) r (sym (logical_elsewhere b r) ∙ q ∙ ap (λ x. logical_at x cache') p ∙ logical_here)

  -- The entry at a rank in use has another place and changed word, its logical page kept.
  pub changed_holds : (i : ℕ) (e : CacheEntry) (cache' : List ℕ) → Stores g.C i e cache cache' → i < used
      → e.logical ≡ logical_at i cache → e.changed ≤ 1
      → CacheHolds g cache' used (updated m e.logical (Hit e.physical e.changed))
  changed_holds i e cache' st k same small =
      stored_holds i e cache' used st k (omega arith) h.entries.at_most (λ j u q. u)
      (λ j u q r. q (h.entries.different j i u k (r ∙ same))) (λ u. sym same)
      (rw same (h.entries.below_L i k)) small

  -- An entry for a page that is not cached is stored at the first unused rank.
  pub added_holds : (e : CacheEntry) (cache' : List ℕ) → Stores g.C used e cache cache' → used < g.C
      → NotCached cache used e.logical → e.logical < g.L → e.changed ≤ 1
      → CacheHolds g cache' (suc used) (updated m e.logical (Hit e.physical e.changed))
  added_holds e cache' st room new below small =
      stored_holds used e cache' (suc used) st (omega arith) (omega arith) room (λ j u q. omega arith)
      (λ j u q. new j u) (λ u. absurd (omega arith)) below small

  -- The last entry in use becomes an unused one.
  pub dropped_holds : (i : ℕ) (e : CacheEntry) (cache' : List ℕ) → Stores g.C i e cache cache' → suc i ≡ used → Unused e
      → CacheHolds g cache' i (updated m (logical_at i cache) Miss)
  dropped_holds i e cache' st last_one unused =
      record {
        long = st.long;
        entries =
            record {
              at_most = omega (arith, h.entries.at_most);
              below_L = λ j u. subst (λ x. x.logical < g.L) (sym (stays j u)) (h.entries.below_L j (omega arith));
              different = λ a b ua ub q. h.entries.different a b (omega arith) (omega arith)
                  (sym (ap (λ x. x.logical) (stays a ua)) ∙ q ∙ ap (λ x. x.logical) (stays b ub));
              changed_fits = λ j u. subst (λ x. x.changed ≤ 1) (sym (stays j u)) (h.entries.changed_fits j (omega arith));
              unused = λ j c u. same? j i (λ q. rw q (subst Unused (sym st.here) unused))
                  (λ q. subst Unused (sym (st.elsewhere j q)) (h.entries.unused j c (omega arith)));
            };
        hits = λ j u. subst (Says (updated m (logical_at i cache) Miss)) (sym (stays j u))
            (updated_elsewhere m (logical_at i cache) Miss (logical_at j cache)
            (λ q. omega (arith, h.entries.different j i (omega arith) (omega arith) q)) ∙ h.hits j (omega arith));
        misses = λ l n. same? l (logical_at i cache)
            (λ q. rw q (updated_here m (logical_at i cache) Miss))
            (λ q. updated_elsewhere m (logical_at i cache) Miss l q
            ∙ h.misses l (λ j u r. last j i (omega arith)
            (λ b. n j b (ap (λ x. x.logical) (stays j b) ∙ r))
            (λ p. q (sym r ∙ ap (λ x. logical_at x cache) p))));
      }
    where
      stays : (j : ℕ) → j < i → entry j cache' ≡ entry j cache
      stays j u = st.elsewhere j (omega arith)
