-- The filter of the cached pages from step to step: what each leaf does to the cache and to the filter keeps every entry in use its bit.
use Rattle.std.specs.Prelude.{ℕ, suc, ◌+◌, ◌*◌, ◌≤◌, ◌<◌, ◌≡◌, ◌≢◌, true, false, List, [], ◌∷◌, eqb, ltb, length}
use Rattle.std.proofs.Common.{sym, ap, ◌∙◌, arith, eqb-true, ltb-true}
use Rattle.std.proofs.Math.Numerals.{add-one}
use Rattle.std.proofs.lemmas.List.Edits.{sets}
use Rattle.std.proofs.Math.Seq.{length-sets}
use Rattle.scope.specs.Geometry.{Geometry}
use Rattle.scope.specs.Lent.{none, entry_words, logical_at}
use Rattle.scope.specs.Sound.{rank_of}
use Rattle.flash.specs.Stores.{getD_sets_outside}
use Rattle.flash.specs.Cases.{same?, and_true, clash, is_false}
use Rattle.cache.specs.Entries.{CacheEntry, entry, to_front, placed, Stores, put_stores}
use Rattle.cache.specs.Order.{Reordered, front_reorders, entered, enters}
use Rattle.lent.specs.Notes.{filter_words}
use Rattle.words.specs.Bitmap.{has, put, length_put, has_put_same, has_put_other}
use Rattle.words.specs.Filter.{Filter, bit_of, bit_below}
use Rattle.words.specs.Searches.{lowest_fails}

-- A page's bit is put in, and those that are there stay.
module _ (filter : List ℕ) (l : ℕ) (long : length filter ≡ filter_words) where
  put_there : has (put filter (bit_of l)) (bit_of l) ≡ true
  put_there = has_put_same filter (bit_of l) (omega (arith, bit_below l, long))

  still : (k : ℕ) → has filter (bit_of k) ≡ true → has (put filter (bit_of l)) (bit_of k) ≡ true
  still k p = same? (bit_of k) (bit_of l) (λ q. rw q put_there) (λ q. has_put_other filter (bit_of l) (bit_of k) q ∙ p)

module _ {cache filter : List ℕ} {used : ℕ} (f : Filter cache used filter) where
  -- A page without its bit isn't cached.
  pub filter_misses : (g : Geometry) (l : ℕ) → has filter (bit_of l) ≡ false → rank_of g cache used l ≡ g.C
  unfolding rank_of
  filter_misses g l clear =
      lowest_fails g.C _ (λ i h. is_false _ (λ p.
      let q = and_true (ltb i used) (eqb (logical_at i cache) l) p in
      clash (ap (λ (k : ℕ). has filter (bit_of k)) (sym (eqb-true (logical_at i cache) l q.1)) ∙ f.each i (ltb-true i used q.0)) clear))

  -- The entries stand in another order, as when one comes to the front.
  filter_reordered : {cache' : List ℕ} → Reordered f.ranks used cache cache' → Filter cache' used filter
  filter_reordered r =
      record {
        ranks = f.ranks;
        cache_fits = r.long ∙ f.cache_fits;
        used_to = f.used_to;
        filter_fits = f.filter_fits;
        each = λ j k. ap (λ (e : CacheEntry). has filter (bit_of e.logical)) (r.moved j k) ∙ f.each (r.from j) (r.from_used j k);
      }

  pub filter_moved : (i : ℕ) → i < used → Filter (to_front i cache) used filter
  filter_moved i h = filter_reordered (front_reorders f.ranks cache used i f.cache_fits f.used_to h)

  -- The entry at rank i is another, whose page has its bit in another filter, as the pages of the other entries have.
  stored : (n i : ℕ) (e : CacheEntry) {cache' filter' : List ℕ} → Stores f.ranks i e cache cache' → n ≤ f.ranks
      → length filter' ≡ filter_words → has filter' (bit_of e.logical) ≡ true
      → ((j : ℕ) → j < n → j ≢ i → has filter' (bit_of (logical_at j cache)) ≡ true) → Filter cache' n filter'
  stored n i e {cache'} {filter'} stores all long new others =
      record {
        ranks = f.ranks;
        cache_fits = stores.long;
        used_to = all;
        filter_fits = long;
        each = λ j h. same? j i
            (λ q. ap (λ (x : CacheEntry). has filter' (bit_of x.logical)) (ap (λ (k : ℕ). entry k cache') q ∙ stores.here) ∙ new)
            (λ q. ap (λ (x : CacheEntry). has filter' (bit_of x.logical)) (stores.elsewhere j q) ∙ others j h q);
      }

module _ {cache filter : List ℕ} {used : ℕ} (f : Filter cache used filter) where
  -- One more, behind b others.
  pub filter_entered : (b l place : ℕ) → b ≤ used → used < f.ranks
      → Filter (entered b used (record { logical = l; physical = place; changed = 0 }) cache) (used + 1) (put filter (bit_of l))
  unfolding stored
  filter_entered b l place before room =
      let e : CacheEntry = record { logical = l; physical = place; changed = 0 } in
      let new = enters f.ranks cache f.cache_fits b used before room e in
      rw add-one
      (filter_reordered
      (stored f (suc used) used e new.stores room (length_put filter (bit_of l) ∙ f.filter_fits) (put_there filter l f.filter_fits)
      (λ j h q. still filter l f.filter_fits (logical_at j cache) (f.each j (omega arith)))) new.reorders)

  -- The last is dropped: fewer entries keep the filter.
  pub filter_forgotten : (i : ℕ) → suc i ≡ used → Filter (sets cache (i * entry_words) (none ∷ none ∷ none ∷ [])) i filter
  filter_forgotten i last =
      let stores = put_stores f.ranks cache f.cache_fits i (omega (arith, f.used_to)) (record { logical = none; physical = none; changed = none }) in
      record {
        ranks = f.ranks;
        cache_fits = stores.long;
        used_to = omega (arith, f.used_to);
        filter_fits = f.filter_fits;
        each = λ j h.
            ap (λ (x : CacheEntry). has filter (bit_of x.logical)) (stores.elsewhere j (λ q. omega arith)) ∙ f.each j (omega arith);
      }

-- A cache in which each rank has the logical page that it had.
pub filter_ranks_kept : {cache cache' filter : List ℕ} {used : ℕ} → Filter cache used filter → length cache' ≡ length cache
    → ((i : ℕ) → logical_at i cache' ≡ logical_at i cache) → Filter cache' used filter
filter_ranks_kept {filter = filter} f long ranks =
    record {
      ranks = f.ranks;
      cache_fits = long ∙ f.cache_fits;
      used_to = f.used_to;
      filter_fits = f.filter_fits;
      each = λ i h. ap (λ (l : ℕ). has filter (bit_of l)) (ranks i) ∙ f.each i h;
    }

-- An entry takes another place, whether it is in use or not.
pub filter_placed : {cache filter : List ℕ} {used : ℕ} → Filter cache used filter → (i place : ℕ) → Filter (placed i place cache) used filter
filter_placed {cache} f i place =
    filter_ranks_kept f (length-sets cache (i * entry_words + 1) (place ∷ 1 ∷ []))
    (λ j. getD_sets_outside cache (i * entry_words + 1) (place ∷ 1 ∷ []) (j * entry_words) none (λ k m e. omega arith))

-- As the leaves leave them.
pub filter_gains : {cache filter cache' filter' : List ℕ} {used used' bit : ℕ} → Filter cache used filter → (b l place : ℕ) → b ≤ used
    → used * 3 + 3 ≤ length cache → used' ≡ used + 1 → bit ≡ bit_of l → filter' ≡ put filter bit
    → cache' ≡ entered b used (record { logical = l; physical = place; changed = 0 }) cache → Filter cache' used' filter'
filter_gains f b l place before room more is_bit is_put stored =
    rw (more, is_put, is_bit, stored) (filter_entered f b l place before (omega (arith, f.cache_fits)))
