-- The cache's order: its entries in use stand in another order and hold the same, as when one of them comes to the front, or to the front of
-- the part behind some that stay; and a new entry comes there.
use Rattle.std.specs.Prelude.{ℕ, zero, suc, ◌+◌, ◌*◌, ◌-◌, ◌≤◌, ◌<◌, ◌≡◌, refl, cond, List, ◌++◌, eqb, ltb, length, take, drop}
use Rattle.std.proofs.Common.{arith, ap, sym, ◌∙◌, subst, length-append, length-drop, take-append-drop, length-take-le, eq-eqb, ne_eqb, lt-ltb, le-ltb}
use Rattle.flash.specs.Cases.{same?, below?}
use Rattle.scope.specs.Geometry.{Geometry}
use Rattle.scope.specs.Lent.{entry_words, logical_at}
use Rattle.scope.specs.Cache.{without}
use Rattle.cache.specs.Entries.{CacheEntry, entry, words_of_entry, put_entry, to_front, rank_before, Stores, entry_front, entry_back, stores_behind, put_stores, length_to_front, to_front_entry, new_in_front}
use Rattle.cache.specs.Holds.{Found, CacheHolds, Says, Unused}

-- Of n entries those in use stand in another order, and the unused ones where they stood. `from` is the rank that the one now at a rank
-- had, and `to` the rank that it has now.
pub record Reordered (n used : ℕ) (cache cache' : List ℕ) : Type 0 where
  pub long : length cache' ≡ length cache
  pub from : ℕ → ℕ
  pub to : ℕ → ℕ
  pub from_used : (j : ℕ) → j < used → from j < used
  pub to_used : (i : ℕ) → i < used → to i < used
  pub to_from : (j : ℕ) → j < used → to (from j) ≡ j
  pub from_to : (i : ℕ) → i < used → from (to i) ≡ i
  pub moved : (j : ℕ) → j < used → entry j cache' ≡ entry (from j) cache
  pub stayed : (j : ℕ) → j < n → used ≤ j → entry j cache' ≡ entry j cache

pub reordered_holds : (g : Geometry) (cache cache' : List ℕ) (used : ℕ) (m : ℕ → Found)
    → CacheHolds g cache used m → Reordered g.C used cache cache' → CacheHolds g cache' used m
reordered_holds g cache cache' used m h r =
    record {
      long = r.long ∙ h.long;
      entries =
          record {
            at_most = h.entries.at_most;
            below_L = λ j k. subst (λ e. e.logical < g.L) (sym (r.moved j k)) (h.entries.below_L (r.from j) (r.from_used j k));
            different = λ i j ki kj e.
                sym (r.to_from i ki)
                ∙ ap r.to (h.entries.different (r.from i) (r.from j) (r.from_used i ki) (r.from_used j kj)
                (sym (logical i ki) ∙ e ∙ logical j kj))
                ∙ r.to_from j kj;
            changed_fits = λ j k.
                subst (λ e. e.changed ≤ 1) (sym (r.moved j k)) (h.entries.changed_fits (r.from j) (r.from_used j k));
            unused = λ j k u. subst Unused (sym (r.stayed j k u)) (h.entries.unused j k u);
          };
      hits = λ j k. subst (Says m) (sym (r.moved j k)) (h.hits (r.from j) (r.from_used j k));
      misses = λ l n. h.misses l (λ i k e. n (r.to i) (r.to_used i k)
          (logical (r.to i) (r.to_used i k) ∙ ap (λ x. logical_at x cache) (r.from_to i k) ∙ e));
    }
  where
    logical : (j : ℕ) → j < used → logical_at j cache' ≡ logical_at (r.from j) cache
    logical j k = ap (λ e. e.logical) (r.moved j k)

-- ---- the entry at rank i in front

-- The rank that the entry at a rank has then.
abbrev rank_after : ℕ → ℕ → ℕ
rank_after i k = cond (ltb k i) (suc k) (cond (eqb k i) 0 k)

rank_before_below : (i j : ℕ) → j < i → rank_before i (suc j) ≡ j
rank_before_below i j h = rw (lt-ltb j i h)

rank_before_above : (i j : ℕ) → i < j → rank_before i j ≡ j
rank_before_above i zero h = absurd (omega arith)
rank_before_above i (suc j) h = rw (le-ltb j i (omega arith))

rank_after_below : (i k : ℕ) → k < i → rank_after i k ≡ suc k
rank_after_below i k h = rw (lt-ltb k i h)

rank_after_here : (i : ℕ) → rank_after i i ≡ 0
rank_after_here i = rw (le-ltb i i (omega arith), eq-eqb i i refl)

rank_after_above : (i k : ℕ) → i < k → rank_after i k ≡ k
rank_after_above i k h = rw (le-ltb k i (omega arith), ne_eqb k i (omega arith))

rank_before_used : (used i j : ℕ) → i < used → j < used → rank_before i j < used
rank_before_used used i zero h k = h
rank_before_used used i (suc j) h k =
    below? j i (λ b. omega (arith, rank_before_below i j b)) (λ b. omega (arith, rank_before_above i (suc j) (omega arith)))

rank_after_used : (used i k : ℕ) → i < used → k < used → rank_after i k < used
rank_after_used used i k h u =
    below? k i (λ b. omega (arith, rank_after_below i k b))
    (λ b. same? k i (λ e. rw (e, rank_after_here i) (omega arith)) (λ e. omega (arith, rank_after_above i k (omega arith))))

rank_after_before : (i j : ℕ) → rank_after i (rank_before i j) ≡ j
rank_after_before i zero = rank_after_here i
rank_after_before i (suc j) =
    below? j i (λ b. rw (rank_before_below i j b) (rank_after_below i j b))
    (λ b. rw (rank_before_above i (suc j) (omega arith)) (rank_after_above i (suc j) (omega arith)))

rank_before_after : (i k : ℕ) → rank_before i (rank_after i k) ≡ k
rank_before_after i k =
    below? k i (λ b. rw (rank_after_below i k b) (rank_before_below i k b))
    (λ b. same? k i
    (λ e. rw (e, rank_after_here i))
    (λ e. rw (rank_after_above i k (omega arith)) (rank_before_above i k (omega arith))))

-- The one at rank i is foremost, those before it are one rank further, and those behind it stay.
pub front_further : (n : ℕ) (cache : List ℕ) (i : ℕ) → length cache ≡ n * entry_words → i < n → (j : ℕ) → j < i
    → entry (suc j) (to_front i cache) ≡ entry j cache
front_further n cache i long h j k =
    to_front_entry n cache long i h (suc j) ∙ ap (λ (x : ℕ). entry x cache) (rank_before_below i j k)

pub front_stays : (n : ℕ) (cache : List ℕ) (i : ℕ) → length cache ≡ n * entry_words → i < n → (j : ℕ) → i < j
    → entry j (to_front i cache) ≡ entry j cache
front_stays n cache i long h j k =
    to_front_entry n cache long i h j ∙ ap (λ (x : ℕ). entry x cache) (rank_before_above i j k)

pub front_reorders : (n : ℕ) (cache : List ℕ) (used i : ℕ) → length cache ≡ n * entry_words → used ≤ n → i < used
    → Reordered n used cache (to_front i cache)
front_reorders n cache used i long most h =
    record {
      long = length_to_front n cache long i (omega arith) ∙ sym long;
      from = rank_before i;
      to = rank_after i;
      from_used = λ j k. rank_before_used used i j h k;
      to_used = λ k u. rank_after_used used i k h u;
      to_from = λ j k. rank_after_before i j;
      from_to = λ k u. rank_before_after i k;
      moved = λ j k. to_front_entry n cache long i (omega arith) j;
      stayed = λ j k u. front_stays n cache i long (omega arith) j (omega arith);
    }

-- ---- behind b entries that stay

-- A rank among those behind them, moved as f says.
abbrev behind : ℕ → (ℕ → ℕ) → ℕ → ℕ
behind b f j = cond (ltb j b) j (b + f (j - b))

module _ (b : ℕ) (f : ℕ → ℕ) where
  behind_below : (j : ℕ) → j < b → behind b f j ≡ j
  behind_below j h = rw (lt-ltb j b h)

  behind_above : (j : ℕ) → b ≤ j → behind b f j ≡ b + f (j - b)
  behind_above j h = rw (le-ltb j b h)

  behind_used : {used all : ℕ} → b + used ≡ all → ((j : ℕ) → j < used → f j < used) → (j : ℕ) → j < all → behind b f j < all
  behind_used sum h j k =
      below? j b (λ l. omega (arith, behind_below j l)) (λ l. omega (arith, behind_above j l, h (j - b) (omega arith)))

  behind_back : {used all : ℕ} → b + used ≡ all → (back : ℕ → ℕ) → ((j : ℕ) → j < used → back (f j) ≡ j)
      → (j : ℕ) → j < all → behind b back (behind b f j) ≡ j
  behind_back sum back h j k =
      below? j b
      (λ l. rw (behind_below j l) (rw (lt-ltb j b l)))
      (λ l. rw (behind_above j l, le-ltb (b + f (j - b)) b (omega arith))
      (ap (λ (x : ℕ). b + back x) (omega arith) ∙ ap (λ (x : ℕ). b + x) (h (j - b) (omega arith)) ∙ omega arith))

reordered_behind : (b n all : ℕ) {m used : ℕ} (kept : List ℕ) {cache cache' : List ℕ} → length kept ≡ b * entry_words
    → b + m ≡ n → b + used ≡ all → Reordered m used cache cache' → Reordered n all (kept ++ cache) (kept ++ cache')
reordered_behind b n all kept {cache} {cache'} long ranks sum r =
    record {
      long = length-append kept cache' ∙ ap (λ (x : ℕ). length kept + x) r.long ∙ sym (length-append kept cache);
      from = behind b r.from;
      to = behind b r.to;
      from_used = behind_used b r.from sum r.from_used;
      to_used = behind_used b r.to sum r.to_used;
      to_from = behind_back b r.from sum r.to r.to_from;
      from_to = behind_back b r.to sum r.from r.from_to;
      moved = λ j k. below? j b
          (λ l. rw (behind_below b r.from j l) (front j l))
          (λ l. rw (behind_above b r.from j l)
          (entry_back b (j - b) j kept cache' long (omega arith)
          ∙ r.moved (j - b) (omega arith)
          ∙ sym (entry_back b (r.from (j - b)) (b + r.from (j - b)) kept cache long refl)));
      stayed = λ j k u.
          entry_back b (j - b) j kept cache' long (omega arith)
          ∙ r.stayed (j - b) (omega arith) (omega arith)
          ∙ sym (entry_back b (j - b) j kept cache long (omega arith));
    }
  where
    front : (j : ℕ) → j < b → entry j (kept ++ cache') ≡ entry j (kept ++ cache)
    front j l = entry_front b j kept cache' long l ∙ sym (entry_front b j kept cache long l)

-- ---- a new entry behind b that stay

abbrev pub entered : ℕ → ℕ → CacheEntry → List ℕ → List ℕ
entered b used e cache = take (b * entry_words) cache ++ (words_of_entry e ++ without (used - b) (drop (b * entry_words) cache))

-- It is stored at the first unused rank, and then comes to rank b in another order: those before keep their ranks, and the others that are in
-- use are one further.
pub record Entered (n b used : ℕ) (e : CacheEntry) (cache cache' : List ℕ) : Type 0 where
  pub between : List ℕ
  pub stores : Stores n used e cache between
  pub reorders : Reordered n (suc used) between cache'
  pub here : entry b cache' ≡ e
  pub before : (j : ℕ) → j < b → entry j cache' ≡ entry j cache
  pub further : (j : ℕ) → b ≤ j → j < used → entry (suc j) cache' ≡ entry j cache

pub enters : (n : ℕ) (cache : List ℕ) → length cache ≡ n * entry_words → (b used : ℕ) → b ≤ used → used < n → (e : CacheEntry)
    → Entered n b used e cache (entered b used e cache)
enters n cache long b used before room e =
    record {
      between = kept ++ put_entry k e rest;
      stores = subst (λ (c : List ℕ). Stores n used e c (kept ++ put_entry k e rest)) (take-append-drop (b * entry_words) cache)
          (stores_behind b n used kept kept_long (omega arith) (omega arith) put);
      reorders = rw (new_in_front (n - b) rest rest_long k (omega arith) e)
          (reordered_behind b n (suc used) kept kept_long (omega arith) (omega arith)
          (front_reorders (n - b) (put_entry k e rest) (suc k) k put.long (omega arith) (omega arith)));
      here = rw (new_in_front (n - b) rest rest_long k (omega arith) e)
          (entry_back b 0 b kept (to_front k (put_entry k e rest)) kept_long (omega arith)
          ∙ to_front_entry (n - b) (put_entry k e rest) put.long k (omega arith) 0
          ∙ put.here);
      before = λ j h.
          entry_front b j kept (words_of_entry e ++ without k rest) kept_long h
          ∙ sym (entry_front b j kept rest kept_long h)
          ∙ ap (entry j) (take-append-drop (b * entry_words) cache);
      further = λ j h u. rw (new_in_front (n - b) rest rest_long k (omega arith) e)
          (entry_back b (suc (j - b)) (suc j) kept (to_front k (put_entry k e rest)) kept_long (omega arith)
          ∙ to_front_entry (n - b) (put_entry k e rest) put.long k (omega arith) (suc (j - b))
          ∙ ap (λ (x : ℕ). entry x (put_entry k e rest)) (rank_before_below k (j - b) (omega arith))
          ∙ put.elsewhere (j - b) (omega arith)
          ∙ sym (entry_back b (j - b) j kept rest kept_long (omega arith))
          ∙ ap (entry j) (take-append-drop (b * entry_words) cache));
    }
  where
    k : ℕ
    k = used - b

    kept : List ℕ
    kept = take (b * entry_words) cache

    rest : List ℕ
    rest = drop (b * entry_words) cache

    kept_long : length kept ≡ b * entry_words
    kept_long = length-take-le (b * entry_words) cache (omega arith)

    rest_long : length rest ≡ (n - b) * entry_words
    rest_long = length-drop (b * entry_words) cache ∙ omega arith

    put : Stores (n - b) k e rest (put_entry k e rest)
    put = put_stores (n - b) rest rest_long k (omega arith) e
