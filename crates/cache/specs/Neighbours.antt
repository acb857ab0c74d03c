-- The changed entries of one translation page: what an update sets for them, and what the cache holds once they have become unchanged.
use Prim.Native.Nat.{ℕ, zero, suc, ◌+◌, ◌*◌, ◌≤◌, ◌<◌}
use Rattle.std.proofs.Common.{arith, ap, sym, ◌∙◌, subst, length-set, get_or-set_same, get_or-set_other, eqb-true, eq-eqb, ne_eqb}
use Rattle.std.specs.Prelude.{◌≡◌, ◌≢◌, true, false, cond, List, [], ◌∷◌, eqb, length, get_or}
use Rattle.std.proofs.Math.Path.{refl}
use Rattle.std.proofs.Math.Logic.{⊎_elim}
use Rattle.flash.specs.Cases.{on, same?, last, and_true}
use Rattle.flash.specs.Tests.{and_passed}
use Rattle.scope.specs.Geometry.{Geometry}
use Rattle.scope.specs.Lent.{none, entry_words, logical_at, physical_at, changed_at, translation_page}
use Rattle.scope.specs.Cache.{mapping_at, is_changed, is_changed_of, changed_of, unchanged_of}
use Rattle.cache.specs.Waiting.{latest, Waits, latest_none}
use Rattle.cache.specs.Holds.{Found, Hit, Miss, CacheHolds}

-- ---- set in one update

-- A changed entry among the first n, of logical page l and translation page t.
pub record ChangedAt (g : Geometry) (t n l : ℕ) (cache : List ℕ) : Type 0 where
  pub rank : ℕ
  pub before : rank < n
  pub is_l : logical_at rank cache ≡ l
  pub changed : changed_at rank cache ≡ 1
  pub of_t : translation_page g l ≡ t

module _ (g : Geometry) (t : ℕ) (cache : List ℕ) where
  -- What the test of an entry says.
  found_changed : (i l : ℕ) → is_changed_of g t i cache ≡ true → logical_at i cache ≡ l → ChangedAt g t (suc i) l cache
  found_changed i l e is_l =
      let (changed, of_t) = and_true (is_changed i cache) (eqb (translation_page g (logical_at i cache)) t) e in
      record {
        rank = i;
        before = omega arith;
        is_l = is_l;
        changed = eqb-true (changed_at i cache) 1 changed;
        of_t = ap (translation_page g) (sym is_l) ∙ eqb-true (translation_page g (logical_at i cache)) t of_t;
      }

  -- The test, by the entry's page.
  pub test_of_page : (i : ℕ) → translation_page g (logical_at i cache) ≡ t → is_changed_of g t i cache ≡ is_changed i cache
  test_of_page i of_t = rw (eq-eqb (translation_page g (logical_at i cache)) t of_t) (and_passed (is_changed i cache))

  pub test_of_other : (i : ℕ) → translation_page g (logical_at i cache) ≢ t → is_changed_of g t i cache ≡ false
  test_of_other i other =
      rw (ne_eqb (translation_page g (logical_at i cache)) t other) (on (is_changed i cache) (λ e. rw e refl) (λ e. rw e refl))

  -- One entry more.
  pub changed_more : (n : ℕ) → is_changed_of g t n cache ≡ true → changed_of g t (suc n) cache ≡ mapping_at n cache ∷ changed_of g t n cache
  unfolding changed_of
  changed_more n e = rw e refl

  pub changed_no_more : (n : ℕ) → is_changed_of g t n cache ≡ false → changed_of g t (suc n) cache ≡ changed_of g t n cache
  unfolding changed_of
  changed_no_more n e = rw e refl

  -- Only they are set.
  pub changed_of_waits : (n l : ℕ) → Waits (changed_of g t n cache) l → ChangedAt g t n l cache
  unfolding changed_of
  changed_of_waits zero l q = absurd q
  changed_of_waits (suc n) l q =
      on (is_changed_of g t n cache)
      (λ e. ⊎_elim (found_changed n l e) (λ k. later (changed_of_waits n l k)) (subst (λ ms. Waits ms l) (changed_more n e) q))
      (λ e. later (changed_of_waits n l (subst (λ ms. Waits ms l) (changed_no_more n e) q)))
    where
      later : ChangedAt g t n l cache → ChangedAt g t (suc n) l cache
      later c = record { rank = c.rank; before = omega (arith, c.before); is_l = c.is_l; changed = c.changed; of_t = c.of_t }

  -- And each to the place that it names, where no other entry is of its page.
  last_set : (i place : ℕ) → is_changed_of g t i cache ≡ true
      → ((j : ℕ) → j < i → logical_at j cache ≡ logical_at i cache → j ≡ i)
      → latest (changed_of g t (suc i) cache) (logical_at i cache) place ≡ physical_at i cache
  last_set i place e only =
      let l = logical_at i cache in
      ap (λ ms. latest ms l place) (changed_more i e)
      ∙ ap (λ b. latest (changed_of g t i cache) l (cond b (physical_at i cache) place)) (eq-eqb l l refl)
      ∙ latest_none (changed_of g t i cache) l (physical_at i cache) (λ w.
      let c = changed_of_waits i l w in
      omega (arith, c.before, only c.rank c.before c.is_l))

  pub changed_of_latest : (n i place : ℕ) → i < n → is_changed_of g t i cache ≡ true
      → ((j : ℕ) → j < n → logical_at j cache ≡ logical_at i cache → j ≡ i)
      → latest (changed_of g t n cache) (logical_at i cache) place ≡ physical_at i cache
  changed_of_latest zero i place h e only = absurd (omega arith)
  changed_of_latest (suc n) i place h e only =
      let l = logical_at i cache in
      last i n h
      (λ b.
      let before = changed_of_latest n i place b e (λ j k. only j (omega arith)) in
      on (is_changed_of g t n cache)
      (λ q. ap (λ ms. latest ms l place) (changed_more n q)
      ∙ ap (λ b. latest (changed_of g t n cache) l (cond b (physical_at n cache) place))
      (ne_eqb (logical_at n cache) l (λ s. omega (arith, only n (omega arith) s)))
      ∙ before)
      (λ q. ap (λ ms. latest ms l place) (changed_no_more n q) ∙ before))
      (λ p. subst (λ (k : ℕ). latest (changed_of g t (suc k) cache) l place ≡ physical_at i cache) p
      (last_set i place e (λ j k. only j (omega arith))))

  -- ---- become unchanged

  pub length_unchanged_of : (n : ℕ) → length (unchanged_of g t n cache) ≡ length cache
  unfolding unchanged_of
  length_unchanged_of zero = refl
  length_unchanged_of (suc n) =
      on (is_changed_of g t n cache)
      (λ e. rw e (length-set (unchanged_of g t n cache) (n * entry_words + 2) 0 ∙ length_unchanged_of n))
      (λ e. rw e (length_unchanged_of n))

  -- Every word stays but the third of an entry among the first n.
  word_stays : (n k : ℕ) → ((j : ℕ) → j < n → k ≢ j * entry_words + 2) → get_or (unchanged_of g t n cache) k none ≡ get_or cache k none
  unfolding unchanged_of
  word_stays zero k other = refl
  word_stays (suc n) k other =
      let before = word_stays n k (λ j h. other j (omega arith)) in
      on (is_changed_of g t n cache)
      (λ e. rw e (get_or-set_other (unchanged_of g t n cache) (n * entry_words + 2) k 0 none (other n (omega arith)) ∙ before))
      (λ e. rw e before)

  pub logical_stays : (n i : ℕ) → logical_at i (unchanged_of g t n cache) ≡ logical_at i cache
  logical_stays n i = word_stays n (i * entry_words) (λ j h. omega arith)

  pub physical_stays : (n i : ℕ) → physical_at i (unchanged_of g t n cache) ≡ physical_at i cache
  physical_stays n i = word_stays n (i * entry_words + 1) (λ j h. omega arith)

  pub behind_stays : (n i : ℕ) → n ≤ i → changed_at i (unchanged_of g t n cache) ≡ changed_at i cache
  behind_stays n i h = word_stays n (i * entry_words + 2) (λ j k. omega arith)

  -- Where none of them is changed and of the page, nothing is set and the cache is as it was.
  pub none_changed : (n : ℕ) → ((i : ℕ) → i < n → is_changed_of g t i cache ≡ false)
      → (changed_of g t n cache ≡ []) × (unchanged_of g t n cache ≡ cache)
  unfolding changed_of unchanged_of
  none_changed zero none = (refl, refl)
  none_changed (suc n) none =
      let before = none_changed n (λ i h. none i (omega arith)) in
      (rw (none n (omega arith)) before.0, rw (none n (omega arith)) before.1)

  -- The third word of an entry is 0 where it was changed and of the page.
  pub changed_then : (n i : ℕ) → i < n → n * entry_words ≤ length cache
      → changed_at i (unchanged_of g t n cache) ≡ cond (is_changed_of g t i cache) 0 (changed_at i cache)
  unfolding unchanged_of
  changed_then zero i h fits = absurd (omega arith)
  changed_then (suc n) i h fits =
      last i n h
      (λ b.
      let before = changed_then n i b (omega arith) in
      on (is_changed_of g t n cache)
      (λ e. rw e (get_or-set_other (unchanged_of g t n cache) (n * entry_words + 2) (i * entry_words + 2) 0 none (omega arith) ∙ before))
      (λ e. rw e before))
      (λ p. on (is_changed_of g t i cache)
      (λ e. rw (← p, e) (get_or-set_same (unchanged_of g t i cache) (i * entry_words + 2) 0 none (omega (arith, length_unchanged_of i))))
      (λ e. rw (← p, e) (behind_stays i i (omega arith))))

-- What the cache says of a page once it has become unchanged, and of all pages once those of translation page t have.
abbrev pub unchanged_found : Found → Found
unchanged_found (Hit place c) = Hit place 0
unchanged_found Miss = Miss

abbrev pub page_unchanged : Geometry → ℕ → (ℕ → Found) → ℕ → Found
page_unchanged g t m l = cond (eqb (translation_page g l) t) (unchanged_found (m l)) (m l)

-- No page has come into the cache.
pub unchanged_misses : (g : Geometry) (t : ℕ) (m : ℕ → Found) (l : ℕ) → m l ≡ Miss → page_unchanged g t m l ≡ Miss
unchanged_misses g t m l e = on (eqb (translation_page g l) t) (λ q. rw (q, e) refl) (λ q. rw q e)

module _ (g : Geometry) (t : ℕ) (cache : List ℕ) (used : ℕ) (m : ℕ → Found) (h : CacheHolds g cache used m) where
  abbrev cache' : List ℕ
  cache' = unchanged_of g t used cache

  fits : used * entry_words ≤ length cache
  fits = omega (arith, h.long, h.entries.at_most)

  -- An entry of the page is unchanged then; one of another is as it was.
  now_unchanged : (i : ℕ) → i < used → translation_page g (logical_at i cache) ≡ t → changed_at i cache' ≡ 0
  now_unchanged i u of_t =
      changed_then g t cache used i u fits
      ∙ (rw (test_of_page g t cache i of_t)
      (same? (changed_at i cache) 1
      (λ e. rw (eq-eqb (changed_at i cache) 1 e) refl)
      (λ e. rw (ne_eqb (changed_at i cache) 1 e) (omega (arith, h.entries.changed_fits i u)))))

  pub other_stays : (i : ℕ) → i < used → translation_page g (logical_at i cache) ≢ t → changed_at i cache' ≡ changed_at i cache
  other_stays i u other = changed_then g t cache used i u fits ∙ (rw (test_of_other g t cache i other) refl)

  pub no_longer_changed : (i : ℕ) → i < used → translation_page g (logical_at i cache) ≡ t → is_changed i cache' ≡ false
  no_longer_changed i u of_t = rw (now_unchanged i u of_t) refl

  entry_then : (i : ℕ) → i < used → page_unchanged g t m (logical_at i cache) ≡ Hit (physical_at i cache) (changed_at i cache')
  entry_then i u =
      same? (translation_page g (logical_at i cache)) t
      (λ e. rw (eq-eqb (translation_page g (logical_at i cache)) t e, h.hits i u, now_unchanged i u e) refl)
      (λ e. rw (ne_eqb (translation_page g (logical_at i cache)) t e, other_stays i u e) (h.hits i u))

  pub unchanged_holds : CacheHolds g cache' used (page_unchanged g t m)
  unchanged_holds =
      record {
        long = length_unchanged_of g t cache used ∙ h.long;
        entries =
            record {
              at_most = h.entries.at_most;
              below_L = λ i u. rw (logical_stays g t cache used i) (h.entries.below_L i u);
              different = λ a b ua ub q. h.entries.different a b ua ub
                  (sym (logical_stays g t cache used a) ∙ q ∙ logical_stays g t cache used b);
              changed_fits = λ i u. rw (changed_then g t cache used i u fits)
                  (on (is_changed_of g t i cache) (λ e. rw e (omega arith)) (λ e. rw e (h.entries.changed_fits i u)));
              unused = λ i c u. rw (logical_stays g t cache used i, physical_stays g t cache used i, behind_stays g t cache used i u)
                  (h.entries.unused i c u);
            };
        hits = λ i u. rw (logical_stays g t cache used i, physical_stays g t cache used i) (entry_then i u);
        misses = λ l n. unchanged_misses g t m l (h.misses l (λ i u q. n i u (logical_stays g t cache used i ∙ q)));
      }
