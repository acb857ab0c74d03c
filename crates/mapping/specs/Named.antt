-- A map from the owners of a region to its pages names, for each owner, the one valid page that it owns exactly where every word that is
-- no *none* names such a page and there are as many of these as valid pages: a second page of an owner would be named by no word. So
-- rules 4 and 6, each with rule 2 of its region, are decided by three counts, and nothing is kept for each owner.
use Prim.Native.Nat.{ℕ, ◌+◌, ◌-◌, ◌≤◌, ◌<◌}
use Rattle.std.specs.Prelude.{◌≡◌, refl, ◌≢◌, true, false, ◌&&◌, List, eqb, ltb, leb}
use Rattle.std.proofs.Math.Path.{sym, ap}
use Rattle.std.proofs.Common.{◌∙◌, le-leb, le-ltb, eqb-true, eq-eqb, ne_eqb}
use Rattle.std.proofs.Math.Bool.{Bool, not}
use native.Mathlib.Omega.{arith}
use Rattle.std.proofs.lemmas.Bool.{eqb-false, not-true}
use Rattle.scope.specs.Counting.{count}
use Rattle.scope.specs.Geometry.{Geometry, most_pages}
use Rattle.scope.specs.Lent.{none, valid, Place, decode, state_of, owner_of, is_valid}
use Rattle.scope.specs.Regions.{Region, owners, first_page, region_pages, HasPage}
use Rattle.scope.specs.Sound.{OwnersDiffer, Names}
use Rattle.scope.specs.Laws.Decides.{Decides, by_equal, by_below, by_most, by_same, by_and}
use Rattle.flash.specs.Cases.{on, same?, clash, and_true, true_and, not_of_false, is_false}
use Rattle.flash.specs.Counting.{count_same, count_not, count_into, count_less, count_tight}
use Rattle.flash.specs.Owners.{OwnersFit}

-- Page p is one of the n pages from `first` on, valid, and owned by k.
abbrev pub owns : ℕ → ℕ → List ℕ → ℕ → ℕ → Bool
owns first n spare k p = leb first p && ltb p (first + n) && is_valid p spare && eqb (owner_of p spare) k

-- A word names no page.
abbrev pub is_none : ℕ → Bool
is_none x = eqb x none

-- A word that names a page of a row is no *none*; one past the pages of a row names none of them, and *none* is such a word.
pub place_some : (first n x : ℕ) → first + n ≤ most_pages → x < first + n → is_none x ≡ false
place_some first n x small inside = ne_eqb x none (λ e. omega arith)

pub past_owned : (first n : ℕ) (spare : List ℕ) (k x : ℕ) → first + n ≤ x → owns first n spare k x ≡ false
past_owned first n spare k x past = rw (le-leb first x (omega arith), le-ltb x (first + n) past)

pub none_owned : (first n : ℕ) (spare : List ℕ) (k x : ℕ) → first + n ≤ most_pages → x ≡ none → owns first n spare k x ≡ false
none_owned first n spare k x small is = past_owned first n spare k x (omega arith)

module _ (g : Geometry) (r : Region) (spare : List ℕ) where
  pub owns_decided : (k p : ℕ) → Decides (owns (first_page g r) (region_pages g r) spare k p) (Names g r spare k (Place p))
  owns_decided k p =
      by_same
      (λ x. (x.0.0, x.0.1, x.1))
      (λ x. ((x.0, x.1), x.2))
      (by_and
      (by_and (by_and (by_most (first_page g r) p) (by_below p (first_page g r + region_pages g r))) (by_equal (state_of p spare) valid))
      (by_equal (owner_of p spare) k))

  -- The tests that are counted: of an owner's word, and of a page of the region.
  abbrev none_at : (ℕ → ℕ) → ℕ → Bool
  none_at map k = is_none (map k)

  abbrev named_at : (ℕ → ℕ) → ℕ → Bool
  named_at map k = not (none_at map k)

  abbrev good_at : (ℕ → ℕ) → ℕ → Bool
  good_at map k = owns (first_page g r) (region_pages g r) spare k (map k)

  abbrev valid_at : ℕ → Bool
  valid_at i = is_valid (first_page g r + i) spare

  module _ (small : first_page g r + region_pages g r ≤ most_pages) (map : ℕ → ℕ) where
    -- A word that names an owner's page is no *none*.
    good_named : (k : ℕ) → good_at map k ≡ true → named_at map k ≡ true
    good_named k h =
        let n = (owns_decided k (map k)).holds h in
        not_of_false (ne_eqb (map k) none (λ e. omega (arith, n.0.1)))

    -- The page that a good word names, counted from the region's first.
    offset : ℕ → ℕ
    offset k = map k - first_page g r

    to_valid : (k : ℕ) → good_at map k ≡ true → (offset k < region_pages g r) × (valid_at (offset k) ≡ true)
    unfolding offset
    to_valid k h =
        let n = (owns_decided k (map k)).holds h in
        let e : first_page g r + (map k - first_page g r) ≡ map k = omega (arith, n.0.0) in
        (omega (arith, n.0.0, n.0.1), rw e (eq-eqb (state_of (map k) spare) valid n.1))

    to_differ : (i j : ℕ) → good_at map i ≡ true → good_at map j ≡ true → offset i ≡ offset j → i ≡ j
    unfolding offset
    to_differ i j p q e =
        let m = (owns_decided i (map i)).holds p in
        let n = (owns_decided j (map j)).holds q in
        let s : map i ≡ map j = omega (arith, m.0.0, n.0.0) in
        sym m.2 ∙ ap (λ (x : ℕ). owner_of x spare) s ∙ n.2

    -- ---- from the rules to the counts

    module _ (fit : OwnersFit g r spare) (differ : OwnersDiffer g r spare)
        (names : (k : ℕ) → k < owners g r → Names g r spare k (decode (map k))) where
      -- The word of an owner that has a word, and of an owner that has a page.
      good_of_named : (k : ℕ) → k < owners g r → named_at map k ≡ true → good_at map k ≡ true
      good_of_named k l h =
          let e : eqb (map k) none ≡ false = not-true (eqb (map k) none) h in
          (owns_decided k (map k)).passes (rw e at (names k l))

      good_of_page : (p : ℕ) → HasPage g r p → state_of p spare ≡ valid → good_at map (owner_of p spare) ≡ true
      good_of_page p h v =
          let l = fit p h v in
          on (eqb (map (owner_of p spare)) none)
          (λ e. let n = rw e at (names (owner_of p spare) l) in absurd (n p h v refl))
          (λ e. good_of_named (owner_of p spare) l (not_of_false e))

      in_region : (i : ℕ) → i < region_pages g r → HasPage g r (first_page g r + i)
      in_region i h = (omega arith, omega arith)

      pub counts_of_names : (count (owners g r) (named_at map) ≡ count (owners g r) (good_at map))
          × (count (owners g r) (good_at map) ≡ count (region_pages g r) valid_at)
      counts_of_names = (
        count_same (owners g r) (named_at map) (good_at map) (λ k l.
            on (named_at map k)
            (λ h. h ∙ sym (good_of_named k l h))
            (λ h. h ∙ sym (is_false (good_at map k) (λ q. clash (good_named k q) h)))),
        let up : count (owners g r) (good_at map) ≤ count (region_pages g r) valid_at =
            count_into (owners g r) (region_pages g r) (good_at map) valid_at offset (λ k l h. to_valid k h) (λ i j k l p q. to_differ i j p q) in
            let down : count (region_pages g r) valid_at ≤ count (owners g r) (good_at map) =
            count_into (region_pages g r) (owners g r) valid_at (good_at map) (λ i. owner_of (first_page g r + i) spare)
            (λ i k h.
            let v : state_of (first_page g r + i) spare ≡ valid = eqb-true (state_of (first_page g r + i) spare) valid h in
            (fit (first_page g r + i) (in_region i k) v, good_of_page (first_page g r + i) (in_region i k) v))
            (λ i j k l p q e. omega (
              arith,
              differ (first_page g r + i) (first_page g r + j) (in_region i k) (in_region j l)
                  (eqb-true (state_of (first_page g r + i) spare) valid p) (eqb-true (state_of (first_page g r + j) spare) valid q) e,
            )) in
            omega arith,
      )

    -- ---- from the counts to the rules

    module _ (all_good : count (owners g r) (named_at map) ≡ count (owners g r) (good_at map))
        (all_pages : count (owners g r) (good_at map) ≡ count (region_pages g r) valid_at) where
      good_of_word : (k : ℕ) → k < owners g r → named_at map k ≡ true → good_at map k ≡ true
      good_of_word = count_tight (owners g r) (good_at map) (named_at map) (λ k l. good_named k) all_good

      -- A valid page is named by its owner's word: else there were fewer good words than valid pages.
      named_by_owner : (p : ℕ) → HasPage g r p → state_of p spare ≡ valid → map (owner_of p spare) ≡ p
      unfolding offset
      named_by_owner p h v =
          same? (map (owner_of p spare)) p (λ e. e) (λ other.
          let at : ℕ = p - first_page g r in
          let others : ℕ → Bool = λ i. valid_at i && not (eqb i at) in
          let is_p : first_page g r + at ≡ p = omega arith in
          let fewer : count (region_pages g r) others < count (region_pages g r) valid_at =
          count_less (region_pages g r) others valid_at (λ i l t. (and_true (valid_at i) (not (eqb i at)) t).0)
          at (omega (arith, h.0, h.1))
          (is_false (others at) (λ t. absurd (eqb-false at at (not-true (eqb at at) (and_true (valid_at at) (not (eqb at at)) t).1) refl)))
          (rw is_p (eq-eqb (state_of p spare) valid v)) in
          let up : count (owners g r) (good_at map) ≤ count (region_pages g r) others =
          count_into (owners g r) (region_pages g r) (good_at map) others offset
          (λ i l t.
          let n = (owns_decided i (map i)).holds t in (
            (to_valid i t).0,
            true_and (to_valid i t).1 (not_of_false (ne_eqb (offset i) at (λ same.
                let s : map i ≡ p = omega (arith, n.0.0, h.0) in
                other (ap map (ap (λ (x : ℕ). owner_of x spare) (sym s) ∙ n.2) ∙ s)))),
          ))
          (λ i j k l p' q. to_differ i j p' q) in
          absurd (omega arith))

      -- So an owner without a word has no page, and two pages of one owner are one.
      no_page : (k : ℕ) → map k ≡ none → (p : ℕ) → HasPage g r p → state_of p spare ≡ valid → owner_of p spare ≢ k
      no_page k e p h v o =
          let is : p ≡ none = sym (named_by_owner p h v) ∙ ap map o ∙ e in
          omega (arith, h.1)

      differ_of_counts : OwnersDiffer g r spare
      differ_of_counts p q h k v w e = sym (named_by_owner p h v) ∙ ap map e ∙ named_by_owner q k w

      names_of_counts : (k : ℕ) → k < owners g r → Names g r spare k (decode (map k))
      names_of_counts k l =
          on (eqb (map k) none)
          (λ e. rw e (no_page k (eqb-true (map k) none e)))
          (λ e. rw e ((owns_decided k (map k)).holds (good_of_word k l (not_of_false e))))

    -- The words that are *none* and the good ones are all of them: every word that names a page is good.
    all_told : count (owners g r) (none_at map) + count (owners g r) (named_at map) ≡ owners g r
    all_told = count_not (owners g r) (none_at map)

    -- Rule 2 and the rule for a whole map are decided by the two comparisons.
    pub by_counts : OwnersFit g r spare
        → Decides
        (eqb (count (owners g r) (none_at map) + count (owners g r) (good_at map)) (owners g r)
        && eqb (count (owners g r) (good_at map)) (count (region_pages g r) valid_at))
        (OwnersDiffer g r spare × ((k : ℕ) → k < owners g r → Names g r spare k (decode (map k))))
    by_counts fit =
        by_same
        (λ x.
        let all_good : count (owners g r) (named_at map) ≡ count (owners g r) (good_at map) = omega (arith, all_told, x.0) in
        (differ_of_counts all_good x.1, names_of_counts all_good x.1))
        (λ n.
        let counts = counts_of_names fit n.0 n.1 in
        (omega (arith, all_told, counts.0), counts.1))
        (by_and
        (by_equal (count (owners g r) (none_at map) + count (owners g r) (good_at map)) (owners g r))
        (by_equal (count (owners g r) (good_at map)) (count (region_pages g r) valid_at)))
