-- The changed entries of one translation page, from the last entry down: those from rank i on have been looked at, what is left to set and to
-- make unchanged makes it whole, and nothing is left once as many entries of the page were met as it has words.
use Rattle.std.specs.Prelude.{◌≡◌, ℕ, zero, suc, ◌+◌, ◌-◌, ◌*◌, ◌<◌, ◌≤◌, Bool, true, false, cond, List, [], ◌∷◌, ◌++◌, length, get_or, ◌==◌, nat_eq, slice_index_or, slice_set}
use Rattle.std.proofs.Common.{add-zero, add-one, arith, ◌∙◌, subst}
use Rattle.std.proofs.Math.Path.{refl, sym, ap}
use mathlib.Core.List.{append_assoc, append-nil}
use Rattle.std.proofs.Math.ListN.{length-set}
use Rattle.std.proofs.lemmas.List.Edits.{sets}
use Rattle.std.proofs.lemmas.List.{set_comm}
use Rattle.std.proofs.Math.Seq.{get_or-set_other}
use Rattle.std.proofs.lemmas.Bool.{eqb-false, eqb-true}
use Rattle.scope.specs.Geometry.{Geometry, pages}
use Rattle.scope.specs.Counting.{count}
use Rattle.scope.specs.Lent.{none, Mapping, entry_words, words_of, logical_at, physical_at, translation_page, translation_word}
use Rattle.scope.specs.Cache.{mapping_at, is_changed, is_changed_of, changed_of, unchanged_of}
use Rattle.scope.specs.Steps.{set_words}
use Rattle.flash.specs.Cases.{on}
use Rattle.flash.specs.Counting.{count_add, count_same, none_counted}
use Rattle.cache.specs.Neighbours.{test_of_page, test_of_other, changed_more, changed_no_more, none_changed}
use Rattle.steps.specs.Lies.{ChipLent}
use Rattle.index.specs.Words.{WordsSet, none_set, one_set}
use Rattle.index.specs.OfPage.{OfPages, of_page_at, few_of_page}

-- ---- a word set behind the entries that are left

module _ (g : Geometry) (t : ℕ) (cache : List ℕ) (k v : ℕ) where
  test_set : (i : ℕ) → i * entry_words + entry_words ≤ k → is_changed_of g t i (slice_set cache k v) ≡ is_changed_of g t i cache
  test_set i h =
      rw (get_or-set_other cache k (i * entry_words) v none (omega arith), get_or-set_other cache k (i * entry_words + 2) v none (omega arith))
      refl

  unchanged_of_set : (n : ℕ) → n * entry_words ≤ k → unchanged_of g t n (slice_set cache k v) ≡ slice_set (unchanged_of g t n cache) k v
  unfolding unchanged_of
  unchanged_of_set zero h = refl
  unchanged_of_set (suc n) h =
      let before = unchanged_of_set n (omega arith) in
      on (is_changed_of g t n cache)
      (λ e. rw (test_set n (omega arith), e, before)
      (set_comm (unchanged_of g t n cache) k (n * entry_words + 2) v 0 (omega arith)))
      (λ e. rw (test_set n (omega arith), e) before)

-- ---- from the last entry down

pub record SetFrom (g : Geometry) (q t n i : ℕ) (cache₀ chip₀ cache chip : List ℕ) : Type 0 where
  pub upto : i ≤ n
  pub long : length cache ≡ length cache₀
  pub ahead : (k : ℕ) → k < i * entry_words → slice_index_or cache k none ≡ slice_index_or cache₀ k none
  pub were_set : List Mapping
  pub is_set : WordsSet g q chip₀ were_set chip
  pub left_to_set : were_set ++ changed_of g t i cache₀ ≡ changed_of g t n cache₀
  pub left_to_mark : unchanged_of g t i cache ≡ unchanged_of g t n cache₀

pub all_left : {g : Geometry} {q t n : ℕ} {cache chip : List ℕ} → ChipLent g chip → q < pages g → SetFrom g q t n n cache chip cache chip
all_left lent on_chip =
    record {
      upto = omega arith;
      long = refl;
      ahead = λ k h. refl;
      were_set = [];
      is_set = none_set lent on_chip;
      left_to_set = refl;
      left_to_mark = refl;
    }

module _ {g : Geometry} {q t n i : ℕ} {cache₀ chip₀ cache chip : List ℕ} (before : SetFrom g q t n i cache₀ chip₀ cache chip) where
  same_logical : (j : ℕ) → j < i → logical_at j cache ≡ logical_at j cache₀
  same_logical j h = before.ahead (j * entry_words) (omega arith)

  same_test : (j : ℕ) → j < i → is_changed_of g t j cache ≡ is_changed_of g t j cache₀
  same_test j h = rw (same_logical j h, before.ahead (j * entry_words + 2) (omega arith)) refl

  -- No entry of the page is left.
  pub none_left : count i (of_page_at g t cache₀) ≡ 0
      → (chip ≡ sets chip₀ (q * g.W) (set_words g (changed_of g t n cache₀) (words_of g q chip₀))) × (cache ≡ unchanged_of g t n cache₀)
  none_left none_met =
      let fails : (j : ℕ) → j < i → is_changed_of g t j cache₀ ≡ false = λ j h. test_of_other g t cache₀ j
      (eqb-false (translation_page g (logical_at j cache₀)) t (none_counted i (of_page_at g t cache₀) none_met j h)) in
      let nothing = none_changed g t cache₀ i fails in
      let as_it_is = (none_changed g t cache i (λ j h. same_test j h ∙ fails j h)).1 in
      let all : before.were_set ≡ changed_of g t n cache₀ =
      sym (append-nil before.were_set) ∙ ap (λ ms. before.were_set ++ ms) (sym nothing.0) ∙ before.left_to_set in (
        before.is_set.words ∙ ap (λ ms. sets chip₀ (q * g.W) (set_words g ms (words_of g q chip₀))) all,
        sym as_it_is ∙ before.left_to_mark,
      )

-- One entry more, which is set and made unchanged if it is changed and of the page.
module _ {g : Geometry} {q t n i : ℕ} {cache₀ chip₀ cache chip : List ℕ} (before : SetFrom g q t n (suc i) cache₀ chip₀ cache chip) where
  test : is_changed_of g t i cache ≡ is_changed_of g t i cache₀
  test = same_test before i (omega arith)

  pub not_set : is_changed_of g t i cache ≡ false → SetFrom g q t n i cache₀ chip₀ cache chip
  unfolding unchanged_of
  not_set e =
      record {
        upto = omega (arith, before.upto);
        long = before.long;
        ahead = λ k h. before.ahead k (omega arith);
        were_set = before.were_set;
        is_set = before.is_set;
        left_to_set = ap (λ ms. before.were_set ++ ms) (sym (changed_no_more g t cache₀ i (sym test ∙ e))) ∙ before.left_to_set;
        left_to_mark = (rw e refl) ∙ before.left_to_mark;
      }

  pub one_more_set : ChipLent g chip → q < pages g → is_changed_of g t i cache ≡ true → {cache' chip' : List ℕ}
      → chip' ≡ slice_set chip (q * g.W + translation_word g (logical_at i cache)) (physical_at i cache)
      → cache' ≡ slice_set cache (i * entry_words + 2) 0 → SetFrom g q t n i cache₀ chip₀ cache' chip'
  unfolding unchanged_of
  one_more_set lent on_chip e stored marked =
      record {
        upto = omega (arith, before.upto);
        long = ap length marked ∙ length-set cache (i * entry_words + 2) 0 ∙ before.long;
        ahead = λ k h. ap (λ (x : List ℕ). get_or x k none) marked
            ∙ get_or-set_other cache (i * entry_words + 2) k 0 none (omega arith) ∙ before.ahead k (omega arith);
        were_set = before.were_set ++ mapping_at i cache₀ ∷ [];
        is_set = one_set lent₀ on_chip (mapping_at i cache₀) before.is_set
            (stored ∙ (rw (same_logical before i (omega arith), before.ahead (i * entry_words + 1) (omega arith)) refl));
        left_to_set = append_assoc before.were_set (mapping_at i cache₀ ∷ []) (changed_of g t i cache₀)
            ∙ ap (λ ms. before.were_set ++ ms) (sym (changed_more g t cache₀ i (sym test ∙ e))) ∙ before.left_to_set;
        left_to_mark = ap (unchanged_of g t i) marked ∙ unchanged_of_set g t cache (i * entry_words + 2) 0 i (omega arith)
            ∙ (rw e refl) ∙ before.left_to_mark;
      }
    where
      lent₀ : ChipLent g chip₀
      lent₀ = record { bounded = lent.bounded; chip_fits = sym before.is_set.as_long ∙ lent.chip_fits }

-- ---- as the code goes

-- What the test of the page says of an entry.
module _ (g : Geometry) (t i : ℕ) (cache : List ℕ) where
  pub of_other_page : of_page_at g t cache i ≡ false → is_changed_of g t i cache ≡ false
  of_other_page e = test_of_other g t cache i (eqb-false (translation_page g (logical_at i cache)) t e)

  pub of_this_page : of_page_at g t cache i ≡ true → is_changed_of g t i cache ≡ is_changed i cache
  of_this_page e = test_of_page g t cache i (eqb-true (translation_page g (logical_at i cache)) t e)

-- What the pass over the first n entries asks for.
pub record EntriesLent (g : Geometry) (t n : ℕ) (cache : List ℕ) : Type 0 where
  pub of_pages : OfPages g t
  pub lie : n * entry_words ≤ length cache
  pub different : (i j : ℕ) → i < n → j < n → logical_at i cache ≡ logical_at j cache → i ≡ j

-- The entries from rank i on and before rank j are looked at, wherever the pass began.
abbrev pub LooksAt : Geometry → ℕ → ℕ → ℕ → ℕ → List ℕ → List ℕ → List ℕ → List ℕ → Type 0
LooksAt g q t i j cache chip cache' chip' =
    (n : ℕ) (cache₀ chip₀ : List ℕ) → SetFrom g q t n j cache₀ chip₀ cache chip → SetFrom g q t n i cache₀ chip₀ cache' chip'

module _ {g : Geometry} {q t i : ℕ} {cache chip : List ℕ} where
  next : {n : ℕ} {cache₀ chip₀ : List ℕ} → SetFrom g q t n (i + 1) cache₀ chip₀ cache chip → SetFrom g q t n (suc i) cache₀ chip₀ cache chip
  next {n} {cache₀} {chip₀} before = subst (λ (k : ℕ). SetFrom g q t n k cache₀ chip₀ cache chip) (add-one i) before

  pub looks_at_another : is_changed_of g t i cache ≡ false → LooksAt g q t i (i + 1) cache chip cache chip
  looks_at_another e n cache₀ chip₀ before = not_set (next before) e

  pub looks_at_one : {cache' chip' : List ℕ} → ChipLent g chip → q < pages g → is_changed_of g t i cache ≡ true
      → chip' ≡ slice_set chip (q * g.W + translation_word g (logical_at i cache)) (physical_at i cache)
      → cache' ≡ slice_set cache (i * entry_words + 2) 0 → LooksAt g q t i (i + 1) cache chip cache' chip'
  looks_at_one lent on_chip e stored marked n cache₀ chip₀ before = one_more_set (next before) lent on_chip e stored marked

-- One part of them after another.
pub looks_on : {g : Geometry} {q t i j k k' : ℕ} {cache chip cache₁ chip₁ cache' chip' : List ℕ} → k' ≡ k
    → LooksAt g q t j k cache chip cache₁ chip₁ → LooksAt g q t i j cache₁ chip₁ cache' chip' → LooksAt g q t i k' cache chip cache' chip'
looks_on {g} {q} {t} {cache = cache} {chip} e first then n cache₀ chip₀ before =
    then n cache₀ chip₀ (first n cache₀ chip₀ (subst (λ (x : ℕ). SetFrom g q t n x cache₀ chip₀ cache chip) e before))

-- None of n is of the page.
pub looks_past : {g : Geometry} {q t i : ℕ} {cache chip : List ℕ} (n : ℕ) → count n (λ k. of_page_at g t cache (i + k)) ≡ 0
    → LooksAt g q t i (i + n) cache chip cache chip
looks_past {g} {q} {t} {i} {cache} {chip} zero none_met =
    subst (λ (k : ℕ). LooksAt g q t i k cache chip cache chip) (sym (add-zero i)) (λ n cache₀ chip₀ before. before)
looks_past {g} {t = t} {i} {cache} (suc n) none_met =
    looks_on (omega arith)
    (looks_at_another (of_other_page g t (i + n) cache (none_counted (suc n) (λ j. of_page_at g t cache (i + j)) none_met n (omega arith))))
    (looks_past n (omega arith))

-- No logical page changes.
looked_keeps : {g : Geometry} {q t i k : ℕ} {cache chip cache' chip' : List ℕ} → ChipLent g chip → q < pages g
    → LooksAt g q t i k cache chip cache' chip' → (j : ℕ) → j < i → logical_at j cache' ≡ logical_at j cache
looked_keeps {k = k} {cache} {chip} lent on_chip looked j h = same_logical (looked k cache chip (all_left lent on_chip)) j h

-- Of the n entries from rank i on those behind the first k have been looked at, and so many of these k are of the page.
pub record OwnLeft (g : Geometry) (q t i n : ℕ) (cache₀ chip₀ cache chip : List ℕ) (left k : ℕ) : Type 0 where
  pub ahead : (j : ℕ) → j < i + k → logical_at j cache ≡ logical_at j cache₀
  pub are_left : left ≡ count k (λ j. of_page_at g t cache₀ (i + j))
  pub looked : LooksAt g q t (i + k) (i + n) cache₀ chip₀ cache chip

module _ {g : Geometry} {q t i n : ℕ} {cache₀ chip₀ cache chip : List ℕ} {left k : ℕ}
    (before : OwnLeft g q t i n cache₀ chip₀ cache chip left k) where
  abbrev own : ℕ → Bool
  own j = of_page_at g t cache₀ (i + j)

  -- The last of the k is of the page or not, as 1 or 0.
  pub one_less_left : 0 < k → {r : ℕ} → r ≡ cond (of_page_at g t cache (i + (k - 1))) 1 0 → {cache' chip' : List ℕ} → ChipLent g chip
      → q < pages g → LooksAt g q t (i + (k - 1)) (i + (k - 1) + 1) cache chip cache' chip'
      → OwnLeft g q t i n cache₀ chip₀ cache' chip' (left - r) (k - 1)
  one_less_left some {r} found lent on_chip looks =
      let one : k ≡ suc (k - 1) = omega arith in
      let counted : left ≡ count (k - 1) own + r = before.are_left ∙ ap (λ (m : ℕ). count m own) one
      ∙ ap (λ (x : ℕ). count (k - 1) own + x)
      (ap (λ (l : ℕ). cond (translation_page g l == t) 1 0) (sym (before.ahead (i + (k - 1)) (omega arith))) ∙ sym found) in
      record {
        ahead = λ j h. looked_keeps lent on_chip looks j h ∙ before.ahead j (omega arith);
        are_left = omega (arith, counted);
        looked = looks_on refl before.looked (looks_on (omega arith) looks (λ m c d set. set));
      }

  pub none_own_left : left ≡ 0 → LooksAt g q t i (i + n) cache₀ chip₀ cache chip
  none_own_left e =
      looks_on refl before.looked (looks_past k (count_same k (λ j. of_page_at g t cache (i + j)) own
      (λ j h. ap (λ (l : ℕ). nat_eq (translation_page g l) t) (before.ahead (i + j) (omega arith))) ∙ sym before.are_left ∙ e))

-- So many entries of the page were met from rank i on.
pub record MetFrom (g : Geometry) (t n i : ℕ) (cache : List ℕ) (met : ℕ) : Type 0 where
  pub so_far : met + count i (of_page_at g t cache) ≡ count n (of_page_at g t cache)

pub met_more : {g : Geometry} {q t n : ℕ} (i m : ℕ) {cache₀ chip₀ cache chip : List ℕ} {met met' : ℕ}
    → SetFrom g q t n (i + m) cache₀ chip₀ cache chip → MetFrom g t n (i + m) cache₀ met
    → met' ≡ met + count m (λ k. of_page_at g t cache (i + k)) → MetFrom g t n i cache₀ met'
met_more {g} {t = t} i m {cache₀} {cache = cache} before met e =
    record {
      so_far = omega (
        arith,
        e,
        met.so_far,
        count_add i m (of_page_at g t cache₀),
        count_same m (λ k. of_page_at g t cache (i + k)) (λ k. of_page_at g t cache₀ (i + k))
            (λ k h. ap (λ (l : ℕ). nat_eq (translation_page g l) t) (same_logical before (i + k) (omega arith))),
      );
    }

-- One stretch of m more is looked at.
pub stretch_passed : {g : Geometry} {q t n j : ℕ} (i m : ℕ) {cache₀ chip₀ cache chip cache' chip' : List ℕ} {met met' : ℕ} → j ≡ i + m
    → SetFrom g q t n j cache₀ chip₀ cache chip × MetFrom g t n j cache₀ met → LooksAt g q t i (i + m) cache chip cache' chip'
    → met' ≡ met + count m (λ k. of_page_at g t cache (i + k)) → SetFrom g q t n i cache₀ chip₀ cache' chip' × MetFrom g t n i cache₀ met'
stretch_passed {n = n} i m {cache₀} {chip₀} e before looks value =
    let (set, met) = rw e at before in
    (looks n cache₀ chip₀ set, met_more i m set met value)

-- None is left where they are as many as the page has words.
pub all_met : {g : Geometry} {t n i met : ℕ} {cache : List ℕ} → EntriesLent g t n cache → MetFrom g t n i cache met → g.W ≤ met
    → count i (of_page_at g t cache) ≡ 0
all_met {g} {t} {n} {cache = cache} entries met enough =
    omega (arith, met.so_far, few_of_page g entries.of_pages.some t n cache entries.different)
