-- The translation pages in order, as rule 6 walks them: page t holds the logical pages from t * W on, W of them or as many as L leaves,
-- and of the last page alone there are words past L.
use Rattle.std.specs.Prelude.{ℕ, suc, ◌+◌, ◌*◌, ◌-◌, ◌/◌, ◌%◌, min, ◌≤◌, ◌<◌, ◌≡◌, Bool, List, length, get_or, take, drop}
use Rattle.std.proofs.Common.{le-div_iff_mul-le, mod-eq_of_lt, suc-mul, mul-le-mul_right, add-zero, add-one, arith, sym, ap, ◌∙◌, subst, length-take, length-drop, get_or-take, get_or-drop, eq-eqb}
use Rattle.std.proofs.Math.Nat.{lt-div-mul-add, mul-add-div_right, mul-add-mod_self_right, div-eq_of_lt}
use Rattle.scope.specs.Counting.{count}
use Rattle.scope.specs.Geometry.{Geometry, Accepted, M, pages, most_pages}
use Rattle.scope.specs.Lent.{none, Place, Nowhere, decode, word_of, named, chip_size, directory_size, logical_at, physical_at}
use Rattle.scope.specs.Regions.{Translation}
use Rattle.scope.specs.Sound.{stored, Names, DirectoryNames}
use Rattle.flash.specs.Cases.{same?, below?}
use Rattle.flash.specs.Counting.{count_same, count_none, count_each, count_add}
use Rattle.flash.specs.Places.{page_on_chip}
use Rattle.words.specs.Erased.{ErasedRun}
use Rattle.words.specs.Runs.{get_d_any}
use Rattle.mapping.specs.Named.{owns, is_none, none_owned}
use Rattle.mapping.specs.Stored.{stored_nowhere, stored_place}
use Rattle.mapping.specs.Tally.{Tallied, TalliedWords, word_none, word_good}
use Rattle.mapping.specs.declared.tally.Tally.{Tally}

-- The words from `at` on that hold the places of the logical pages from `from` on: W of them, or as many as L leaves.
abbrev pub held_words : Geometry → List ℕ → ℕ → ℕ → List ℕ
held_words g chip at from = take (min g.W (g.L - from)) (drop at chip)

module _ (g : Geometry) (W_from : 1 ≤ g.W) where
  -- Each translation page holds some logical page, and all of them hold every one.
  pub page_starts : (t : ℕ) → t < M g → t * g.W < g.L
  page_starts t h =
      let fits : suc t * g.W ≤ g.L + (g.W - 1) = (le-div_iff_mul-le W_from).0 h in
      omega (arith, suc-mul t g.W)

  pub pages_cover : g.L ≤ M g * g.W
  pages_cover = omega (arith, lt-div-mul-add {a = g.L + (g.W - 1)} {b = g.W} W_from)

  -- Logical page t * W + i is at word i of translation page t.
  pub page_of : (t i : ℕ) → i < g.W → (t * g.W + i) / g.W ≡ t
  page_of t i h = mul-add-div_right W_from t i ∙ ap (λ (x : ℕ). t + x) (div-eq_of_lt h) ∙ add-zero t

  pub word_in : (t i : ℕ) → i < g.W → (t * g.W + i) % g.W ≡ i
  word_in t i h = mul-add-mod_self_right t g.W i ∙ mod-eq_of_lt h

  module _ (chip directory : List ℕ) (t : ℕ) where
    pub stored_in_page : (q i : ℕ) → i < g.W → Place q ≡ named t directory → stored g chip directory (t * g.W + i) ≡ word_of g q i chip
    stored_in_page q i h e =
        sym (stored_place g chip directory (t * g.W + i) q (e ∙ ap (λ (k : ℕ). named k directory) (sym (page_of t i h))))
        ∙ ap (λ (k : ℕ). word_of g q k chip) (word_in t i h)

-- What is counted of the words that flash stores: of logical page l.
abbrev pub stored_none : Geometry → List ℕ → List ℕ → ℕ → Bool
stored_none g chip directory l = is_none (stored g chip directory l)

abbrev pub stored_good : Geometry → List ℕ → List ℕ → List ℕ → ℕ → Bool
stored_good g chip spare directory l = owns 0 (g.D * g.P) spare l (stored g chip directory l)

-- Of the entry at rank i: the place that the cache has, and the word of flash that it hides.
abbrev pub cached_none : List ℕ → ℕ → Bool
cached_none cache i = is_none (physical_at i cache)

abbrev pub cached_good : ℕ → List ℕ → List ℕ → ℕ → Bool
cached_good n cache spare i = owns 0 n spare (logical_at i cache) (physical_at i cache)

abbrev pub hidden_none : Geometry → List ℕ → List ℕ → List ℕ → ℕ → Bool
hidden_none g chip directory cache i = stored_none g chip directory (logical_at i cache)

abbrev pub hidden_good : Geometry → List ℕ → List ℕ → List ℕ → List ℕ → ℕ → Bool
hidden_good g chip spare directory cache i = stored_good g chip spare directory (logical_at i cache)

-- How many logical pages the first t translation pages hold.
abbrev pub held_by : Geometry → ℕ → ℕ
held_by g t = min (t * g.W) g.L

-- What the translation pages from t to u store, counted for as many logical pages as they hold.
abbrev pub TalliedBetween : Geometry → List ℕ → List ℕ → List ℕ → ℕ → ℕ → Tally → Tally → Type 0
TalliedBetween g chip spare directory t u s r =
    Tallied s r (held_by g u - t * g.W)
    (λ i. stored_none g chip directory (t * g.W + i))
    (λ i. stored_good g chip spare directory (t * g.W + i))

-- Translation page t is counted, and perhaps some behind it, up to the page that comes next.
pub record TalliedFrom (g : Geometry) (chip spare directory : List ℕ) (t : ℕ) (s r : Tally) (next : ℕ) : Type 0 where
  pub goes_on : t < next
  pub ends : next ≤ M g
  pub counted : TalliedBetween g chip spare directory t next s r

module _ (g : Geometry) (ok : Accepted g) (small : 0 + g.D * g.P ≤ most_pages) (chip spare directory : List ℕ) (t : ℕ) where
  -- What the pages from t to u store where none of them exists.
  nothing_stored : (u : ℕ) → Nowhere ≡ named t directory → ErasedRun directory (t + 1) u
      → (i : ℕ) → i < held_by g u - t * g.W → stored g chip directory (t * g.W + i) ≡ none
  nothing_stored u e run i h =
      let l : ℕ = t * g.W + i in
      let low : t ≤ l / g.W = (le-div_iff_mul-le ok.W_from).1 (omega arith) in
      let high : l / g.W < u = below? (l / g.W) u (λ k. k) (λ k. absurd (omega (arith, (le-div_iff_mul-le ok.W_from).0 k))) in
      let nowhere : Nowhere ≡ named (l / g.W) directory =
      same? (l / g.W) t
      (λ same. e ∙ ap (λ (k : ℕ). named k directory) (sym same))
      (λ other. ap decode (sym (run.each (l / g.W) (omega arith) high))) in
      sym (stored_nowhere g chip directory l nowhere)

  -- Pages that don't exist count as so many times *none* as they hold logical pages.
  pub pages_nowhere : (u : ℕ) (s r : Tally) → Nowhere ≡ named t directory → ErasedRun directory (t + 1) u
      → r.nones ≡ s.nones + (held_by g u - t * g.W) → r.good ≡ s.good → TalliedBetween g chip spare directory t u s r
  pages_nowhere u s r e run nones good =
      let n : ℕ = held_by g u - t * g.W in
      record {
        nones_more = omega (
          arith,
          count_each n (λ i. stored_none g chip directory (t * g.W + i)) (λ i h.
              eq-eqb (stored g chip directory (t * g.W + i)) none (nothing_stored u e run i h)),
        );
        good_more = omega (
          arith,
          count_none n (λ i. stored_good g chip spare directory (t * g.W + i)) (λ i h.
              none_owned 0 (g.D * g.P) spare (t * g.W + i) (stored g chip directory (t * g.W + i)) small (nothing_stored u e run i h)),
        );
      }

  pub page_place : (s r : Tally) (q : ℕ) → t < M g → Place q ≡ named t directory → q * g.W + g.W ≤ length chip
      → TalliedWords (held_words g chip (q * g.W) (t * g.W)) (t * g.W) spare (g.D * g.P) s r
      → TalliedBetween g chip spare directory t (t + 1) s r
  page_place s r q below e fits h =
      let words : List ℕ = held_words g chip (q * g.W) (t * g.W) in
      let starts : t * g.W < g.L = page_starts g ok.W_from t below in
      let n : ℕ = held_by g (t + 1) - t * g.W in
      let is_n : n ≡ min g.W (g.L - t * g.W) = omega (arith, ap (λ (k : ℕ). k * g.W) (add-one t), suc-mul t g.W) in
      let long : length words ≡ n = simp (length-take, length-drop) (omega arith) in
      let at : (i : ℕ) → i < n → get_or words i none ≡ stored g chip directory (t * g.W + i) =
      λ i k.
      get_or-take (min g.W (g.L - t * g.W)) (drop (q * g.W) chip) i none (omega arith) ∙ get_or-drop (q * g.W) chip i none
      ∙ sym (stored_in_page g ok.W_from chip directory t q i (omega arith) e) in
      record {
        nones_more = h.nones_more ∙ ap (λ (k : ℕ). s.nones + k)
            (ap (λ (k : ℕ). count k (word_none words)) long
            ∙ count_same n _ _ (λ i k. ap is_none (at i k)));
        good_more = h.good_more ∙ ap (λ (k : ℕ). s.good + k)
            (ap (λ (k : ℕ). count k (word_good words (t * g.W) spare 0 (g.D * g.P))) long
            ∙ count_same n _ _ (λ i k. ap (owns 0 (g.D * g.P) spare (t * g.W + i)) (at i k)));
      }

-- The first t translation pages' words counted, and those from there to page u more.
abbrev pub TalliedPages : Geometry → List ℕ → List ℕ → List ℕ → ℕ → Tally → Tally → Type 0
TalliedPages g chip spare directory t s r =
    Tallied s r (held_by g t) (stored_none g chip directory) (stored_good g chip spare directory)

module _ (g : Geometry) (ok : Accepted g) (chip spare directory : List ℕ) where
  pub pages_more : (t u : ℕ) (s₀ s r : Tally) → t < M g → t < u → TalliedPages g chip spare directory t s₀ s
      → TalliedBetween g chip spare directory t u s r → TalliedPages g chip spare directory u s₀ r
  pages_more t u s₀ s r h more before between =
      let starts : t * g.W < g.L = page_starts g ok.W_from t h in
      let at : held_by g t ≡ t * g.W = omega arith in
      let n : ℕ = held_by g u - t * g.W in
      let next : held_by g u ≡ t * g.W + n = omega (arith, mul-le-mul_right {m = t} {n = u} g.W (omega arith)) in
      record {
        nones_more = rw (next, count_add (t * g.W) n (stored_none g chip directory))
            (omega (arith, between.nones_more, subst (λ (k : ℕ). s.nones ≡ s₀.nones + count k (stored_none g chip directory)) at before.nones_more));
        good_more = rw (next, count_add (t * g.W) n (stored_good g chip spare directory))
            (omega (arith, between.good_more, subst (λ (k : ℕ). s.good ≡ s₀.good + count k (stored_good g chip spare directory)) at before.good_more));
      }

-- The pages that the directory names are on the chip, with all their words: by rule 4.
abbrev pub NamesOnChip : Geometry → List ℕ → Type 0
NamesOnChip g directory = (t q : ℕ) → t < M g → Place q ≡ named t directory → q < pages g

pub names_on_chip : (g : Geometry) (spare directory : List ℕ) → DirectoryNames g spare directory → NamesOnChip g directory
names_on_chip g spare directory names t q h e =
    page_on_chip g Translation q (subst (Names g Translation spare t) (sym e) (names t h)).0

pub words_on_chip : (g : Geometry) (q n : ℕ) → q < pages g → n ≡ chip_size g → q * g.W + g.W ≤ n
words_on_chip g q n h e = omega (arith, suc-mul q g.W, mul-le-mul_right {m = suc q} {n = pages g} g.W h)

-- The code's word of the directory is the definition's, and a page that it names has its words on the chip.
pub read_here : (directory : List ℕ) (t : ℕ) → t < length directory → decode (get_or directory t 0) ≡ named t directory
read_here directory t h = ap decode (get_d_any directory t 0 none h)

pub read_on_chip : (g : Geometry) (chip directory : List ℕ) (t q : ℕ) → length chip ≡ chip_size g → length directory ≡ directory_size g
    → NamesOnChip g directory → t < M g → Place q ≡ decode (get_or directory t 0) → q * g.W + g.W ≤ length chip
read_on_chip g chip directory t q long few names h e =
    words_on_chip g q (length chip) (names t q h (e ∙ read_here directory t (omega arith))) long
