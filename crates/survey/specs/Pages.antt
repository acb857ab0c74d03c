-- Rule 1 of a page, in numbers: pages of W words whose owners are below a limit.
use Rattle.std.specs.Prelude.{ℕ, ◌+◌, ◌*◌, ◌≤◌, ◌<◌, ◌≡◌, refl, ◌≢◌, Bool, true, false, cond, ◌&&◌, ◌||◌, List, ltb, length, take, drop}
use Rattle.std.specs.Int.{from_bool}
use Rattle.std.proofs.Math.Path.{sym, subst}
use Rattle.std.proofs.Common.{ap, ap₂, ◌∙◌, add-zero, mul_assoc, add-one, arith, length-drop, get_or-take, get_or-drop, length-take-le, mul-le-mul_right}
use Rattle.std.proofs.Math.Nat.{add-mul}
use Rattle.std.proofs.Math.Dec.{eqb}
use Rattle.std.proofs.Math.ListN.{get_or}
use borrow.Author.Tests.{eqb-true, eq-eqb, ne_eqb}
use Rattle.scope.specs.Counting.{all, count}
use Rattle.scope.specs.Geometry.{Geometry}
use Rattle.scope.specs.Regions.{Region, owners, first_page, region_pages}
use Rattle.scope.specs.Lent.{none, erased, valid, invalid, spare_words, state_of, owner_of, is_erased, is_valid}
use Rattle.scope.specs.Decisions.{page_fits, pages_fit}
use Rattle.flash.specs.Cases.{on, and_true, or_cases, is_false}
use Rattle.flash.specs.Counting.{all_each, each_all, each_counted, count_none, count_each}
use Rattle.flash.specs.Tests.{all_same}
use Rattle.geometry.specs.Sizes.{piece_inside}
use Rattle.words.specs.Runs.{get_d_any}
use Rattle.words.specs.Erased.{is_erased_word}
use Rattle.survey.specs.declared.pages.Block.{Block}

-- A page of W words has only erased ones.
unfoldable pub blank : ℕ → List ℕ → ℕ → Bool
blank W chip p = all W (λ i. eqb (get_or chip (p * W + i) none) erased)

-- The rule for a page's state and owner, where `clear` says whether its words are erased.
abbrev pub rule_1_words : ℕ → ℕ → ℕ → Bool → Bool
rule_1_words limit state owner clear =
    (eqb state erased || (eqb state valid || eqb state invalid)) && cond (eqb state erased) clear (ltb owner limit)

-- An erased page has erased words alone, in the spare as on the chip: *none*, which its owner is, is the erased word.
abbrev pub clear : ℕ → List ℕ → List ℕ → ℕ → Bool
clear W chip spare p = blank spare_words spare p && blank W chip p

unfoldable pub rule_1 : ℕ → ℕ → List ℕ → List ℕ → ℕ → Bool
rule_1 W limit chip spare p = rule_1_words limit (state_of p spare) (owner_of p spare) (clear W chip spare p)

-- Scope's rule of a region is this one, at the region's numbers.
spares_blank : (p : ℕ) (spare : List ℕ) → is_erased p spare ≡ true → blank spare_words spare p ≡ eqb (owner_of p spare) none
unfolding blank
spares_blank p spare e = rw (add-zero, e) refl

pub rule_1_region : (g : Geometry) (r : Region) (chip spare : List ℕ) (limit : ℕ) → limit ≡ owners g r
    → all (region_pages g r) (λ i. rule_1 g.W limit chip spare (first_page g r + i)) ≡ pages_fit g r chip spare
unfolding rule_1 blank page_fits pages_fit
rule_1_region g r chip spare limit is =
    all_same (region_pages g r) _ _ (λ i h.
    let p = first_page g r + i in
    on (is_erased p spare)
    (λ e. rw (e, spares_blank p spare e) refl)
    (λ e. rw (e, is) refl))

-- A page is programmed as the rule asks: then it rule-1, and is not erased.
abbrev pub programmed_fits : ℕ → ℕ → ℕ → Bool
programmed_fits limit state owner = ltb owner limit && (eqb state valid || eqb state invalid)

abbrev pub programmed_at : ℕ → List ℕ → ℕ → Bool
programmed_at limit spare p = programmed_fits limit (state_of p spare) (owner_of p spare)

-- A state that is not erased leaves the rule just that.
pub rule_1_programmed : (limit state owner : ℕ) (clear : Bool) → state ≢ erased
    → rule_1_words limit state owner clear ≡ programmed_fits limit state owner
rule_1_programmed limit state owner clear ne =
    rw (ne_eqb state erased ne) (and_swapped (eqb state valid || eqb state invalid) (ltb owner limit))
  where
    and_swapped : (a b : Bool) → a && b ≡ b && a
    and_swapped true true = refl
    and_swapped true false = refl
    and_swapped false true = refl
    and_swapped false false = refl

pub programmed_not_erased : (limit state owner : ℕ) → programmed_fits limit state owner ≡ true → state ≢ erased
programmed_not_erased limit state owner h e =
    let one = (and_true (ltb owner limit) (eqb state valid || eqb state invalid) h).1 in
    or_cases (eqb state valid) (eqb state invalid) one
    (λ p. let is : state ≡ valid = eqb-true state valid p in omega arith)
    (λ p. let is : state ≡ invalid = eqb-true state invalid p in omega arith)

-- Where as many of n pages are programmed so as there are, the rule holds of each and none is erased.
module _ (W limit first n : ℕ) (chip spare : List ℕ) (whole : count n (λ i. programmed_at limit spare (first + i)) ≡ n) where
  each : (i : ℕ) → i < n → programmed_at limit spare (first + i) ≡ true
  each = each_counted n (λ i. programmed_at limit spare (first + i)) whole

  not_erased : (i : ℕ) → i < n → state_of (first + i) spare ≢ erased
  not_erased i h = programmed_not_erased limit (state_of (first + i) spare) (owner_of (first + i) spare) (each i h)

  pub all_programmed : true ≡ all n (λ i. rule_1 W limit chip spare (first + i))
  unfolding rule_1
  all_programmed =
      sym (each_all n (λ i. rule_1 W limit chip spare (first + i)) (λ i h.
      rule_1_programmed limit (state_of (first + i) spare) (owner_of (first + i) spare) (clear W chip spare (first + i)) (not_erased i h) ∙ each i h))

  pub none_erased : 0 ≡ count n (λ i. is_erased (first + i) spare)
  none_erased =
      sym (count_none n (λ i. is_erased (first + i) spare) (λ i h. ne_eqb (state_of (first + i) spare) erased (not_erased i h)))

-- Where all words of n pages are erased, those of each page are.
module _ (W b n : ℕ) (l : List ℕ) (no_words : blank (n * W) l b ≡ true) where
  word_at : (k : ℕ) → k < n * W → get_or l (b * n * W + k) none ≡ erased
  unfolding blank
  word_at k h =
      subst (λ (x : ℕ). get_or l (x + k) none ≡ erased) (sym (mul_assoc b n W))
      (eqb-true (get_or l (b * (n * W) + k) none) erased (all_each (n * W) (λ i. eqb (get_or l (b * (n * W) + i) none) erased) no_words k h))

  page_blank : (i : ℕ) → i < n → blank W l (b * n + i) ≡ true
  unfolding blank
  page_blank i h =
      each_all W (λ j. eqb (get_or l ((b * n + i) * W + j) none) erased) (λ j k.
      let at : (b * n + i) * W + j ≡ b * n * W + (i * W + j) = omega (arith, add-mul (b * n) i W) in
      eq-eqb (get_or l ((b * n + i) * W + j) none) erased
      (ap (λ (x : ℕ). get_or l x none) at ∙ word_at (i * W + j) (omega (arith, piece_inside W n i h))))

state_erased : (p : ℕ) (spare : List ℕ) → blank spare_words spare p ≡ true → state_of p spare ≡ erased
unfolding blank
state_erased p spare h =
    rw add-zero at (eqb-true (get_or spare (p * spare_words + 0) none) erased
    (all_each spare_words (λ i. eqb (get_or spare (p * spare_words + i) none) erased) h 0 (omega arith)))

-- Where a block's words are all erased, in the spare and on the chip, the rule holds of each of its pages and all are erased.
module _ (W limit b n : ℕ) (chip spare : List ℕ) (no_marks : blank (n * spare_words) spare b ≡ true) (no_words : blank (n * W) chip b ≡ true) where
  told_erased : (i : ℕ) → i < n → is_erased (b * n + i) spare ≡ true
  told_erased i h = eq-eqb (state_of (b * n + i) spare) erased (state_erased (b * n + i) spare (page_blank spare_words b n spare no_marks i h))

  pub all_blank : true ≡ all n (λ i. rule_1 W limit chip spare (b * n + i))
  unfolding rule_1
  all_blank =
      sym (each_all n (λ i. rule_1 W limit chip spare (b * n + i)) (λ i h.
      rw (told_erased i h, page_blank spare_words b n spare no_marks i h, page_blank W b n chip no_words i h)))

  pub all_erased : n ≡ count n (λ i. is_erased (b * n + i) spare)
  all_erased = sym (count_each n (λ i. is_erased (b * n + i) spare) told_erased)

  pub none_valid : 0 ≡ count n (λ i. is_valid (b * n + i) spare)
  none_valid =
      sym (count_none n (λ i. is_valid (b * n + i) spare) (λ i h.
      ne_eqb (state_of (b * n + i) spare) valid (λ e. omega (arith, eqb-true (state_of (b * n + i) spare) erased (told_erased i h)))))

-- So a block whose first page is not erased is not.
pub first_marked : (b n : ℕ) (spare : List ℕ) → 1 ≤ n → state_of (b * n) spare ≢ erased → blank (n * spare_words) spare b ≡ false
first_marked b n spare some marked =
    is_false (blank (n * spare_words) spare b) (λ h. marked (rw add-zero at (word_at spare_words b n spare h 0 (omega arith))))

-- What is found of the n pages from `first` on: whether the rule holds of each, and the counts.
pub record Looked (W limit : ℕ) (chip spare : List ℕ) (first n : ℕ) (fits : Bool) (b : Block) : Type 0 where
  pub fit : fits ≡ all n (λ i. rule_1 W limit chip spare (first + i))
  pub erased_are : b.erased ≡ count n (λ i. is_erased (first + i) spare)
  pub valid_are : b.valid ≡ count n (λ i. is_valid (first + i) spare)

-- A page more among the programmed ones, by the two words as the code reads them; and what a test that is counted says.
pub programmed_more : (limit : ℕ) (spare : List ℕ) (first i k b : ℕ) → (first + i) * spare_words + spare_words ≤ length spare
    → k ≡ count i (λ j. programmed_at limit spare (first + j))
    → b ≡ cond (programmed_fits limit (get_or spare ((first + i) * spare_words) 0) (get_or spare ((first + i) * spare_words + 1) 0)) 1 0
    → k + b ≡ count (i + 1) (λ j. programmed_at limit spare (first + j))
programmed_more limit spare first i k b h e q =
    let at = (first + i) * spare_words in
    rw (add-one, e, q, get_d_any spare at 0 none (omega arith), get_d_any spare (at + 1) 0 none (omega arith)) refl

pub bit : (b : Bool) → from_bool b ≡ cond b 1 0
bit true = refl
bit false = refl

-- Of m blocks of P pages, the words of block b lie within, W a page; the block's as one piece.
pub block_words : (P W m b : ℕ) → b < m → (b * P + P) * W ≤ m * P * W
block_words P W m b h = mul-le-mul_right W (piece_inside P m b h)

pub block_piece : (P W m b : ℕ) → b < m → b * (P * W) + P * W ≤ m * P * W
block_piece P W m b h = omega (arith, mul_assoc b P W, add-mul (b * P) P W, block_words P W m b h)

-- A page's words as a part of the chip.
pub blank_part : (W : ℕ) (chip : List ℕ) (p : ℕ) → p * W + W ≤ length chip
    → (let part = take W (drop (p * W) chip) in all (length part) (is_erased_word part)) ≡ blank W chip p
unfolding blank
blank_part W chip p h =
    let long : length (take W (drop (p * W) chip)) ≡ W = length-take-le W (drop (p * W) chip) (rw length-drop (omega arith)) in
    ap (λ (n : ℕ). all n (is_erased_word (take W (drop (p * W) chip)))) long
    ∙ all_same W (is_erased_word (take W (drop (p * W) chip))) (λ i. eqb (get_or chip (p * W + i) none) erased)
    (λ i k. ap (λ (x : ℕ). eqb x erased) (get_or-take W (drop (p * W) chip) i erased k ∙ get_or-drop (p * W) chip i erased))

-- State and owner as the code reads them, within the list.
pub rule_1_read : (W limit : ℕ) (chip spare : List ℕ) (p : ℕ) → p * spare_words + spare_words ≤ length spare
    → rule_1_words limit (get_or spare (p * spare_words) 0) (get_or spare (p * spare_words + 1) 0) (clear W chip spare p) ≡ rule_1 W limit chip spare p
unfolding rule_1
rule_1_read W limit chip spare p h =
    ap₂ (λ (s o : ℕ). rule_1_words limit s o (clear W chip spare p))
    (get_d_any spare (p * spare_words) 0 none (omega arith))
    (get_d_any spare (p * spare_words + 1) 0 none (omega arith))
