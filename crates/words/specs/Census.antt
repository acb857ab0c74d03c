-- The census: a number for each block, kept beside the spare by whatever changes a page's state, so that the searches among a region's
-- blocks read no page. It is how many of the block's pages are valid, and 256 more for each that is erased: a block has no erased page
-- where its number is below 256, and is then told by its valid pages; it is wholly erased where its number is 256 times P.
use Rattle.std.specs.Prelude.{ℕ, zero, suc, ◌+◌, ◌*◌, ◌≤◌, ◌<◌, ◌≡◌, refl, Bool, true, false, not, cond, List, eqb, ltb, length, get_or}
use Rattle.std.proofs.Common.{sym, ◌∙◌, arith, eqb-true, eq-eqb, ne_eqb, lt-ltb, le-ltb}
use Rattle.std.proofs.lemmas.Bool.{not-true, not-false}
use Rattle.scope.specs.Counting.{count}
use Rattle.scope.specs.Geometry.{Geometry, most_pages_in_block, blocks}
use Rattle.scope.specs.Regions.{page_in}
use Rattle.scope.specs.Lent.{erased, valid, state_of, is_erased, is_valid}
use Rattle.scope.specs.Blocks.{wholly_erased, no_erased_page, valid_pages}
use Rattle.flash.specs.Cases.{on}
use Rattle.flash.specs.Counting.{sum, all_each, all_fails, count_le, count_each, count_none, count_one, count_fails}

abbrev pub weight : ℕ → ℕ
weight state = cond (eqb state valid) 1 (cond (eqb state erased) 256 0)

abbrev pub weigh : Geometry → List ℕ → ℕ → ℕ
weigh g spare b = sum g.P (λ i. weight (state_of (page_in g b i) spare))

pub record Census (g : Geometry) (spare census : List ℕ) : Type 0 where
  pub long : blocks g ≤ length census
  pub each : (b : ℕ) → b < blocks g → get_or census b 0 ≡ weigh g spare b

pub weight_most : (state : ℕ) → weight state ≤ 256
weight_most state =
    on (eqb state valid) (λ p. rw p (omega arith))
    (λ p. on (eqb state erased) (λ q. rw (p, q) (omega arith)) (λ q. rw (p, q) (omega arith)))

-- ---- what a number tells

valid_not_erased : (x : ℕ) → eqb x valid ≡ true → eqb x erased ≡ false
valid_not_erased x p = ne_eqb x erased (λ e. omega (arith, eqb-true x valid p))

erased_not_valid : (x : ℕ) → eqb x erased ≡ true → eqb x valid ≡ false
erased_not_valid x p = ne_eqb x valid (λ e. omega (arith, eqb-true x erased p))

pub in_counts : (n : ℕ) (s : ℕ → ℕ)
    → sum n (λ i. weight (s i)) ≡ count n (λ i. eqb (s i) valid) + 256 * count n (λ i. eqb (s i) erased)
in_counts zero s = refl
in_counts (suc n) s =
    let ih = in_counts n s in
    on (eqb (s n) valid)
    (λ p. rw (p, valid_not_erased (s n) p) (omega (arith, ih)))
    (λ p. on (eqb (s n) erased) (λ q. rw (p, q) (omega (arith, ih))) (λ q. rw (p, q) (omega (arith, ih))))

module _ (g : Geometry) (few : g.P ≤ most_pages_in_block) (spare : List ℕ) (b : ℕ) where
  abbrev erased_at : ℕ → Bool
  erased_at i = is_erased (page_in g b i) spare

  weighs : weigh g spare b ≡ valid_pages g spare b + 256 * count g.P erased_at
  weighs = in_counts g.P (λ i. state_of (page_in g b i) spare)

  valid_few : valid_pages g spare b ≤ most_pages_in_block
  valid_few = omega (arith, count_le g.P (λ i. is_valid (page_in g b i) spare))

  pub weighs_little : weigh g spare b ≤ 16640
  weighs_little = omega (arith, weighs, valid_few, count_le g.P erased_at)

  pub erased_told : wholly_erased g spare b ≡ eqb (weigh g spare b) (256 * g.P)
  erased_told =
      on (wholly_erased g spare b)
      (λ p.
      let each = all_each g.P erased_at p in
      p ∙ sym (eq-eqb (weigh g spare b) (256 * g.P) (omega (
        arith,
        weighs,
        count_each g.P erased_at each,
        count_none g.P (λ i. is_valid (page_in g b i) spare) (λ i h. erased_not_valid (state_of (page_in g b i) spare) (each i h)),
      ))))
      (λ p.
      let some = all_fails g.P erased_at p in
      p ∙ sym (ne_eqb (weigh g spare b) (256 * g.P) (λ e. omega (arith, e, weighs, valid_few, count_fails g.P erased_at some.0 some.1 some.2))))

  no_erased : no_erased_page g spare b ≡ true → count g.P erased_at ≡ 0
  no_erased p = count_none g.P erased_at (λ i h. not-true (erased_at i) (all_each g.P (λ j. not (erased_at j)) p i h))

  pub full_told : no_erased_page g spare b ≡ ltb (weigh g spare b) 256
  full_told =
      on (no_erased_page g spare b)
      (λ p. p ∙ sym (lt-ltb (weigh g spare b) 256 (omega (arith, weighs, valid_few, no_erased p))))
      (λ p.
      let some = all_fails g.P (λ i. not (erased_at i)) p in
      let one = count_one g.P erased_at some.0 some.1 (not-false (erased_at some.0) some.2) in
      p ∙ sym (le-ltb (weigh g spare b) 256 (omega (arith, weighs, one))))

  pub valid_told : no_erased_page g spare b ≡ true → weigh g spare b ≡ valid_pages g spare b
  valid_told p = omega (arith, weighs, no_erased p)
