-- Laws of the census (crate words says what its numbers stand for): what the searches among a region's blocks find by it, and how the
-- steps that change a page's state keep it.
use Rattle.std.specs.Prelude.{ℕ, zero, suc, ◌+◌, ◌-◌, ◌*◌, ◌/◌, ◌%◌, ◌≤◌, ◌<◌, ◌≡◌, refl, ◌≢◌, Bool, true, List, eqb, length, get_or, set}
use Rattle.std.proofs.Common.{sym, ◌∙◌, ⊎_elim, div-add-mod', mod-lt, div-lt_iff_lt-mul, arith, length-set, get_or-set_same, get_or-set_other}
use Rattle.std.proofs.Math.Path.{ap}
use Rattle.std.proofs.Math.Dec.{ltb}
use Rattle.scope.specs.Counting.{count, lowest, fewest}
use Rattle.scope.specs.Geometry.{Geometry, most_pages_in_block, most_blocks, blocks, pages}
use Rattle.scope.specs.Regions.{Region, Data, Translation, first_block, region_blocks, page_in}
use Rattle.scope.specs.Lent.{State, none, erased, valid, invalid, spare_words, state_of, with_state, with_claim, with_erased}
use Rattle.scope.specs.Blocks.{wholly_erased}
use Rattle.scope.specs.Room.{erased_blocks, lowest_erased, victim}
use Rattle.flash.specs.Bounded.{Bounded}
use Rattle.flash.specs.Cases.{same?, last, clash}
use Rattle.flash.specs.Counting.{sum, sum_same, count_same}
use Rattle.flash.specs.Pages.{claimed_state, claimed_others}
use Rattle.flash.specs.Searching.{IsFewest, fewest_cases}
use Rattle.flash.specs.Stores.{slot_below, slot_same, block_filled, block_kept}
use Rattle.words.specs.Searches.{fewest_unique}
use Rattle.words.specs.Census.{weight, weigh, Census, weighs_little, erased_told, full_told, valid_told}
use Rattle.steps.specs.Lies.{SpareLent, spare_lies}

-- ---- the searches

-- Searches for what passes the same tests, of the same sizes where it does, find the same.
lowest_same : (n : ℕ) (f k : ℕ → Bool) → ((i : ℕ) → i < n → f i ≡ k i) → lowest n f ≡ lowest n k
lowest_same zero f k e = refl
lowest_same (suc n) f k e = rw (lowest_same n f k (λ i h. e i (omega arith)), e n (omega arith)) refl

module _ (n : ℕ) (f k : ℕ → Bool) (size size' : ℕ → ℕ) (e : (i : ℕ) → i < n → f i ≡ k i)
    (q : (i : ℕ) → i < n → f i ≡ true → size' i ≡ size i) where
  carried : {a : ℕ} → IsFewest n f size a → IsFewest n k size' a
  carried {a} x =
      record {
        below = x.below;
        passes = sym (e a x.below) ∙ x.passes;
        least = λ i h p. omega (arith, x.least i h (e i h ∙ p), q a x.below x.passes, q i h (e i h ∙ p));
        lower_more = λ i h p.
            let l : i < n = omega (arith, x.below) in
            omega (arith, x.lower_more i h (e i l ∙ p), q a x.below x.passes, q i l (e i l ∙ p));
      }

  fewest_same : fewest n f size ≡ fewest n k size'
  fewest_same =
      ⊎_elim
      (λ x. ⊎_elim
      (λ y. fewest_unique n k size' (fewest n f size) (fewest n k size') (carried x) y)
      (λ y. clash (carried x).passes (y.fails (fewest n f size) x.below))
      (fewest_cases n k size'))
      (λ x. ⊎_elim
      (λ y. clash y.passes (sym (e (fewest n k size') y.below) ∙ x.fails (fewest n k size') y.below))
      (λ y. x.is_n ∙ sym y.is_n)
      (fewest_cases n k size'))
      (fewest_cases n f size)

module _ {g : Geometry} (bounded : Bounded g) {spare census : List ℕ} (kept : Census g spare census) (r : Region) where
  on_chip : (i : ℕ) → i < region_blocks g r → first_block g r + i < blocks g
  on_chip i h = in_region r h
    where
      in_region : (r : Region) → i < region_blocks g r → first_block g r + i < blocks g
      in_region Data h = omega arith
      in_region Translation h = omega arith

  -- The region's n numbers from `first` on lie in the census.
  pub numbers_lie : {first n : ℕ} → first ≡ first_block g r → n ≡ region_blocks g r → first + n ≤ length census
  numbers_lie e f = lie r e f
    where
      lie : {first n : ℕ} (r : Region) → first ≡ first_block g r → n ≡ region_blocks g r → first + n ≤ length census
      lie Data e f = omega (arith, kept.long)
      lie Translation e f = omega (arith, kept.long)

  pub blocks_few : {first n : ℕ} → first ≡ first_block g r → n ≡ region_blocks g r → first + n ≤ most_blocks
  blocks_few e f = few r e f
    where
      few : {first n : ℕ} (r : Region) → first ≡ first_block g r → n ≡ region_blocks g r → first + n ≤ most_blocks
      few Data e f = omega (arith, bounded.blocks_to)
      few Translation e f = omega (arith, bounded.blocks_to)

  number : (i : ℕ) → i < region_blocks g r → get_or census (first_block g r + i) 0 ≡ weigh g spare (first_block g r + i)
  number i h = kept.each (first_block g r + i) (on_chip i h)

  is_erased_block : (i : ℕ) → i < region_blocks g r
      → wholly_erased g spare (first_block g r + i) ≡ eqb (get_or census (first_block g r + i) 0) (256 * g.P)
  is_erased_block i h = erased_told g bounded.P_to spare (first_block g r + i) ∙ ap (λ (x : ℕ). eqb x (256 * g.P)) (sym (number i h))

  module _ {first n k : ℕ} (is_first : first ≡ first_block g r) (is_n : n ≡ region_blocks g r) (s : State) (lent : s.spare ≡ spare) where
    pub erased_counted : k ≡ count n (λ i. eqb (get_or census (first + i) 0) (256 * g.P)) → erased_blocks g r s ≡ k
    unfolding erased_blocks
    erased_counted found = rw (found, is_first, is_n, lent) (count_same (region_blocks g r) _ _ is_erased_block)

    pub lowest_found : k ≡ lowest n (λ i. eqb (get_or census (first + i) 0) (256 * g.P)) → lowest_erased g r s ≡ first + k
    unfolding lowest_erased
    lowest_found found =
        rw (found, is_first, is_n, lent)
        (ap (λ (m : ℕ). first_block g r + m) (lowest_same (region_blocks g r) _ _ is_erased_block))

    pub victim_found : k ≡ fewest n (λ i. ltb (get_or census (first + i) 0) 256) (λ i. get_or census (first + i) 0)
        → victim g r s ≡ first + k
    unfolding victim
    victim_found found =
        rw (found, is_first, is_n, lent)
        (ap (λ (m : ℕ). first_block g r + m)
        (fewest_same (region_blocks g r) _ _ _ _
        (λ i h. full_told g bounded.P_to spare (first_block g r + i) ∙ ap (λ (x : ℕ). ltb x 256) (sym (number i h)))
        (λ i h p. number i h ∙ valid_told g bounded.P_to spare (first_block g r + i) p)))

-- ---- a page's state changed

sum_changed : (n k : ℕ) (a b : ℕ → ℕ) → k < n → ((i : ℕ) → i < n → i ≢ k → b i ≡ a i) → sum n b + a k ≡ sum n a + b k
sum_changed zero k a b h same = absurd (omega arith)
sum_changed (suc n) k a b h same =
    last k n h
    (λ l. omega (arith, sum_changed n k a b l (λ i m. same i (omega arith)), same n (omega arith) (λ e. omega arith)))
    (λ e. rw e (omega (arith, sum_same n b a (λ i m. same i (omega arith) (λ q. omega arith)))))

sum_has : (n k : ℕ) (a : ℕ → ℕ) → k < n → a k ≤ sum n a
sum_has zero k a h = absurd (omega arith)
sum_has (suc n) k a h = last k n h (λ l. omega (arith, sum_has n k a l)) (λ e. rw e (omega arith))

-- The spare with page p in state x, and all other states as before.
pub record Restated (p x : ℕ) (spare spare' : List ℕ) : Type 0 where
  pub there : state_of p spare' ≡ x
  pub others : (q : ℕ) → q ≢ p → state_of q spare' ≡ state_of q spare

pub marked_restates : (p : ℕ) {spare spare' : List ℕ} → (p + 1) * spare_words ≤ length spare → spare' ≡ with_state p invalid spare
    → Restated p invalid spare spare'
marked_restates p {spare} h e =
    rw e
    (record {
      there = get_or-set_same spare (p * spare_words) invalid none (omega arith);
      others = λ q other. get_or-set_other spare (p * spare_words) (q * spare_words) invalid none (λ f. other (omega arith));
    })

pub claimed_restates : (p owner : ℕ) {spare spare' : List ℕ} → (p + 1) * spare_words ≤ length spare → spare' ≡ with_claim p owner spare
    → Restated p valid spare spare'
claimed_restates p owner {spare} h e =
    rw e
    (record {
      there = claimed_state p owner spare (omega arith);
      others = claimed_others p owner spare;
    })

-- Page i of block b changes its state, and the block's number with it.
module _ {g : Geometry} {spare census : List ℕ} (kept : Census g spare census) (b i : ℕ) (h : b < blocks g) (k : i < g.P) where
  pub number_has : weight (state_of (page_in g b i) spare) ≤ get_or census b 0
  number_has = omega (arith, kept.each b h, sum_has g.P i (λ j. weight (state_of (page_in g b j) spare)) k)

  pub number_little : g.P ≤ most_pages_in_block → get_or census b 0 ≤ 16640
  number_little few = omega (arith, kept.each b h, weighs_little g few spare b)

  pub census_restated : (y : ℕ) {x : ℕ} {spare' : List ℕ} → Restated (page_in g b i) x spare spare'
      → y + weight (state_of (page_in g b i) spare) ≡ get_or census b 0 + weight x → Census g spare' (set census b y)
  census_restated y {x} {spare'} new e =
      record {
        long = omega (arith, kept.long, length-set census b y);
        each = λ c m. same? c b
            (λ q. rw q (get_or-set_same census b y 0 (omega (arith, kept.long)) ∙ of_block))
            (λ q. get_or-set_other census b c y 0 q ∙ kept.each c m ∙ sym (of_other c q));
      }
    where
      of_block : y ≡ weigh g spare' b
      of_block =
          omega (
            arith,
            e,
            kept.each b h,
            ap weight new.there,
            sum_changed g.P i (λ j. weight (state_of (page_in g b j) spare)) (λ j. weight (state_of (page_in g b j) spare')) k
                (λ j l other. ap weight (new.others (page_in g b j) (λ q. other (omega arith)))),
          )

      of_other : (c : ℕ) → c ≢ b → weigh g spare' c ≡ weigh g spare c
      of_other c other =
          sum_same g.P _ _ (λ j l. ap weight (new.others (page_in g c j) (λ q. other (slot_same g.P c b j i l k q))))

-- Its words lie in the spare.
pub in_spare : {g : Geometry} {spare : List ℕ} → SpareLent g spare → (b i : ℕ) {q : ℕ} → b < blocks g → i < g.P → q ≡ page_in g b i
    → (q + 1) * spare_words ≤ length spare
in_spare {g} lent b i {q} h k is = (spare_lies lent q (rw is (slot_below g.P (blocks g) b i h k))).words

-- What `restate` asks for, and what it leaves: page q is page i of block b, and in the state `old`.
pub record Restatable (census : List ℕ) (b old : ℕ) : Type 0 where
  pub inside : b < length census
  pub has : weight old ≤ get_or census b 0
  pub little : get_or census b 0 ≤ 16640

module _ {g : Geometry} {spare census : List ℕ} (lent : SpareLent g spare) (kept : Census g spare census) (b i : ℕ) {q old : ℕ}
    (h : b < blocks g) (k : i < g.P) (is : q ≡ page_in g b i) (is-old : old ≡ state_of q spare) where
  lies : (q + 1) * spare_words ≤ length spare
  lies = in_spare lent b i h k is

  its_state : state_of (page_in g b i) spare ≡ old
  its_state = ap (λ (p : ℕ). state_of p spare) (sym is) ∙ sym is-old

  pub restatable : Restatable census b old
  restatable =
      record {
        inside = omega (arith, kept.long);
        has = rw (← its_state) (number_has kept b i h k);
        little = number_little kept b i h k lent.bounded.P_to;
      }

  restated : {x : ℕ} {spare' census' : List ℕ} → Restated q x spare spare'
      → census' ≡ set census b (get_or census b 0 + weight x - weight old) → Census g spare' census'
  restated {x} new e =
      rw e
      (census_restated kept b i h k (get_or census b 0 + weight x - weight old) (rw is at new)
      (omega (arith, ap weight its_state, restatable.has)))

  pub claim_kept : (owner : ℕ) {spare' census' : List ℕ} → spare' ≡ with_claim q owner spare
      → census' ≡ set census b (get_or census b 0 + weight valid - weight old) → Census g spare' census'
  claim_kept owner e f = restated (claimed_restates q owner lies e) f

  pub mark_kept : {spare' census' : List ℕ} → spare' ≡ with_state q invalid spare
      → census' ≡ set census b (get_or census b 0 + weight invalid - weight old) → Census g spare' census'
  mark_kept e f = restated (marked_restates q lies e) f

-- Where a page lies: in the block, and at the place in it, that a division tells.
pub page_lies : (g : Geometry) (p : ℕ) → 1 ≤ g.P → p < pages g → (p / g.P < blocks g) × (p % g.P < g.P) × (p ≡ page_in g (p / g.P) (p % g.P))
page_lies g p some h = ((div-lt_iff_lt-mul {k = g.P} (omega arith)).1 h, mod-lt p (omega arith), omega (arith, div-add-mod' p g.P))

-- A block is erased.
pub census_erased : {g : Geometry} {spare census spare' : List ℕ} → Census g spare census → (b : ℕ) → b < blocks g
    → (b * g.P + g.P) * spare_words ≤ length spare → spare' ≡ with_erased (b * g.P) g.P spare
    → Census g spare' (set census b (256 * g.P))
census_erased {g} {spare} {census} kept b h fits e =
    rw e
    (record {
      long = omega (arith, kept.long, length-set census b (256 * g.P));
      each = λ c m. same? c b
          (λ q. rw q (get_or-set_same census b (256 * g.P) 0 (omega (arith, kept.long)) ∙ sym all_erased))
          (λ q. get_or-set_other census b c (256 * g.P) 0 q ∙ kept.each c m ∙ sym (of_other c q));
    })
  where
    filled : List ℕ
    filled = with_erased (b * g.P) g.P spare

    sum_each : (n : ℕ) (a : ℕ → ℕ) → ((i : ℕ) → i < n → a i ≡ 256) → sum n a ≡ 256 * n
    sum_each zero a q = refl
    sum_each (suc n) a q = omega (arith, sum_each n a (λ i l. q i (omega arith)), q n (omega arith))

    all_erased : weigh g filled b ≡ 256 * g.P
    all_erased = sum_each g.P _ (λ i l.
        ap weight
        (ap (λ (j : ℕ). get_or filled j none) (omega arith)
        ∙ block_filled spare spare_words g.P b i 0 erased none l (omega arith) (omega arith)))

    of_other : (c : ℕ) → c ≢ b → weigh g filled c ≡ weigh g spare c
    of_other c other =
        sum_same g.P _ _ (λ j l.
        ap weight
        (ap (λ (k : ℕ). get_or filled k none) (omega arith)
        ∙ block_kept spare spare_words g.P b (page_in g c j) 0 erased none (omega arith) (λ i m q. other (slot_same g.P c b j i l m q))
        ∙ ap (λ (k : ℕ). get_or spare k none) (omega arith)))
