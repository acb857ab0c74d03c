-- Rule 3 of the n blocks of P pages from block `first` on, in numbers, and how counts of erased pages decide it.
use Prim.Native.Nat.{ℕ, ◌+◌, ◌-◌, ◌*◌, ◌≤◌, ◌<◌}
use Rattle.std.specs.Prelude.{◌≡◌, ◌≢◌, ◌⊎◌, refl, cond, ◌&&◌, ◌||◌, List, ltb, leb}
use Rattle.std.proofs.Math.Path.{sym, subst}
use Rattle.std.proofs.Common.{⊎_elim, ap, ap₂, ◌∙◌, add_assoc, add-zero, mul-one, mul-le-mul_left, add-one, eqb-true, eq-eqb, ne_eqb, lt-ltb, le-ltb}
use Rattle.std.proofs.Math.Bool.{Bool, true, false, not}
use Rattle.std.proofs.Math.Nat.{suc-mul}
use native.Mathlib.Omega.{arith}
use Rattle.std.proofs.Math.Dec.{eqb}
use Rattle.std.proofs.lemmas.Bool.{not-true}
use Rattle.scope.specs.Counting.{all, some, count}
use Rattle.scope.specs.Geometry.{Geometry}
use Rattle.scope.specs.Regions.{Region, first_block, region_blocks}
use Rattle.scope.specs.Lent.{spare_words, is_erased}
use Rattle.scope.specs.Decisions.{blocks_fit}
use Rattle.flash.specs.Cases.{on, below?, clash, and_true, true_and, or_cases, or_right, is_false, not_of_false}
use Rattle.flash.specs.Counting.{all_each, each_all, count_none, none_counted, count_le}
use Rattle.flash.specs.Tests.{same_test, or_none}
use Rattle.words.specs.States.{all_counted}

module _ (P : ℕ) where
  -- How many pages of a block are erased.
  abbrev pub erased_in : List ℕ → ℕ → ℕ
  erased_in spare b = count P (λ i. is_erased (b * P + i) spare)

  -- The open block's pages before the offset are programmed, the others erased.
  unfoldable pub open_fits : List ℕ → ℕ → ℕ → Bool
  open_fits spare opened offset =
      all P (λ i. cond (ltb i offset) (not (is_erased (opened * P + i) spare)) (is_erased (opened * P + i) spare))

  module _ (first : ℕ) where
    -- Of n blocks each but the open one is wholly erased or has no erased page; one of them is wholly erased.
    unfoldable pub others_fit : List ℕ → ℕ → ℕ → Bool
    others_fit spare opened n =
        all n (λ k. eqb (first + k) opened
        || (all P (λ i. is_erased ((first + k) * P + i) spare) || all P (λ i. not (is_erased ((first + k) * P + i) spare))))

    unfoldable pub besides : List ℕ → ℕ → ℕ → Bool
    besides spare opened n = some n (λ k. not (eqb (first + k) opened) && all P (λ i. is_erased ((first + k) * P + i) spare))

    -- The whole rule.
    unfoldable pub rule_3 : ℕ → List ℕ → ℕ → ℕ → Bool
    rule_3 n spare opened offset =
        leb first opened
        && ltb opened (first + n)
        && leb offset P
        && open_fits spare opened offset
        && others_fit spare opened n
        && besides spare opened n

-- Scope's rule of a region is this one, at the region's numbers.
pub rule_3_region : (g : Geometry) (r : Region) (spare : List ℕ) (opened offset : ℕ)
    → rule_3 g.P (first_block g r) (region_blocks g r) spare opened offset ≡ blocks_fit g r spare opened offset
unfolding rule_3 open_fits others_fit besides blocks_fit
rule_3_region g r spare opened offset = refl

-- ---- where the blocks lie

-- Where the blocks' spare words lie in a list there are no more blocks than it has words.
pub blocks_inside : (P first n len : ℕ) → 1 ≤ P → (first + n) * P * spare_words ≤ len → first + n ≤ len
blocks_inside P first n len h k = omega (arith, mul-le-mul_left (first + n) h, mul-one (first + n))

-- ---- counts that decide

all_not_counted : (n : ℕ) (f : ℕ → Bool) → all n (λ i. not (f i)) ≡ eqb (count n f) 0
all_not_counted n f =
    same_test (all n (λ i. not (f i))) (eqb (count n f) 0)
    (λ h. eq-eqb (count n f) 0 (count_none n f (λ i k. not-true (f i) (all_each n (λ j. not (f j)) h i k))))
    (λ h. each_all n (λ i. not (f i)) (λ i k. not_of_false (none_counted n f (eqb-true (count n f) 0 h) i k)))

-- None of the first m passes and all from there on do.
split_counted : (m n : ℕ) (f : ℕ → Bool) → m ≤ n
    → all n (λ i. cond (ltb i m) (not (f i)) (f i)) ≡ eqb (count m f) 0 && eqb (count (n - m) (λ i. f (m + i))) (n - m)
split_counted m n f h =
    same_test (all n split) (all m (λ i. not (f i)) && all (n - m) (λ i. f (m + i)))
    (λ p. true_and
    (each_all m (λ i. not (f i)) (λ i k. rw (lt-ltb i m k) at (all_each n split p i (omega arith))))
    (each_all (n - m) (λ i. f (m + i)) (λ i k. rw (le-ltb (m + i) m (omega arith)) at (all_each n split p (m + i) (omega arith)))))
    (λ p.
    let both = and_true (all m (λ i. not (f i))) (all (n - m) (λ i. f (m + i))) p in
    each_all n split (λ i k. below? i m
    (λ l. rw (lt-ltb i m l) (all_each m (λ j. not (f j)) both.0 i l))
    (λ l. rw (le-ltb i m l) (subst (λ (j : ℕ). f j ≡ true) (omega arith) (all_each (n - m) (λ j. f (m + j)) both.1 (i - m) (omega arith))))))
    ∙ ap₂ (λ (a b : Bool). a && b) (all_not_counted m f) (sym (all_counted (n - m) (λ i. f (m + i))))
  where
    split : ℕ → Bool
    split i = cond (ltb i m) (not (f i)) (f i)

-- Two counts decide of the open block: none erased before the offset, all from there on.
pub open_counted : (P : ℕ) (spare : List ℕ) (opened offset : ℕ) → offset ≤ P
    → open_fits P spare opened offset
    ≡ eqb (count offset (λ i. is_erased (opened * P + i) spare)) 0
    && eqb (count (P - offset) (λ i. is_erased (opened * P + offset + i) spare)) (P - offset)
unfolding open_fits
open_counted P spare opened offset h =
    simp add_assoc (split_counted offset P (λ i. is_erased (opened * P + i) spare) h)

-- ---- the walk over the blocks

-- A block with e erased pages, none or all of P: whether it rule-3, and what it does to a total that tells whether one is wholly erased.
-- Where it is the open one (o) it adds nothing.
block_fits : (P e : ℕ) (o A N : Bool) → A ≡ eqb e P → N ≡ eqb e 0
    → eqb (cond o 0 e) P || eqb (cond o 0 e) 0 ≡ o || (A || N)
block_fits P e true A N a n = or_right (eqb 0 P) refl
block_fits P e false A N a n = sym (ap₂ (λ (x y : Bool). x || y) a n)

surveyed_more : (P total e : ℕ) (o b A : Bool) → 1 ≤ P → A ≡ eqb e P → eqb (cond o 0 e) P || eqb (cond o 0 e) 0 ≡ true
    → eqb total 0 ≡ not b → eqb (total + cond o 0 e) 0 ≡ not (b || (not o && A))
surveyed_more P total e true b A h a whole found = rw (add-zero total, or_none b {b = false} refl) found
surveyed_more P total e false b A h a whole found =
    or_cases (eqb e P) (eqb e 0) whole
    (λ p.
    let is : e ≡ P = eqb-true e P p in
    ne_eqb (total + e) 0 (λ z. omega arith) ∙ sym (ap not (or_right b (a ∙ p))))
    (λ p.
    let is : e ≡ 0 = eqb-true e 0 p in
    let not-all : A ≡ false = a ∙ ne_eqb e P (λ z. omega arith) in
    rw (is, add-zero total, not-all, or_none b {b = false} refl) found)

module _ (P first : ℕ) (spare : List ℕ) (opened : ℕ) where
  -- After n blocks: those fit, and `total`, the erased pages of those besides the open one, tells whether one is wholly erased.
  pub record SoFar (n total : ℕ) : Type 0 where
    pub fit : others_fit P first spare opened n ≡ true
    pub found : eqb total 0 ≡ not (besides P first spare opened n)
    pub small : total ≤ n * P

  pub so_far_none : SoFar 0 0
  unfolding others_fit besides
  so_far_none = record { fit = refl; found = refl; small = omega arith }

  -- What block n adds to the total.
  abbrev pub adds : ℕ → ℕ
  adds n = cond (eqb (first + n) opened) 0 (erased_in P spare (first + n))

  pub added : (n found e : ℕ) → found ≡ erased_in P spare (first + n)
      → ((first + n ≡ opened) × (e ≡ 0)) ⊎ ((first + n ≢ opened) × (e ≡ found)) → e ≡ adds n
  added n found e is =
      ⊎_elim
      (λ h. rw (eq-eqb (first + n) opened h.0) h.1)
      (λ h. rw (ne_eqb (first + n) opened h.0) (h.1 ∙ is))

  -- What others-fit says of block n.
  block : ℕ → Bool
  block n = all P (λ i. is_erased ((first + n) * P + i) spare) || all P (λ i. not (is_erased ((first + n) * P + i) spare))

  fits_at : (n : ℕ) → eqb (adds n) P || eqb (adds n) 0 ≡ eqb (first + n) opened || block n
  unfolding block
  fits_at n =
      let f : ℕ → Bool = λ i. is_erased ((first + n) * P + i) spare in
      block_fits P (erased_in P spare (first + n)) (eqb (first + n) opened) (all P f) (all P (λ i. not (f i))) (sym (all_counted P f)) (all_not_counted P f)

  adds_most : (n : ℕ) → adds n ≤ P
  adds_most n =
      on (eqb (first + n) opened)
      (λ p. rw p (omega arith))
      (λ p. rw p (count_le P (λ i. is_erased ((first + n) * P + i) spare)))

  -- Block n is none or all erased: it is swept. Where it isn't, the rule does not hold of more blocks than n.
  pub so_far_more : (n total e : ℕ) → 1 ≤ P → SoFar n total → e ≡ adds n → eqb e P || eqb e 0 ≡ true → SoFar (n + 1) (total + e)
  unfolding others_fit besides block
  so_far_more n total e h s is whole =
      let f : ℕ → Bool = λ i. is_erased ((first + n) * P + i) spare in
      let whole' : eqb (adds n) P || eqb (adds n) 0 ≡ true = subst (λ (x : ℕ). eqb x P || eqb x 0 ≡ true) is whole in
      rw (add-one, is)
      (record {
        fit = true_and s.fit (sym (fits_at n) ∙ whole');
        found = surveyed_more P total (erased_in P spare (first + n)) (eqb (first + n) opened) (besides P first spare opened n) (all P f) h
            (sym (all_counted P f)) whole' s.found;
        small = omega (arith, s.small, suc-mul n P, adds_most n);
      })

  pub stops_here : (n m e : ℕ) → n < m → e ≡ adds n → eqb e P || eqb e 0 ≡ false
      → false ≡ others_fit P first spare opened m && besides P first spare opened m
  unfolding others_fit block
  stops_here n m e h is whole =
      let fails : eqb (first + n) opened || block n ≡ false = sym (fits_at n) ∙ subst (λ (x : ℕ). eqb x P || eqb x 0 ≡ false) is whole in
      let no : others_fit P first spare opened m ≡ false =
      is_false (others_fit P first spare opened m) (λ p. clash (all_each m (λ k. eqb (first + k) opened || block k) p n h) fails) in
      sym (ap (λ (b : Bool). b && besides P first spare opened m) no)
