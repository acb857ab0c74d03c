-- Searches below a bound as a loop makes them: none found so far, or the best of those passed.
use Rattle.std.specs.Prelude.{ℕ, suc, ◌+◌, ◌≤◌, ◌<◌, ◌≡◌, refl, ◌⊎◌, Bool, true, false, cond, ltb}
use Rattle.std.proofs.Common.{sym, ◌∙◌, inl, inr, ⊎_elim, add-one, arith, lt-ltb, le-ltb, ltb-true, ltb-false}
use Rattle.scope.specs.Counting.{lowest, fewest}
use Rattle.flash.specs.Cases.{on, below?, last, clash}
use Rattle.flash.specs.Searching.{lowest_cases, IsFewest, fewest_cases}

-- ---- the lowest

-- None passes: the bound itself.
pub lowest_fails : (n : ℕ) (f : ℕ → Bool) → ((i : ℕ) → i < n → f i ≡ false) → lowest n f ≡ n
lowest_fails n f h = ⊎_elim (λ x. clash x.passes (h (lowest n f) x.below)) (λ x. x.is_n) (lowest_cases n f)

-- None passes before it.
pub lowest_before : (n : ℕ) (f : ℕ → Bool) (i : ℕ) → i < lowest n f → f i ≡ false
lowest_before n f i h = ⊎_elim (λ x. x.least i h) (λ x. x.fails i (omega (arith, x.is_n))) (lowest_cases n f)

-- ---- the fewest

pub fewest_le : (n : ℕ) (f : ℕ → Bool) (size : ℕ → ℕ) → fewest n f size ≤ n
fewest_le n f size = ⊎_elim (λ x. omega (arith, x.below)) (λ x. omega (arith, x.is_n)) (fewest_cases n f size)

-- There is but one.
pub fewest_unique : (n : ℕ) (f : ℕ → Bool) (size : ℕ → ℕ) (a b : ℕ) → IsFewest n f size a → IsFewest n f size b → a ≡ b
fewest_unique n f size a b h k =
    below? a b
    (λ l. absurd (omega (arith, k.lower_more a l h.passes, h.least b k.below k.passes)))
    (λ l. below? b a
    (λ m. absurd (omega (arith, h.lower_more b m k.passes, k.least a h.below h.passes)))
    (λ m. omega arith))

-- Of the numbers below i whose size is below the limit: the one with the fewest, and its size; n and the limit where there is none.
module _ (size : ℕ → ℕ) (limit n : ℕ) where
  abbrev f : ℕ → Bool
  f i = ltb (size i) limit

  pub record SomeBest (i at best : ℕ) : Type 0 where
    pub fewest_one : IsFewest i f size at
    pub its_size : best ≡ size at

  pub record NoBest (i at best : ℕ) : Type 0 where
    pub fails : (k : ℕ) → k < i → f k ≡ false
    pub is_n : at ≡ n
    pub none : best ≡ limit

  abbrev pub BestSoFar : ℕ → ℕ → ℕ → Type 0
  BestSoFar i at best = SomeBest i at best ⊎ NoBest i at best

  pub best_of_none : BestSoFar 0 n limit
  best_of_none = inr (record { fails = λ k h. absurd (omega arith); is_n = refl; none = refl })

  -- One that fails changes nothing; one that passes takes the place if it has fewer.
  best_fails : (i at best : ℕ) → BestSoFar i at best → f i ≡ false → BestSoFar (suc i) at best
  best_fails i at best h p = ⊎_elim
      (λ x. inl (record {
        fewest_one = record {
          below = omega (arith, x.fewest_one.below);
          passes = x.fewest_one.passes;
          least = λ k l q. last k i l (λ m. x.fewest_one.least k m q) (λ e. clash q (rw e p));
          lower_more = x.fewest_one.lower_more;
        };
        its_size = x.its_size;
      }))
      (λ x. inr (record {
        fails = λ k l. last k i l (x.fails k) (λ e. rw e p);
        is_n = x.is_n;
        none = x.none;
      }))
      h

  best_kept : (i at best : ℕ) → BestSoFar i at best → f i ≡ true → best ≤ size i → BestSoFar (suc i) at best
  best_kept i at best h p more = ⊎_elim
      (λ x. inl (record {
        fewest_one = record {
          below = omega (arith, x.fewest_one.below);
          passes = x.fewest_one.passes;
          least = λ k l q. last k i l (λ m. x.fewest_one.least k m q) (λ e. rw e (omega (arith, x.its_size)));
          lower_more = x.fewest_one.lower_more;
        };
        its_size = x.its_size;
      }))
      (λ x. absurd (omega (arith, x.none, ltb-true (size i) limit p)))
      h

  best_taken : (i at best : ℕ) → BestSoFar i at best → f i ≡ true → size i < best → BestSoFar (suc i) i (size i)
  best_taken i at best h p fewer =
      let less : (k : ℕ) → k < i → f k ≡ true → size i < size k =
      λ k l q. ⊎_elim (λ x. omega (arith, x.its_size, x.fewest_one.least k l q)) (λ x. clash q (x.fails k l)) h in
      inl (record {
        fewest_one = record {
          below = omega arith;
          passes = p;
          least = λ k l q. last k i l (λ m. omega (arith, less k m q)) (λ e. rw e (omega arith));
          lower_more = less;
        };
        its_size = refl;
      })

  -- A turn: the next one takes the place if it has fewer.
  pub best_of_more : (i at best at' best' : ℕ) → BestSoFar i at best
      → at' ≡ cond (ltb (size i) best) i at → best' ≡ cond (ltb (size i) best) (size i) best → BestSoFar (i + 1) at' best'
  best_of_more i at best at' best' h place smallest = rw (add-one, place, smallest) (on (f i) passing failing)
    where
      passing : f i ≡ true → BestSoFar (suc i) (cond (ltb (size i) best) i at) (cond (ltb (size i) best) (size i) best)
      passing p =
          below? (size i) best
          (λ l. rw (lt-ltb (size i) best l) (best_taken i at best h p l))
          (λ l. rw (le-ltb (size i) best l) (best_kept i at best h p l))

      failing : f i ≡ false → BestSoFar (suc i) (cond (ltb (size i) best) i at) (cond (ltb (size i) best) (size i) best)
      failing p =
          let no_fewer : best ≤ size i =
          ⊎_elim
          (λ x. omega (arith, x.its_size, ltb-true (size at) limit x.fewest_one.passes, ltb-false (size i) limit p))
          (λ x. omega (arith, x.none, ltb-false (size i) limit p)) h in
          rw (le-ltb (size i) best no_fewer) (best_fails i at best h p)

  pub best_of_all : (at best : ℕ) → BestSoFar n at best → at ≡ fewest n f size
  best_of_all at best h = ⊎_elim
      (λ x. ⊎_elim
      (λ y. fewest_unique n f size at (fewest n f size) x.fewest_one y)
      (λ y. clash x.fewest_one.passes (y.fails at x.fewest_one.below))
      (fewest_cases n f size))
      (λ x. ⊎_elim
      (λ y. clash y.passes (x.fails (fewest n f size) y.below))
      (λ y. x.is_n ∙ sym y.is_n)
      (fewest_cases n f size))
      h
