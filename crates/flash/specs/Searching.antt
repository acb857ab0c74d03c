-- Laws of scope's searches below a bound: what `lowest` and `fewest` find, and that they find one where there is one.
use Rattle.std.specs.Prelude.{ℕ, zero, suc, ◌≤◌, ◌<◌, ◌≡◌, refl, ◌⊎◌, Bool, true, false, ◌&&◌, ltb}
use Rattle.std.proofs.Common.{inl, inr, ⊎_elim, arith, ltb-true, ltb-false, lt-ltb, le-ltb}
use Rattle.scope.specs.Counting.{lowest, fewest}
use Rattle.flash.specs.Cases.{on, below?, last, clash, and_true, and_cases}

-- ---- lowest

-- The lowest is below n, passes, and nothing below it does.
pub record IsLowest (n : ℕ) (f : ℕ → Bool) (r : ℕ) : Type 0 where
  pub below : r < n
  pub passes : f r ≡ true
  pub least : (i : ℕ) → i < r → f i ≡ false

-- None passes, and n says so.
pub record NoneFound (n : ℕ) (f : ℕ → Bool) (r : ℕ) : Type 0 where
  pub is_n : r ≡ n
  pub fails : (i : ℕ) → i < n → f i ≡ false

pub lowest_cases : (n : ℕ) (f : ℕ → Bool) → IsLowest n f (lowest n f) ⊎ NoneFound n f (lowest n f)
lowest_cases zero f = inr (record { is_n = refl; fails = λ i k. absurd (omega arith) })
lowest_cases (suc n) f = go (lowest_cases n f)
  where
    go : IsLowest n f (lowest n f) ⊎ NoneFound n f (lowest n f)
        → IsLowest (suc n) f (lowest (suc n) f) ⊎ NoneFound (suc n) f (lowest (suc n) f)
    go (inl h) = rw (lt-ltb (lowest n f) n h.below) (inl (record { below = omega (arith, h.below); passes = h.passes; least = h.least }))
    go (inr h) =
        rw (le-ltb (lowest n f) n (omega (arith, h.is_n)))
        (on (f n)
        (λ p. rw p (inl (record { below = omega arith; passes = p; least = h.fails })))
        (λ p. rw p (inr (record { is_n = refl; fails = λ i k. last i n k (h.fails i) (λ e. rw e p) }))))

-- A result below n is the lowest; one that passes is reason enough.
pub lowest_is : (n : ℕ) (f : ℕ → Bool) → lowest n f < n → IsLowest n f (lowest n f)
lowest_is n f h = ⊎_elim (λ x. x) (λ x. absurd (omega (arith, x.is_n))) (lowest_cases n f)

pub lowest_found : (n : ℕ) (f : ℕ → Bool) (i : ℕ) → i < n → f i ≡ true → IsLowest n f (lowest n f)
lowest_found n f i k p = ⊎_elim (λ x. x) (λ x. clash p (x.fails i k)) (lowest_cases n f)

pub lowest_none : (n : ℕ) (f : ℕ → Bool) → n ≤ lowest n f → NoneFound n f (lowest n f)
lowest_none n f h = ⊎_elim (λ x. absurd (omega (arith, x.below))) (λ x. x) (lowest_cases n f)

-- There is but one lowest.
pub lowest_unique : (n : ℕ) (f : ℕ → Bool) (r : ℕ) → IsLowest n f r → lowest n f ≡ r
lowest_unique n f r h =
    let found : IsLowest n f (lowest n f) = lowest_found n f r h.below h.passes in
    below? (lowest n f) r
    (λ k. clash found.passes (h.least (lowest n f) k))
    (λ k. below? r (lowest n f) (λ l. clash h.passes (found.least r l)) (λ l. omega arith))

-- ---- fewest

-- Of those that pass, none has fewer, and a lower one has more.
pub record IsFewest (n : ℕ) (f : ℕ → Bool) (size : ℕ → ℕ) (r : ℕ) : Type 0 where
  pub below : r < n
  pub passes : f r ≡ true
  pub least : (i : ℕ) → i < n → f i ≡ true → size r ≤ size i
  pub lower_more : (i : ℕ) → i < r → f i ≡ true → size r < size i

pub fewest_cases : (n : ℕ) (f : ℕ → Bool) (size : ℕ → ℕ)
    → IsFewest n f size (fewest n f size) ⊎ NoneFound n f (fewest n f size)
fewest_cases zero f size = inr (record { is_n = refl; fails = λ i k. absurd (omega arith) })
fewest_cases (suc n) f size = go (fewest_cases n f size)
  where
    -- The last number takes the place: it passes, and none below it has as few.
    taken : f n ≡ true → ((i : ℕ) → i < n → f i ≡ true → size n < size i) → IsFewest (suc n) f size n
    taken p less =
        record {
          below = omega arith;
          passes = p;
          least = λ i k q. last i n k (λ l. omega (arith, less i l q)) (λ e. rw e (omega arith));
          lower_more = less;
        }

    go : IsFewest n f size (fewest n f size) ⊎ NoneFound n f (fewest n f size)
        → IsFewest (suc n) f size (fewest (suc n) f size) ⊎ NoneFound (suc n) f (fewest (suc n) f size)
    go (inr h) =
        rw (le-ltb (fewest n f size) n (omega (arith, h.is_n)))
        (on (f n)
        (λ p. rw p (inl (taken p (λ i k q. clash q (h.fails i k)))))
        (λ p. rw p (inr (record { is_n = refl; fails = λ i k. last i n k (h.fails i) (λ e. rw e p) }))))
    go (inl h) =
        rw (lt-ltb (fewest n f size) n h.below)
        (on (f n && ltb (size n) (size (fewest n f size)))
        (λ p.
        let q = and_true (f n) (ltb (size n) (size (fewest n f size))) p in
        rw p (inl (taken q.0 (λ i k r.
        omega (arith, ltb-true (size n) (size (fewest n f size)) q.1, h.least i k r)))))
        (λ p.
        rw p (inl (record {
          below = omega (arith, h.below);
          passes = h.passes;
          least = λ i k r. last i n k (λ l. h.least i l r) (λ e.
              rw e (and_cases (f n) (ltb (size n) (size (fewest n f size))) p
              (λ o. clash (rw (← e) r) o)
              (λ o. ltb-false (size n) (size (fewest n f size)) o)));
          lower_more = h.lower_more;
        }))))

pub fewest_found : (n : ℕ) (f : ℕ → Bool) (size : ℕ → ℕ) (i : ℕ) → i < n → f i ≡ true → IsFewest n f size (fewest n f size)
fewest_found n f size i k p = ⊎_elim (λ x. x) (λ x. clash p (x.fails i k)) (fewest_cases n f size)
