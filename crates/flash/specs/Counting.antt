-- Laws of scope's tests and counts over the numbers below a bound: `all` is "each", `some` is "there is one", `count` counts.
-- Searching.antt has those of its searches.
use Rattle.std.specs.Prelude.{ℕ, zero, suc, ◌+◌, ◌*◌, ◌-◌, ◌≤◌, ◌<◌, ◌≡◌, refl, Bool, true, false, not, cond, ◌&&◌, eqb}
use Rattle.std.proofs.Common.{sym, ap, subst, ◌∙◌, add-zero, add-suc, zero-mul, suc-mul, arith, eqb-true}
use Rattle.std.proofs.lemmas.Bool.{eqb-false, not-true}
use Rattle.scope.specs.Counting.{all, some, count}
use Rattle.scope.specs.Laws.Decides.{by_all, by_some, by_itself}
use Rattle.flash.specs.Cases.{on, last, clash, and_true, and_cases, is_true, is_false}

-- ---- every, some

pub all_each : (n : ℕ) (f : ℕ → Bool) → all n f ≡ true → (i : ℕ) → i < n → f i ≡ true
all_each n f = (by_all n (λ i. by_itself (f i))).holds

pub each_all : (n : ℕ) (f : ℕ → Bool) → ((i : ℕ) → i < n → f i ≡ true) → all n f ≡ true
each_all n f = (by_all n (λ i. by_itself (f i))).passes

-- Not all: one fails.
pub all_fails : (n : ℕ) (f : ℕ → Bool) → all n f ≡ false → (i : ℕ) × (i < n) × (f i ≡ false)
all_fails zero f h = clash refl h
all_fails (suc n) f h =
    and_cases (all n f) (f n) h
    (λ e. let r = all_fails n f e in (r.0, omega arith, r.2))
    (λ e. (n, omega arith, e))

pub some_found : (n : ℕ) (f : ℕ → Bool) → some n f ≡ true → (i : ℕ) × (i < n) × (f i ≡ true)
some_found n f = (by_some n (λ i. by_itself (f i))).holds

pub found_some : (n : ℕ) (f : ℕ → Bool) (i : ℕ) → i < n → f i ≡ true → some n f ≡ true
found_some n f i k h = (by_some n (λ i. by_itself (f i))).passes (i, k, h)

pub none_some : (n : ℕ) (f : ℕ → Bool) → some n f ≡ false → (i : ℕ) → i < n → f i ≡ false
none_some n f h i k = is_false (f i) (λ e. clash (found_some n f i k e) h)

-- ---- count

-- What one test adds to a count.
bit_le : (b : Bool) → cond b 1 0 ≤ 1
bit_le true = omega arith
bit_le false = omega arith

pub count_le : (n : ℕ) (f : ℕ → Bool) → count n f ≤ n
count_le zero f = omega arith
count_le (suc n) f = omega (arith, count_le n f, bit_le (f n))

-- Tests that agree below n count the same; where each that passes f passes h, f counts no more.
pub count_same : (n : ℕ) (f h : ℕ → Bool) → ((i : ℕ) → i < n → f i ≡ h i) → count n f ≡ count n h
count_same zero f h e = refl
count_same (suc n) f h e = rw (count_same n f h (λ i k. e i (omega arith)), e n (omega arith))

pub count_mono : (n : ℕ) (f h : ℕ → Bool) → ((i : ℕ) → i < n → f i ≡ true → h i ≡ true) → count n f ≤ count n h
count_mono zero f h e = omega arith
count_mono (suc n) f h e =
    let ih : count n f ≤ count n h = count_mono n f h (λ i k. e i (omega arith)) in
    on (f n) (λ p. rw (p, e n (omega arith) p) (omega arith)) (λ p. rw p (omega arith))

-- One test counts one at most.
pub counts_one : (b : Bool) {x : ℕ} → x ≡ cond b 1 0 → x ≤ 1
counts_one b e = omega (arith, count_le 1 (λ _. b))

-- None passes; each passes.
pub count_none : (n : ℕ) (f : ℕ → Bool) → ((i : ℕ) → i < n → f i ≡ false) → count n f ≡ 0
count_none zero f e = refl
count_none (suc n) f e = rw (count_none n f (λ i k. e i (omega arith)), e n (omega arith))

pub count_each : (n : ℕ) (f : ℕ → Bool) → ((i : ℕ) → i < n → f i ≡ true) → count n f ≡ n
count_each zero f e = refl
count_each (suc n) f e =
    let ih : count n f ≡ n = count_each n f (λ i k. e i (omega arith)) in
    rw (e n (omega arith)) (omega arith)

-- Of those that pass one is counted, so that a count of none says that none passes.
pub count_one : (n : ℕ) (f : ℕ → Bool) (i : ℕ) → i < n → f i ≡ true → 1 ≤ count n f
count_one zero f i k h = absurd (omega arith)
count_one (suc n) f i k h =
    last i n k
    (λ l. omega (arith, count_one n f i l h))
    (λ e. let p : f n ≡ true = rw (← e) h in rw p (omega arith))

pub none_counted : (n : ℕ) (f : ℕ → Bool) → count n f ≡ 0 → (i : ℕ) → i < n → f i ≡ false
none_counted n f h i k = is_false (f i) (λ e. omega (arith, count_one n f i k e))

-- One that fails is not counted, so that a count of n says that each passes.
pub count_fails : (n : ℕ) (f : ℕ → Bool) (i : ℕ) → i < n → f i ≡ false → suc (count n f) ≤ n
count_fails zero f i k h = absurd (omega arith)
count_fails (suc n) f i k h =
    last i n k
    (λ l. omega (arith, count_fails n f i l h, bit_le (f n)))
    (λ e. let p : f n ≡ false = rw (← e) h in rw p (omega (arith, count_le n f)))

pub each_counted : (n : ℕ) (f : ℕ → Bool) → count n f ≡ n → (i : ℕ) → i < n → f i ≡ true
each_counted n f h i k = is_true (f i) (λ e. omega (arith, count_fails n f i k e))

-- A count of at least one has one that passes.
pub counted_found : (n : ℕ) (f : ℕ → Bool) → 1 ≤ count n f → (i : ℕ) × (i < n) × (f i ≡ true)
counted_found n f h =
    on (some n f) (some_found n f)
    (λ e. absurd (omega (arith, count_none n f (none_some n f e))))

-- Those that pass and those that don't are n.
pub count_not : (n : ℕ) (f : ℕ → Bool) → count n f + count n (λ i. not (f i)) ≡ n
count_not zero f = refl
count_not (suc n) f =
    let ih : count n f + count n (λ i. not (f i)) ≡ n = count_not n f in
    on (f n) (λ p. rw p (omega arith)) (λ p. rw p (omega arith))

-- Those that pass both tests and those that pass only the first.
pub count_split : (n : ℕ) (f h : ℕ → Bool) → count n f ≡ count n (λ i. f i && h i) + count n (λ i. f i && not (h i))
count_split zero f h = refl
count_split (suc n) f h =
    let ih : count n f ≡ count n (λ i. f i && h i) + count n (λ i. f i && not (h i)) = count_split n f h in
    on (f n)
    (λ p. on (h n) (λ q. rw (p, q) (omega arith)) (λ q. rw (p, q) (omega arith)))
    (λ p. rw p (omega arith))

-- Where each that passes f passes h, and one passes h alone, f counts less; so where they count the same, h passes no more.
pub count_less : (n : ℕ) (f h : ℕ → Bool) → ((i : ℕ) → i < n → f i ≡ true → h i ≡ true)
    → (i : ℕ) → i < n → f i ≡ false → h i ≡ true → count n f < count n h
count_less n f h sub i k p q =
    let more : 1 ≤ count n (λ j. h j && not (f j)) = count_one n (λ j. h j && not (f j)) i k (rw (p, q) refl) in
    let both : count n f ≤ count n (λ j. h j && f j) = count_mono n f (λ j. h j && f j) (λ j l t. rw (sub j l t, t) refl) in
    omega (arith, count_split n h f)

pub count_tight : (n : ℕ) (f h : ℕ → Bool) → ((i : ℕ) → i < n → f i ≡ true → h i ≡ true) → count n h ≡ count n f
    → (i : ℕ) → i < n → h i ≡ true → f i ≡ true
count_tight n f h sub same i k q = is_true (f i) (λ p. omega (arith, count_less n f h sub i k p q))

-- The numbers below m + n: those below m, and those from m on.
pub count_add : (m n : ℕ) (f : ℕ → Bool) → count (m + n) f ≡ count m f + count n (λ i. f (m + i))
count_add m zero f = rw (add-zero m) (omega arith)
count_add m (suc n) f = rw (add-suc, count_add m n f) (omega arith)

-- More numbers, a higher count.
pub count_upto : (n m : ℕ) (f : ℕ → Bool) → n ≤ m → count n f ≤ count m f
count_upto n m f h =
    let e : n + (m - n) ≡ m = omega arith in
    subst (λ m. count n f ≤ count m f) e (omega (arith, count_add n (m - n) f))

-- The sum of a size over the numbers below n, and its laws.
abbrev pub sum : ℕ → (ℕ → ℕ) → ℕ
sum zero size = zero
sum (suc n) size = sum n size + size n

pub sum_same : (n : ℕ) (a b : ℕ → ℕ) → ((i : ℕ) → i < n → a i ≡ b i) → sum n a ≡ sum n b
sum_same zero a b e = refl
sum_same (suc n) a b e = rw (sum_same n a b (λ i k. e i (omega arith)), e n (omega arith))

pub sum_mono : (n : ℕ) (a b : ℕ → ℕ) → ((i : ℕ) → i < n → a i ≤ b i) → sum n a ≤ sum n b
sum_mono zero a b e = omega arith
sum_mono (suc n) a b e = omega (arith, sum_mono n a b (λ i k. e i (omega arith)), e n (omega arith))

-- Counting block by block: m blocks of P numbers each.
pub count_blocks : (m P : ℕ) (f : ℕ → Bool) → count (m * P) f ≡ sum m (λ b. count P (λ i. f (b * P + i)))
count_blocks zero P f = rw zero-mul refl
count_blocks (suc m) P f = rw (suc-mul, count_add (m * P) P f, count_blocks m P f) refl

-- ---- pigeonhole

-- At most one passes where no two do.
pub count_at_most_one : (n : ℕ) (f : ℕ → Bool)
    → ((i j : ℕ) → i < n → j < n → f i ≡ true → f j ≡ true → i ≡ j) → count n f ≤ 1
count_at_most_one zero f differ = omega arith
count_at_most_one (suc n) f differ =
    on (f n)
    (λ p.
    let none : count n f ≡ 0 =
    count_none n f (λ i k. is_false (f i) (λ q. omega (arith, differ i n (omega arith) (omega arith) q p))) in
    rw p (omega arith))
    (λ p. rw p (omega (arith, count_at_most_one n f (λ i j k l. differ i j (omega arith) (omega arith)))))

-- Where f takes the numbers below n that pass to numbers below K that pass another test, no two of them to one, there are no more.
pub count_into : (n K : ℕ) (pass target : ℕ → Bool) (f : ℕ → ℕ)
    → ((i : ℕ) → i < n → pass i ≡ true → (f i < K) × (target (f i) ≡ true))
    → ((i j : ℕ) → i < n → j < n → pass i ≡ true → pass j ≡ true → f i ≡ f j → i ≡ j)
    → count n pass ≤ count K target
count_into n zero pass target f into differ =
    omega (arith, count_none n pass (λ i k. is_false (pass i) (λ p. omega (arith, (into i k p).0))))
count_into n (suc K) pass target f into differ =
    omega (
      arith,
      count_split n pass at_K,
      at_most,
      count_into n K (λ i. pass i && not (at_K i)) target f
          (λ i k p.
          let both = and_true (pass i) (not (at_K i)) p in
          let ne = eqb-false (f i) K (not-true (at_K i) both.1) in
          (omega (arith, (into i k both.0).0), (into i k both.0).1))
          (λ i j k l p q. differ i j k l (and_true (pass i) (not (at_K i)) p).0 (and_true (pass j) (not (at_K j)) q).0),
    )
  where
    at_K : ℕ → Bool
    at_K i = eqb (f i) K

    is_K : (i : ℕ) → (pass i && at_K i) ≡ true → (pass i ≡ true) × (f i ≡ K)
    is_K i p = let both = and_true (pass i) (at_K i) p in (both.0, eqb-true (f i) K both.1)

    at_most : count n (λ i. pass i && at_K i) ≤ cond (target K) 1 0
    at_most =
        on (target K)
        (λ e. rw e (count_at_most_one n (λ i. pass i && at_K i) (λ i j k l p q.
        differ i j k l (is_K i p).0 (is_K j q).0 ((is_K i p).1 ∙ sym (is_K j q).1))))
        (λ e. rw e (omega (
          arith,
          count_none n (λ i. pass i && at_K i) (λ i k. is_false (pass i && at_K i) (λ p.
              clash (into i k (is_K i p).0).1 (ap target (is_K i p).1 ∙ e))),
        )))

-- So where it takes them to any numbers below K, no more than K pass.
pub pigeonhole : (n K : ℕ) (pass : ℕ → Bool) (f : ℕ → ℕ)
    → ((i : ℕ) → i < n → pass i ≡ true → f i < K)
    → ((i j : ℕ) → i < n → j < n → pass i ≡ true → pass j ≡ true → f i ≡ f j → i ≡ j)
    → count n pass ≤ K
pigeonhole n K pass f small differ =
    omega (arith, count_into n K pass (λ _. true) f (λ i k p. (small i k p, refl)) differ, count_le K (λ _. true))
