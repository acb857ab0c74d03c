-- Tests, searches and counts over the numbers below a bound: what "each", "some", "the lowest" and "the fewest" of 01 mean here.
-- Each recurses on the bound with the last number outermost, so that a loop that counts up meets them one number at a time.
use Rattle.std.specs.Prelude.{ℕ, zero, suc, ◌+◌, Bool, true, false, not, cond, ◌&&◌, ◌||◌, ltb}

-- Every i below n passes.
abbrev pub all : ℕ → (ℕ → Bool) → Bool
all zero f = true
all (suc n) f = all n f && f n

-- Some i below n passes.
abbrev pub some : ℕ → (ℕ → Bool) → Bool
some zero f = false
some (suc n) f = some n f || f n

-- How many i below n pass.
abbrev pub count : ℕ → (ℕ → Bool) → ℕ
count zero f = zero
count (suc n) f = count n f + cond (f n) 1 0

-- The lowest i below n that passes; n where none does.
abbrev pub lowest : ℕ → (ℕ → Bool) → ℕ
lowest zero f = zero
lowest (suc n) f =
    let r = lowest n f in
    cond (ltb r n) r (cond (f n) n (suc n))

-- Of the i below n that pass, the one with the fewest, the lowest on a tie; n where none passes.
abbrev pub fewest : ℕ → (ℕ → Bool) → (ℕ → ℕ) → ℕ
fewest zero f size = zero
fewest (suc n) f size =
    let r = fewest n f size in
    cond (f n && (not (ltb r n) || ltb (size n) (size r))) n (cond (ltb r n) r (suc n))
