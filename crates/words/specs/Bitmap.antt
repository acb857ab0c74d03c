-- A set of numbers as a list of 64-bit words, a bit for each number, and its laws: what was put in is there, and nothing else is.
use Rattle.std.specs.Prelude.{ℕ, zero, suc, ◌+◌, ◌-◌, ◌/◌, ◌%◌, ◌^◌, ◌<◌, ◌≡◌, refl, ◌≢◌, Bool, true, false, List, eqb, length, get_or, set, replicate}
use Rattle.std.proofs.Common.{ap, subst, ◌∙◌, mod-lt, pow-suc, arith, length-set, pow_pos, pow-add, get_or-set_same, get_or-set_other}
use Rattle.std.proofs.Math.Nat.{mul-mod_left, div-eq_of_lt, div_self, zero-div}
use Rattle.std.specs.Int.Bits.{bit_or, or_zero_r}
use Rattle.std.proofs.lemmas.Nat.{or_shr, or_mod, shl-shr}
use Rattle.std.proofs.Math.Pow.{pow-lt}
use Rattle.std.proofs.Math.Seq.{set_out}
use Rattle.flash.specs.Cases.{same?, below?}
use Rattle.lent.specs.Notes.{filter_words}

-- Whether i is in the set: bit i % 64 of word i / 64.
unfoldable pub has : List ℕ → ℕ → Bool
has map i = eqb (get_or map (i / 64) 0 / 2 ^ (i % 64) % 2) 1

-- The set with i.
unfoldable pub put : List ℕ → ℕ → List ℕ
put map i = set map (i / 64) (bit_or (get_or map (i / 64) 0) (2 ^ (i % 64)))

-- The set with nothing in it, for the numbers below filter-bits.
abbrev pub empty : List ℕ
empty = replicate filter_words 0

-- ---- a bit of a number

-- Two bits: with a 1 the other is 1.
or_one : (x : ℕ) → x < 2 → bit_or x 1 ≡ 1
or_one zero h = refl
or_one (suc zero) h = refl
or_one (suc (suc x)) h = absurd (omega arith)

-- Bit k of 2 ^ j: 1 where j is k, else 0.
power_bit : (k : ℕ) → 2 ^ k / 2 ^ k % 2 ≡ 1
power_bit k = ap (λ (x : ℕ). x % 2) (div_self (pow_pos k))

power_above : (d k : ℕ) → 2 ^ (suc d + k) / 2 ^ k % 2 ≡ 0
power_above d k =
    ap (λ (x : ℕ). x / 2 ^ k % 2) (pow-add 2 (suc d) k)
    ∙ ap (λ (x : ℕ). x % 2) (shl-shr (2 ^ suc d) k ∙ pow-suc 2 d)
    ∙ mul-mod_left (2 ^ d) 2

power_other : (j k : ℕ) → j ≢ k → 2 ^ j / 2 ^ k % 2 ≡ 0
power_other j k ne =
    below? j k
    (λ h. ap (λ (x : ℕ). x % 2) (div-eq_of_lt (pow-lt h)))
    (λ h. subst (λ (i : ℕ). 2 ^ i / 2 ^ k % 2 ≡ 0) (omega arith) (power_above (j - suc k) k))

-- Bit k of m with 2 ^ j put in.
or_bit : (m b k : ℕ) → bit_or m b / 2 ^ k % 2 ≡ bit_or (m / 2 ^ k % 2) (b / 2 ^ k % 2)
or_bit m b k = ap (λ (x : ℕ). x % 2) (or_shr m b k) ∙ or_mod (m / 2 ^ k) (b / 2 ^ k) 1

bit_put : (m k : ℕ) → bit_or m (2 ^ k) / 2 ^ k % 2 ≡ 1
bit_put m k =
    or_bit m (2 ^ k) k ∙ ap (bit_or (m / 2 ^ k % 2)) (power_bit k) ∙ or_one (m / 2 ^ k % 2) (mod-lt (m / 2 ^ k) (omega arith))

bit_kept : (m j k : ℕ) → j ≢ k → bit_or m (2 ^ j) / 2 ^ k % 2 ≡ m / 2 ^ k % 2
bit_kept m j k ne =
    or_bit m (2 ^ j) k ∙ ap (bit_or (m / 2 ^ k % 2)) (power_other j k ne) ∙ or_zero_r (m / 2 ^ k % 2)

-- ---- the set

zero_at : (n j : ℕ) → ◌≡◌ {A = ℕ} (get_or (replicate n 0) j 0) 0
zero_at zero j = refl
zero_at (suc n) zero = refl
zero_at (suc n) (suc j) = zero_at n j

pub has_empty : (i : ℕ) → has empty i ≡ false
unfolding has
has_empty i =
    ap (λ (x : ℕ). eqb (x / 2 ^ (i % 64) % 2) 1) (zero_at filter_words (i / 64))
    ∙ ap (λ (x : ℕ). eqb (x % 2) 1) (zero-div (2 ^ (i % 64)))

pub length_put : (map : List ℕ) (i : ℕ) → length (put map i) ≡ length map
unfolding put
length_put map i = simp length-set

pub has_put_same : (map : List ℕ) (i : ℕ) → i / 64 < length map → has (put map i) i ≡ true
unfolding has put
has_put_same map i h =
    let m : ℕ = get_or map (i / 64) 0 in
    ap (λ (x : ℕ). eqb (x / 2 ^ (i % 64) % 2) 1) (get_or-set_same map (i / 64) (bit_or m (2 ^ (i % 64))) 0 h)
    ∙ ap (λ (x : ℕ). eqb x 1) (bit_put m (i % 64))

-- A number beside the one that is put in.
pub has_put_other : (map : List ℕ) (i j : ℕ) → j ≢ i → has (put map i) j ≡ has map j
unfolding has put
has_put_other map i j ne =
    let m : ℕ = get_or map (i / 64) 0 in
    let x : ℕ = bit_or m (2 ^ (i % 64)) in
    same? (j / 64) (i / 64)
    (λ e. below? (i / 64) (length map)
    (λ h. rw (e, get_or-set_same map (i / 64) x 0 h, bit_kept m (i % 64) (j % 64) (λ f. ne (omega arith))))
    (λ h. rw (set_out map (i / 64) x h)))
    (λ d. ap (λ (y : ℕ). eqb (y / 2 ^ (j % 64) % 2) 1) (get_or-set_other map (i / 64) (j / 64) x 0 d))
