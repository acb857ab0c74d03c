-- Laws of a number's digits: one by one, how many there are, and that they are read back as the number.
use Rattle.std.specs.Prelude.{ℕ, zero, suc, ◌+◌, ◌*◌, ◌/◌, ◌%◌, ◌^◌, ◌≤◌, ◌<◌, ◌≡◌, refl, Bool, true, false, ◌&&◌, List, [], ◌∷◌, ◌++◌, ltb, length, Some}
use Rattle.std.proofs.Common.{arith, mod-lt, div-add-mod', ap, ◌∙◌, length-append, ltb-true, ltb-false, lt-ltb, le-ltb, le-leb}
use Rattle.lines.specs.Lines.{is_digit, digit, value_after, all_digits, largest, fitting, decimal}
use Rattle.lines.specs.Digits.{last_digit, at_most, digits}

-- Of a number that is not one digit, n / 10 has fewer.
tenth_less : (n k : ℕ) → 10 ≤ n → n < suc k → n / 10 < k
tenth_less n k h h' = omega (arith, div-add-mod' n 10)

-- More room than a number's digits take changes nothing.
enough : (k j n : ℕ) → n < k → n < j → at_most k n ≡ at_most j n
unfolding at_most
enough zero j n h h' = absurd (omega arith)
enough (suc k) zero n h h' = absurd (omega arith)
enough (suc k) (suc j) n h h' = go (ltb n 10) refl (enough k j (n / 10))
  where
    go : (small : Bool) → ltb n 10 ≡ small → (n / 10 < k → n / 10 < j → at_most k (n / 10) ≡ at_most j (n / 10))
        → at_most (suc k) n ≡ at_most (suc j) n
    go true e same = rw (e, at_most)
    go false e same = rw (e, at_most, same (tenth_less n k (ltb-false _ _ e) h) (tenth_less n j (ltb-false _ _ e) h'))

-- A number's digits, by whether it has one.
pub one_digit : (n : ℕ) → n < 10 → digits n ≡ last_digit n ∷ []
unfolding digits at_most
one_digit n h = rw (lt-ltb n 10 h, at_most)

pub more_digits : (n : ℕ) → 10 ≤ n → digits n ≡ digits (n / 10) ++ last_digit n ∷ []
unfolding digits at_most
more_digits n h =
    rw (le-ltb n 10 h, at_most)
    (ap (λ front. front ++ last_digit n ∷ []) (enough n (suc (n / 10)) (n / 10) (tenth_less n n h (omega arith)) (omega arith)))

pub length_more : (n : ℕ) → 10 ≤ n → length (digits n) ≡ length (digits (n / 10)) + 1
length_more n h = rw (more_digits n h, length-append)

-- One digit or more: what holds of the first and is handed on by each further one holds of every number.
by_digits : (P : ℕ → Type 0) → ((n : ℕ) → n < 10 → P n) → ((n : ℕ) → 10 ≤ n → P (n / 10) → P n) → (n : ℕ) → P n
by_digits P one more n = below (suc n) n (omega arith)
  where
    split : (k n : ℕ) → n < suc k → ((m : ℕ) → m < k → P m) → (small : Bool) → ltb n 10 ≡ small → P n
    split k n h less true e = one n (ltb-true _ _ e)
    split k n h less false e = more n (ltb-false _ _ e) (less (n / 10) (tenth_less n k (ltb-false _ _ e) h))

    below : (k n : ℕ) → n < k → P n
    below zero n h = absurd (omega arith)
    below (suc k) n h = split k n h (below k) (ltb n 10) refl

-- A number below a power of ten has no more digits than its exponent.
digits_fit : (n k : ℕ) → n < 10 ^ suc k → length (digits n) ≤ suc k
digits_fit =
    by_digits (λ n. (k : ℕ) → n < 10 ^ suc k → length (digits n) ≤ suc k)
    (λ n small k h. rw (one_digit n small) (omega arith))
    (λ n large less. further n large less)
  where
    further : (n : ℕ) → 10 ≤ n → ((k : ℕ) → n / 10 < 10 ^ suc k → length (digits (n / 10)) ≤ suc k)
        → (k : ℕ) → n < 10 ^ suc k → length (digits n) ≤ suc k
    further n large less zero h = absurd (omega arith)
    further n large less (suc k) h =
        rw (more_digits n large, length-append) (omega (arith, less k (omega (arith, div-add-mod' n 10))))

pub ten_digits : (n : ℕ) → n < 4294967296 → length (digits n) ≤ 10
ten_digits n h = digits_fit n 9 (omega arith)

value_snoc : (n : ℕ) (bytes : List ℕ) (b : ℕ) → value_after n (bytes ++ b ∷ []) ≡ value_after n bytes * 10 + digit b
value_snoc n [] b = refl
value_snoc n (c ∷ bytes) b = value_snoc (n * 10 + digit c) bytes b

all_snoc : (bytes : List ℕ) (b : ℕ) → all_digits bytes ≡ true → is_digit b ≡ true → all_digits (bytes ++ b ∷ []) ≡ true
all_snoc [] b h e = rw e
all_snoc (c ∷ bytes) b h e = both (is_digit c) (all_digits bytes) h (λ h'. all_snoc bytes b h' e)
  where
    both : (x y : Bool) → (x && y) ≡ true → (y ≡ true → all_digits (bytes ++ b ∷ []) ≡ true)
        → (x && all_digits (bytes ++ b ∷ [])) ≡ true
    both true y h ih = ih h
    both false y h ih = h

record Spells (n : ℕ) (bytes : List ℕ) : Type 0 where
  are_digits : all_digits bytes ≡ true
  have_value : value_after 0 bytes ≡ n

last_is_digit : (n : ℕ) → is_digit (last_digit n) ≡ true
last_is_digit n =
    let low : n % 10 < 10 = mod-lt n (omega arith) in
    rw (le-leb 48 (48 + n % 10) (omega arith), le-leb (48 + n % 10) 57 (omega arith))

spells_more : (n : ℕ) (bytes : List ℕ) → Spells (n / 10) bytes → Spells n (bytes ++ last_digit n ∷ [])
spells_more n bytes s = record {
  are_digits = all_snoc bytes (last_digit n) s.are_digits (last_is_digit n);
  have_value = value_snoc 0 bytes (last_digit n) ∙ omega (arith, s.have_value, div-add-mod' n 10);
}

spells : (n : ℕ) → Spells n (digits n)
spells =
    by_digits (λ n. Spells n (digits n))
    (λ n small.
    rw (one_digit n small)
    (spells_more n [] (record { are_digits = refl; have_value = omega (arith, div-add-mod' n 10) })))
    (λ n large s. rw (more_digits n large) (spells_more n (digits (n / 10)) s))

decimal_snoc : (bytes : List ℕ) (b : ℕ) → decimal (bytes ++ b ∷ []) ≡ fitting 0 (bytes ++ b ∷ [])
decimal_snoc [] b = refl
decimal_snoc (c ∷ bytes) b = refl

digits_decimal : (n : ℕ) → decimal (digits n) ≡ fitting 0 (digits n)
digits_decimal =
    by_digits (λ n. decimal (digits n) ≡ fitting 0 (digits n))
    (λ n small. rw (one_digit n small))
    (λ n large e. rw (more_digits n large) (decimal_snoc (digits (n / 10)) (last_digit n)))

-- What is printed is read back as the number.
pub read_back : (n : ℕ) → n ≤ largest → decimal (digits n) ≡ Some n
read_back n h = digits_decimal n ∙ rw ((spells n).are_digits, (spells n).have_value, le-leb n largest h)
