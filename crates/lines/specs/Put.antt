-- Laws of bytes put one after the other.
use Rattle.std.specs.Prelude.{ℕ, zero, suc, ◌+◌, ◌/◌, ◌≤◌, ◌≡◌, refl, ◌≢◌, List, [], ◌∷◌, ◌++◌, length, set}
use Rattle.std.proofs.Common.{arith, add-zero, suc-add, add-suc, ap, ◌∙◌, length-append}
use Rattle.std.proofs.lemmas.List.Edits.{sets}
use Rattle.lines.specs.Lines.{space}
use Rattle.lines.specs.Digits.{last_digit, digits, separator, Puts}
use Rattle.lines.specs.Spelled.{more_digits}

-- Stores one after the other are the stores of the joined list.
sets_append : (l : List ℕ) (i : ℕ) (xs ys : List ℕ) → sets (sets l i xs) (i + length xs) ys ≡ sets l i (xs ++ ys)
sets_append l i [] ys = rw add-zero
sets_append l i (x ∷ xs) ys = rw (add-suc, ← suc-add) (sets_append (set l i x) (suc i) xs ys)

-- Bytes put after others.
pub puts_then : {l m n xs ys : List ℕ} {at mid end : ℕ} → Puts l at xs m mid → Puts m mid ys n end → Puts l at (xs ++ ys) n end
puts_then {l} {m} {n} {xs} {ys} {at} {mid} {end} p q = record {
  stored = q.stored ∙ ap (λ b. sets b mid ys) p.stored ∙ ap (λ k. sets (sets l at xs) k ys) p.ends ∙ sets_append l at xs ys;
  ends = q.ends ∙ omega (arith, p.ends, length-append xs ys);
}

-- The digits of a number that is not one digit.
pub puts_digits : {l m k : List ℕ} {at mid end : ℕ} (n : ℕ) → 10 ≤ n → Puts l at (digits (n / 10)) m mid
    → Puts m mid (last_digit n ∷ []) k end → Puts l at (digits n) k end
puts_digits n h p q = rw (more_digits n h) (puts_then p q)

-- A later number of a line, with the space before it.
pub puts_later : {l m k xs : List ℕ} {at mid end : ℕ} (i : ℕ) → i ≢ 0 → Puts l at (space ∷ []) m mid → Puts m mid xs k end
    → Puts l at (separator i ++ xs) k end
puts_later zero h p q = absurd (h refl)
puts_later (suc i) h p q = puts_then p q
