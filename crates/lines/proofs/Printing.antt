-- A line half printed: the loop of `put_line` begins with nothing printed, each turn adds a number, and a newline ends it.
use Prim.Native.Nat.{ℕ, zero, suc, ◌+◌, ◌*◌, ◌≤◌, ◌<◌}
use native.Mathlib.Omega.{arith}
use native.Mathlib.Numerals.{add-one}
use mathlib.Core.Path.{◌≡◌, refl, sym, ap, ◌∙◌, subst}
use mathlib.Core.List.{List, [], ◌∷◌, ◌++◌, append_assoc}
use lib.ListN.{length, get_or, take, length-append}
use lib.Seq.{take_all, length-take-le, length-sets}
use Rattle.lines.specs.Digits.{digits, separator, spaced, newline, line, Puts, Prints}
use Rattle.lines.specs.Spelled.{ten_digits}
use Rattle.lines.specs.Put.{puts_then}

-- The next number of a line, with what separates it from those before.
spaced_next : (numbers : List ℕ) (i : ℕ) → i < length numbers
    → spaced (take (suc i) numbers) ≡ spaced (take i numbers) ++ (separator i ++ digits (get_or numbers i 0))
spaced_next [] i h = absurd (omega arith)
spaced_next (n ∷ numbers) zero h = refl
spaced_next (n ∷ []) (suc i) h = absurd (omega arith)
spaced_next (n ∷ m ∷ numbers) (suc zero) h = refl
spaced_next (n ∷ m ∷ numbers) (suc (suc i)) h = rw (spaced_next (m ∷ numbers) (suc i) (omega arith), append_assoc)

pub record Printed (before numbers after : List ℕ) (at i : ℕ) : Type 0 where
  pub puts : Puts before 0 (spaced (take i numbers)) after at
  pub short : at ≤ i * 11

pub turn : {before numbers after after' : List ℕ} {at at' i : ℕ} → Printed before numbers after at i → i < length numbers
    → get_or numbers i 0 < 4294967296 → Puts after at (separator i ++ digits (get_or numbers i 0)) after' at'
    → Printed before numbers after' at' (i + 1)
turn {before} {numbers} {after} {after'} {at} {at'} {i} p h f q =
    rw add-one
    (record {
      puts = rw (spaced_next numbers i h) (puts_then p.puts q);
      short =
          let n = get_or numbers i 0 in
          omega (arith, p.short, q.ends, length-append (separator i) (digits n), separated i, ten_digits n f);
    })
  where
    separated : (i : ℕ) → length (separator i) ≤ 1
    separated zero = omega arith
    separated (suc i) = omega arith

pub done : {before numbers after after' : List ℕ} {at i end : ℕ} → Printed before numbers after at i → i ≤ length numbers
    → length numbers ≤ i → length numbers * 11 < length before → Puts after at (newline ∷ []) after' end
    → Prints before numbers after' end
unfolding line
done {before} {numbers} {after} {after'} {at} {i} {end} p h h' room q =
    record {
      puts = puts_then (subst (λ shown. Puts before 0 (spaced shown) after at) (take_all i numbers h') p.puts) q;
      within = within;
      counted = sym (length-take-le end after' within);
    }
  where
    kept : length after' ≡ length before
    kept = ap length q.stored ∙ length-sets after at (newline ∷ []) ∙ ap length p.puts.stored
        ∙ length-sets before 0 (spaced (take i numbers))

    within : end ≤ length after'
    within = omega (arith, kept, q.ends, p.short)
