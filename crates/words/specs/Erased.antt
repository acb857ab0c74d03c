-- Words swept for the erased word: what is left of its bits after all the words are put together tells whether each is erased.
use Rattle.std.specs.Prelude.{ℕ, ◌+◌, ◌-◌, ◌≤◌, ◌<◌, ◌≡◌, Bool, true, ◌&&◌, List, eqb, length, get_or}
use Rattle.std.proofs.Common.{add-one, arith, sym, ap, subst, ◌∙◌, eqb-true, eq-eqb}
use Rattle.std.specs.Int.Bits.{bit_and, and_self}
use Rattle.std.proofs.lemmas.Nat.{and_le_l, and_le_r}
use Rattle.scope.specs.Counting.{all}
use Rattle.scope.specs.Lent.{erased}
use Rattle.flash.specs.Cases.{below?, and_true, true_and}
use Rattle.flash.specs.Counting.{all_each}
use Rattle.flash.specs.Tests.{same_test, and_passed, and_assoc, all_add}
use Rattle.words.specs.Runs.{get_d_any}

abbrev pub is_erased_word : List ℕ → ℕ → Bool
is_erased_word words i = eqb (get_or words i erased) erased

-- Each word of a list is.
abbrev pub only_erased : List ℕ → Bool
only_erased words = all (length words) (is_erased_word words)

-- Of two words of 32 bits both have all bits exactly where they have them in common.
pub both_erased : (a b : ℕ) → a ≤ erased → b ≤ erased → eqb (bit_and a b) erased ≡ (eqb a erased && eqb b erased)
both_erased a b ha hb =
    same_test (eqb (bit_and a b) erased) (eqb a erased && eqb b erased)
    (λ h.
    let e : bit_and a b ≡ erased = eqb-true (bit_and a b) erased h in
    true_and (eq-eqb a erased (omega (arith, and_le_l a b))) (eq-eqb b erased (omega (arith, and_le_r a b))))
    (λ h.
    let both = and_true (eqb a erased) (eqb b erased) h in
    let p : a ≡ erased = eqb-true a erased both.0 in
    let q : b ≡ erased = eqb-true b erased both.1 in
    eq-eqb (bit_and a b) erased (ap (bit_and a) (q ∙ sym p) ∙ and_self a ∙ p))

-- ---- one sweep: `left` are the bits that `bits` and the n words from `at` on have in common

pub record Swept (words : List ℕ) (at bits n left : ℕ) : Type 0 where
  pub in_word : left ≤ erased
  pub tells : eqb left erased ≡ (eqb bits erased && all n (λ i. is_erased_word words (at + i)))

pub swept_none : (words : List ℕ) (at bits : ℕ) → bits ≤ erased → Swept words at bits 0 bits
swept_none words at bits small = record { in_word = small; tells = sym (and_passed (eqb bits erased)) }

pub swept_more : (words : List ℕ) (at bits n left : ℕ) → at + n < length words → get_or words (at + n) 0 ≤ erased → Swept words at bits n left
    → Swept words at bits (n + 1) (bit_and left (get_or words (at + n) 0))
swept_more words at bits n left h small s =
    let word = get_or words (at + n) 0 in
    record {
      in_word = omega (arith, and_le_l left word, s.in_word);
      tells = rw (add-one n)
          (both_erased left word s.in_word small
          ∙ ap (λ (b : Bool). b && eqb word erased) s.tells
          ∙ ap (λ (x : ℕ). eqb bits erased && all n (λ i. is_erased_word words (at + i)) && eqb x erased) (get_d_any words (at + n) 0 erased h)
          ∙ and_assoc (eqb bits erased) (all n (λ i. is_erased_word words (at + i))) (is_erased_word words (at + n)));
    }

pub swept_all : (words : List ℕ) (at bits i n left : ℕ) → i ≤ n → n ≤ i → Swept words at bits i left
    → eqb left erased ≡ (eqb bits erased && all n (λ j. is_erased_word words (at + j)))
swept_all words at bits i n left h k s =
    let is : i ≡ n = omega arith in
    s.tells ∙ ap (λ (m : ℕ). eqb bits erased && all m (λ j. is_erased_word words (at + j))) is

-- ---- sweeps one after the other: the bits tell of the first i words, and those that are left of n words more

pub swept_on : (words : List ℕ) (i n bits left : ℕ) → eqb bits erased ≡ all i (is_erased_word words)
    → eqb left erased ≡ (eqb bits erased && all n (λ j. is_erased_word words (i + j))) → eqb left erased ≡ all (i + n) (is_erased_word words)
swept_on words i n bits left before now =
    now ∙ ap (λ (b : Bool). b && all n (λ j. is_erased_word words (i + j))) before ∙ sym (all_add i n (is_erased_word words))

-- The words from `at` to `end` are erased.
pub record ErasedRun (words : List ℕ) (at end : ℕ) : Type 0 where
  pub starts : at ≤ end
  pub ends : end ≤ length words
  pub each : (i : ℕ) → at ≤ i → i < end → get_or words i erased ≡ erased

pub erased_run_none : (words : List ℕ) (at : ℕ) → at ≤ length words → ErasedRun words at at
erased_run_none words at h = record { starts = omega arith; ends = h; each = λ i k l. absurd (omega arith) }

pub erased_run_more : (words : List ℕ) (at end n left : ℕ) → end + n ≤ length words → ErasedRun words at end → left ≡ erased
    → eqb left erased ≡ (eqb erased erased && all n (λ j. is_erased_word words (end + j))) → ErasedRun words at (end + n)
erased_run_more words at end n left inside run is tells =
    let all_erased : all n (λ j. is_erased_word words (end + j)) ≡ true = sym tells ∙ eq-eqb left erased is in
    record {
      starts = omega (arith, run.starts);
      ends = inside;
      each = λ i h k. below? i end (run.each i h) (λ l.
          let at_i : end + (i - end) ≡ i = omega arith in
          subst (λ (j : ℕ). get_or words j erased ≡ erased) at_i
          (eqb-true (get_or words (end + (i - end)) erased) erased (all_each n (λ j. is_erased_word words (end + j)) all_erased (i - end) (omega arith))));
    }
