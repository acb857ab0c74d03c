-- Counts of states, one page more; and "all" told by a count.
use Rattle.std.specs.Prelude.{ℕ, ◌+◌, ◌*◌, ◌<◌, ◌≡◌, refl, Bool, cond, List, eqb, length, get_or}
use Rattle.std.proofs.Common.{add-one, eq-eqb, ne_eqb}
use Rattle.scope.specs.Counting.{all, count}
use Rattle.scope.specs.Lent.{none, spare_words, state_of}
use Rattle.words.specs.Runs.{get_d_any}
use Rattle.flash.specs.Cases.{on, clash}
use Rattle.flash.specs.Counting.{all_each, each_all, each_counted, count_each}

-- All pass where as many pass as there are.
pub all_counted : (n : ℕ) (f : ℕ → Bool) → eqb (count n f) n ≡ all n f
all_counted n f =
    on (all n f)
    (λ p. rw p (eq-eqb (count n f) n (count_each n f (all_each n f p))))
    (λ p. rw p (ne_eqb (count n f) n (λ e. clash (each_all n f (each_counted n f e)) p)))

-- One more counted.
pub count_next : (f : ℕ → Bool) (i k b : ℕ) → k ≡ count i f → b ≡ cond (f i) 1 0 → k + b ≡ count (i + 1) f
count_next f i k b e q = rw (add-one, e, q) refl

-- One more page counted, where turn i looks at a page of its own.
pub count_more : (spare : List ℕ) (page : ℕ → ℕ) (state i k b : ℕ) → page i * spare_words < length spare
    → k ≡ count i (λ j. eqb (state_of (page j) spare) state) → b ≡ cond (eqb (get_or spare (page i * spare_words) 0) state) 1 0
    → k + b ≡ count (i + 1) (λ j. eqb (state_of (page j) spare) state)
count_more spare page state i k b h e q = rw (add-one, e, q, get_d_any spare (page i * spare_words) 0 none h) refl
