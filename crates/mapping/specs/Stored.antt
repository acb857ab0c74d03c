-- What flash holds for a logical page, as the code finds it: by the directory's word, and then by the word of the page that it names.
-- Any words whatever: past the end of a list there is *none*, so a page number past the chip holds nothing.
use Rattle.std.specs.Prelude.{ℕ, ◌/◌, ◌%◌, ◌≤◌, ◌≡◌, Bool, not, ◌||◌, List, [], eqb, ltb, get_or}
use Rattle.std.proofs.Common.{arith, sym, lt-ltb, le-ltb}
use Rattle.std.proofs.Math.Path.{ap}
use Rattle.scope.specs.Counting.{all}
use Rattle.scope.specs.Decisions.{unchanged_agree}
use Rattle.scope.specs.Geometry.{Geometry}
use Rattle.scope.specs.SmallRecord.{with_used}
use Rattle.scope.specs.Lent.{none, Place, Nowhere, decode, State, with_flash, with_directory, with_cache, with_small, word_of, logical_at, physical_at, changed_at}
use Rattle.scope.proofs.Decided.{unchanged_agree_decided}
use Rattle.scope.specs.Laws.Decides.{Decides}
use Rattle.scope.specs.Sound.{in_page, stored, UnchangedAgree}
use Rattle.flash.specs.Cases.{below?}
use Rattle.flash.specs.Counting.{all_each, each_all}
use Rattle.flash.specs.Tests.{same_test, decides_by}
use Rattle.flash.specs.Lengths.{some_state}

-- A state of which a test looks at these parts alone.
abbrev pub parts : List ℕ → List ℕ → List ℕ → List ℕ → ℕ → State
parts chip spare directory cache used =
    with_flash chip spare (with_directory directory (with_cache cache (with_small (with_used used some_state.small) some_state)))

module _ (g : Geometry) (chip directory : List ℕ) (l : ℕ) where
  pub stored_nowhere : Nowhere ≡ decode (get_or directory (l / g.W) none) → none ≡ stored g chip directory l
  unfolding stored
  stored_nowhere e = ap (in_page g chip l) e

  pub stored_place : (q : ℕ) → Place q ≡ decode (get_or directory (l / g.W) none) → word_of g q (l % g.W) chip ≡ stored g chip directory l
  unfolding stored
  stored_place q e = ap (in_page g chip l) e

-- Rule 7, of the entry at rank i.
abbrev pub agrees : Geometry → List ℕ → List ℕ → List ℕ → ℕ → Bool
agrees g chip directory cache i =
    not (eqb (changed_at i cache) 0) || eqb (physical_at i cache) (stored g chip directory (logical_at i cache))

-- A test of the entries in use alone is one of those below `used`.
pub all_used : (c used : ℕ) (f : ℕ → Bool) → used ≤ c → all c (λ i. not (ltb i used) || f i) ≡ all used f
all_used c used f most =
    same_test (all c (λ i. not (ltb i used) || f i)) (all used f)
    (λ h. each_all used f (λ i k. rw (lt-ltb i used k) at (all_each c (λ i. not (ltb i used) || f i) h i (omega arith))))
    (λ h. each_all c (λ i. not (ltb i used) || f i) (λ i k.
    below? i used
    (λ l. rw (lt-ltb i used l) (all_each used f h i l))
    (λ l. rw (le-ltb i used l))))

pub agree_decided : (g : Geometry) (chip directory cache : List ℕ) (used : ℕ) → used ≤ g.C
    → Decides (all used (agrees g chip directory cache)) (UnchangedAgree g (parts chip [] directory cache used))
unfolding unchanged_agree
agree_decided g chip directory cache used most =
    decides_by (sym (all_used g.C used (agrees g chip directory cache) most)) (unchanged_agree_decided g (parts chip [] directory cache used))
