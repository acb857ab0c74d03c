-- 02, P5, by computation: where a hit and a miss put their entry and what then is protected, from caches that are written out; and which numbers
-- of protected entries a sound state has.
use Rattle.std.specs.Prelude.{ℕ, zero, suc, ◌≡◌, refl, Bool, true, false, List, [], ◌∷◌, ◌++◌, drop, replicate}
use Rattle.scope.specs.Geometry.{Geometry}
use Rattle.scope.specs.SmallRecord.{record_of}
use Rattle.scope.specs.Lent.{none, erased, valid, entry_words, logical_at, State}
use Rattle.scope.specs.Decisions.{sound}
use Rattle.scope.specs.Tables.Play.{computed, R, made}
use Rattle.scope.specs.Tables.Instances.{geometry, left_in, H}

-- Entries for pages of which none was ever written; a fresh chip with a cache and so many entries used, of which n are protected.
unfoldable pub entries_of : List ℕ → List ℕ
entries_of [] = []
entries_of (l ∷ pages) = l ∷ none ∷ 0 ∷ entries_of pages

abbrev pub S : ℕ → Geometry
S c = geometry 2 5 4 2 5 c

unfoldable pub fresh_with : List ℕ → ℕ → ℕ → State
fresh_with cache used n =
    record {
      chip = replicate 60 erased;
      spare = replicate 24 erased;
      directory = none ∷ [];
      cache = cache;
      small = record_of (0 ∷ 0 ∷ 4 ∷ 0 ∷ used ∷ n ∷ []);
    }

-- How many are protected once page l has been read, and the logical pages of the c entries from the front.
unfoldable pub in_order : ℕ → List ℕ → List ℕ
in_order zero cache = []
in_order (suc n) cache = logical_at 0 cache ∷ in_order n (drop entry_words cache)

unfoldable pub after_read : ℕ → ℕ → List ℕ → ℕ → List ℕ
after_read l c pages n =
    let left = (made (S c) (R l) (fresh_with (entries_of pages) c n)).after in
    left.small.protected ∷ in_order c left.cache

-- Four entries, all changed: the last, 1, has a neighbour in each part, 2 in protected and 0 in trial; 3 is of another translation page.
abbrev pub neighbours_in_both : State
neighbours_in_both =
    record {
      chip = replicate 3 11 ++ replicate 3 12 ++ replicate 3 13 ++ replicate 3 10 ++ replicate 30 erased;
      spare = valid ∷ 1 ∷ valid ∷ 2 ∷ valid ∷ 3 ∷ valid ∷ 0 ∷ replicate 20 erased;
      directory = none ∷ none ∷ [];
      cache = 3 ∷ 2 ∷ 1 ∷ 2 ∷ 1 ∷ 1 ∷ 0 ∷ 3 ∷ 1 ∷ 1 ∷ 0 ∷ 1 ∷ [];
      small = record_of (1 ∷ 2 ∷ 4 ∷ 0 ∷ 4 ∷ 2 ∷ []);
    }

-- Of four entries so many are used: whether the state is sound with n protected.
unfoldable pub sound_with : List ℕ → ℕ → ℕ → Bool
sound_with cache used n = sound (S 4) (fresh_with cache used n)

pub record Replacement : Type 0 where
  -- A miss enters behind the protected ones, and the last goes.
  pub miss : 2 ∷ 0 ∷ 1 ∷ 4 ∷ 2 ∷ [] ≡ after_read 4 4 (0 ∷ 1 ∷ 2 ∷ 3 ∷ []) 2
  pub miss_with_one_protected : 1 ∷ 0 ∷ 4 ∷ 1 ∷ 2 ∷ [] ≡ after_read 4 4 (0 ∷ 1 ∷ 2 ∷ 3 ∷ []) 1
  -- A hit in trial below the limit, and at it: then the last protected one is the trial part's first.
  pub trial_below_the_limit : 2 ∷ 3 ∷ 0 ∷ 1 ∷ 2 ∷ [] ≡ after_read 3 4 (0 ∷ 1 ∷ 2 ∷ 3 ∷ []) 1
  pub trial_at_the_limit : 2 ∷ 3 ∷ 0 ∷ 1 ∷ 2 ∷ [] ≡ after_read 3 4 (0 ∷ 1 ∷ 2 ∷ 3 ∷ []) 2
  pub first_in_trial : 2 ∷ 2 ∷ 0 ∷ 1 ∷ 3 ∷ [] ≡ after_read 2 4 (0 ∷ 1 ∷ 2 ∷ 3 ∷ []) 2
  -- A hit in protected, of its last and of its first.
  pub protected_last : 2 ∷ 1 ∷ 0 ∷ 2 ∷ 3 ∷ [] ≡ after_read 1 4 (0 ∷ 1 ∷ 2 ∷ 3 ∷ []) 2
  pub protected_only : 1 ∷ 0 ∷ 1 ∷ 2 ∷ 3 ∷ [] ≡ after_read 0 4 (0 ∷ 1 ∷ 2 ∷ 3 ∷ []) 1
  -- A dropped entry's neighbours in both parts are set with it and stay where they are; the new one stands between them.
  pub both_parts :
      (3 ∷ 2 ∷ 1 ∷ 2 ∷ 1 ∷ 0 ∷ 4 ∷ none ∷ 0 ∷ 0 ∷ 3 ∷ 0 ∷ []) ∷ (3 ∷ 0 ∷ 1 ∷ []) ∷ [] ≡ left_in 8 H (R 4 ∷ []) neighbours_in_both
  -- C of 1 protects none.
  pub one_missed : 0 ∷ 1 ∷ [] ≡ after_read 1 1 (0 ∷ []) 0
  pub one_hit : 0 ∷ 0 ∷ [] ≡ after_read 0 1 (0 ∷ []) 0
  -- C of 2 and of 3 protect one.
  pub two_hit : 1 ∷ 1 ∷ 0 ∷ [] ≡ after_read 1 2 (0 ∷ 1 ∷ []) 0
  pub two_exchanged : 1 ∷ 1 ∷ 0 ∷ [] ≡ after_read 1 2 (0 ∷ 1 ∷ []) 1
  pub two_missed : 1 ∷ 0 ∷ 2 ∷ [] ≡ after_read 2 2 (0 ∷ 1 ∷ []) 1
  pub three_hit : 1 ∷ 2 ∷ 0 ∷ 1 ∷ [] ≡ after_read 2 3 (0 ∷ 1 ∷ 2 ∷ []) 1
  pub three_missed : 1 ∷ 0 ∷ 3 ∷ 1 ∷ [] ≡ after_read 3 3 (0 ∷ 1 ∷ 2 ∷ []) 1
  -- "At most C/2 and at most the used ones in a sound state."
  pub four_used : true ∷ true ∷ false ∷ false ∷ []
      ≡ (let fits = sound_with (entries_of (0 ∷ 1 ∷ 2 ∷ 3 ∷ [])) 4 in fits 0 ∷ fits 2 ∷ fits 3 ∷ fits none ∷ [])
  pub one_used : true ∷ true ∷ false ∷ []
      ≡ (let fits = sound_with (entries_of (0 ∷ []) ++ replicate 9 none) 1 in fits 0 ∷ fits 1 ∷ fits 2 ∷ [])

pub replacement_holds : Replacement
unfolding computed left_in entries_of fresh_with in_order after_read sound_with
replacement_holds =
    record {
      miss = refl;
      miss_with_one_protected = refl;
      trial_below_the_limit = refl;
      trial_at_the_limit = refl;
      first_in_trial = refl;
      protected_last = refl;
      protected_only = refl;
      both_parts = refl;
      one_missed = refl;
      one_hit = refl;
      two_hit = refl;
      two_exchanged = refl;
      two_missed = refl;
      three_hit = refl;
      three_missed = refl;
      four_used = refl;
      one_used = refl;
    }
