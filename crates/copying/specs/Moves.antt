-- The moves of a collection in a lent array, three words to a move: the logical page, which is the owner, the physical page, where it has
-- gone, and one that is the caller's to use.
use Prim.Native.Nat.{ℕ, zero, suc, ◌+◌, ◌*◌, ◌≤◌, ◌<◌}
use Rattle.std.specs.Prelude.{◌≡◌, List, [], ◌∷◌, ◌++◌, length, get_or, set}
use Rattle.std.proofs.Math.Path.{refl}
use Rattle.std.proofs.Common.{◌∙◌, inl, inr, arith, length-set, get_or-set_same, get_or-set_other}
use Rattle.std.proofs.Math.Numerals.{add-one}
use Rattle.std.proofs.Math.ListN.{length-append}
use Rattle.scope.specs.Geometry.{most_pages_in_block}
use Rattle.scope.specs.Lent.{Mapping}
use Rattle.flash.specs.Cases.{last}
use Rattle.cache.specs.Waiting.{Waits}

-- One that waits does so among more.
waits_among : (w v : List Mapping) (l : ℕ) → Waits w l → Waits (w ++ v) l
waits_among (x ∷ w) v l (inl e) = inl e
waits_among (x ∷ w) v l (inr q) = inr (waits_among w v l q)
waits_among [] v l q = absurd q

waits_last : (w : List Mapping) (m : Mapping) → Waits (w ++ m ∷ []) m.logical
waits_last [] m = inl refl
waits_last (x ∷ w) m = inr (waits_last w m)

-- The words of a move, and of as many as a block has pages at most.
abbrev pub move_words : ℕ
move_words = 3

abbrev pub moves_words : ℕ
moves_words = most_pages_in_block * move_words

-- A move, and the first n of them.
abbrev pub move_at : ℕ → List ℕ → Mapping
move_at i moves = record { logical = get_or moves (i * move_words) 0; physical = get_or moves (i * move_words + 1) 0 }

unfoldable pub first_moves : ℕ → List ℕ → List Mapping
first_moves zero moves = []
first_moves (suc n) moves = first_moves n moves ++ move_at n moves ∷ []

module _ (moves : List ℕ) where
  pub no_moves : first_moves 0 moves ≡ []
  unfolding first_moves
  no_moves = refl

  pub one_more : (n : ℕ) → first_moves (n + 1) moves ≡ first_moves n moves ++ move_at n moves ∷ []
  unfolding first_moves
  one_more n = rw add-one

  pub moves_counted : (n : ℕ) → length (first_moves n moves) ≡ n
  unfolding first_moves
  moves_counted zero = refl
  moves_counted (suc n) = length-append (first_moves n moves) _ ∙ omega (arith, moves_counted n)

  -- Each of their owners is one that moved.
  pub owner_waits : (n i : ℕ) → i < n → Waits (first_moves n moves) (get_or moves (i * move_words) 0)
  unfolding first_moves
  owner_waits zero i h = absurd (omega arith)
  owner_waits (suc n) i h =
      last i n h
      (λ before. waits_among (first_moves n moves) (move_at n moves ∷ []) _ (owner_waits n i before))
      (λ e. rw e (waits_last (first_moves n moves) (move_at n moves)))

-- ---- one more, behind n others

-- What is stored for the move behind n others: the words before its own stay.
pub record StoredMove (n l p : ℕ) (moves moves' : List ℕ) : Type 0 where
  pub as_long : length moves' ≡ length moves
  pub before : (j : ℕ) → j < n * move_words → get_or moves' j 0 ≡ get_or moves j 0
  pub its_logical : get_or moves' (n * move_words) 0 ≡ l
  pub its_physical : get_or moves' (n * move_words + 1) 0 ≡ p

first_stay : (n k : ℕ) (moves moves' : List ℕ) → ((j : ℕ) → j < n * move_words → get_or moves' j 0 ≡ get_or moves j 0) → k ≤ n
    → first_moves k moves' ≡ first_moves k moves
unfolding first_moves
first_stay n zero moves moves' same h = refl
first_stay n (suc k) moves moves' same h =
    rw (first_stay n k moves moves' same (omega arith), same (k * move_words) (omega arith), same (k * move_words + 1) (omega arith)) refl

-- Its two words are stored; whatever is stored as its third leaves these.
pub two_stored : (n l p : ℕ) (moves : List ℕ) → n * move_words + move_words ≤ length moves
    → StoredMove n l p moves (set (set moves (n * move_words) l) (n * move_words + 1) p)
two_stored n l p moves room =
    record {
      as_long = simp length-set;
      before = λ j h. get_or-set_other (set moves (n * move_words) l) (n * move_words + 1) j p 0 (omega arith)
          ∙ get_or-set_other moves (n * move_words) j l 0 (omega arith);
      its_logical = get_or-set_other (set moves (n * move_words) l) (n * move_words + 1) (n * move_words) p 0 (omega arith)
          ∙ get_or-set_same moves (n * move_words) l 0 (omega arith);
      its_physical = get_or-set_same (set moves (n * move_words) l) (n * move_words + 1) p 0 (omega (arith, length-set moves (n * move_words) l));
    }

pub third_stored : {n l p : ℕ} {moves moves' : List ℕ} (t : ℕ) → StoredMove n l p moves moves'
    → StoredMove n l p moves (set moves' (n * move_words + 2) t)
third_stored {n} {moves' = moves'} t s =
    record {
      as_long = length-set moves' (n * move_words + 2) t ∙ s.as_long;
      before = λ j h. get_or-set_other moves' (n * move_words + 2) j t 0 (omega arith) ∙ s.before j h;
      its_logical = get_or-set_other moves' (n * move_words + 2) (n * move_words) t 0 (omega arith) ∙ s.its_logical;
      its_physical = get_or-set_other moves' (n * move_words + 2) (n * move_words + 1) t 0 (omega arith) ∙ s.its_physical;
    }

pub stored_more : {n l p : ℕ} {moves moves' : List ℕ} → StoredMove n l p moves moves'
    → first_moves (n + 1) moves' ≡ first_moves n moves ++ record { logical = l; physical = p } ∷ []
stored_more {n} {moves = moves} {moves'} s =
    one_more moves' n ∙ (rw (first_stay n n moves moves' s.before (omega arith), s.its_logical, s.its_physical) refl)
