-- What waits as a list of mappings in a lent array, one more that waits behind the others, and the mappings of one translation page.
use Rattle.std.specs.Prelude.{◌≡◌, ℕ, ◌+◌, ◌*◌, ◌<◌, ◌≤◌, ◌≢◌, List, [], ◌∷◌, ◌++◌, length, slice_index, slice_index_or, slice_set}
use Rattle.std.proofs.Math.Path.{refl}
use Rattle.std.proofs.Common.{sym, ap, ◌∙◌, append-nil, arith, length-set, get_or-set_same, get_or-set_other, eq-eqb, ne_eqb}
use Rattle.scope.specs.Geometry.{most_pages_in_block, Geometry}
use Rattle.scope.specs.Lent.{Mapping, translation_page}
use Rattle.scope.specs.Steps.{of_page}
use Rattle.flash.specs.Cases.{same?, last}
use Rattle.copying.specs.Moves.{move_words, moves_words, first_moves, StoredMove, two_stored, third_stored, stored_more}

-- The first n mappings of the lent array wait: the third word of each is its translation page, which is reckoned once for all the times
-- that it is looked at.
pub record WaitsIn (g : Geometry) (n : ℕ) (waiting : List ℕ) : Type 0 where
  pub long : length waiting ≡ moves_words
  pub few : n ≤ most_pages_in_block
  pub of_pages : (i : ℕ) → i < n → slice_index waiting (i * move_words + 2) ≡ translation_page g (slice_index waiting (i * move_words))

-- ---- one more that waits

-- Where n waited, at most one more waits, and the words behind its own stay.
pub record MovesAhead (n n' : ℕ) (words words' : List ℕ) : Type 0 where
  pub most : n' ≤ n + 1
  pub behind : (j : ℕ) → n * move_words + move_words ≤ j → slice_index words' j ≡ slice_index words j

-- The words of one more behind n others, and its translation page t.
abbrev pub waits_too : ℕ → ℕ → ℕ → ℕ → List ℕ → List ℕ
waits_too n l p t waiting = slice_set (slice_set (slice_set waiting (n * move_words) l) (n * move_words + 1) p) (n * move_words + 2) t

module _ (waiting : List ℕ) (n l p t : ℕ) where
  pub one_ahead : MovesAhead n (n + 1) waiting (waits_too n l p t waiting)
  one_ahead =
      record {
        most = omega arith;
        behind = λ j h. get_or-set_other (slice_set (slice_set waiting (n * move_words) l) (n * move_words + 1) p) (n * move_words + 2) j t 0 (omega arith)
            ∙ get_or-set_other (slice_set waiting (n * move_words) l) (n * move_words + 1) j p 0 (omega arith)
            ∙ get_or-set_other waiting (n * move_words) j l 0 (omega arith);
      }

  module _ (room : n * move_words + move_words ≤ length waiting) where
    stored : StoredMove n l p waiting (waits_too n l p t waiting)
    stored = third_stored t (two_stored n l p waiting room)

    pub wait_more : first_moves (n + 1) (waits_too n l p t waiting) ≡ first_moves n waiting ++ record { logical = l; physical = p } ∷ []
    wait_more = stored_more stored

    its_page : slice_index_or (waits_too n l p t waiting) (n * move_words + 2) 0 ≡ t
    its_page = get_or-set_same (slice_set (slice_set waiting (n * move_words) l) (n * move_words + 1) p) (n * move_words + 2) t 0
        (omega (arith, length-set (slice_set waiting (n * move_words) l) (n * move_words + 1) p, length-set waiting (n * move_words) l))

pub still_waits_in : {g : Geometry} {n : ℕ} {waiting : List ℕ} → WaitsIn g n waiting → n < most_pages_in_block → (l p : ℕ)
    → WaitsIn g (n + 1) (waits_too n l p (translation_page g l) waiting)
still_waits_in {g} {n} {waiting} waits few l p =
    let t : ℕ = translation_page g l in
    let room : n * move_words + move_words ≤ length waiting = omega (arith, waits.long) in
    let s = stored waiting n l p t room in
    record {
      long = s.as_long ∙ waits.long;
      few = omega arith;
      of_pages = λ i h. last i n (omega arith)
          (λ before. s.before (i * move_words + 2) (omega arith)
          ∙ waits.of_pages i before
          ∙ ap (translation_page g) (sym (s.before (i * move_words) (omega arith))))
          (λ e. rw e (its_page waiting n l p t room ∙ ap (translation_page g) (sym s.its_logical)));
    }

pub none_wait_in : {g : Geometry} {waiting : List ℕ} → length waiting ≡ moves_words → WaitsIn g 0 waiting
none_wait_in long = record { long = long; few = omega arith; of_pages = λ i h. absurd (omega arith) }

-- ---- the mappings of one translation page

module _ (g : Geometry) (t : ℕ) where
  pub none_of_page : of_page g t [] ≡ []
  unfolding of_page
  none_of_page = refl

  pub of_page_++ : (v w : List Mapping) → of_page g t (v ++ w) ≡ of_page g t v ++ of_page g t w
  unfolding of_page
  of_page_++ [] w = refl
  of_page_++ (m ∷ v) w =
      same? (translation_page g m.logical) t
      (λ e. rw (eq-eqb (translation_page g m.logical) t e) (ap (λ (l : List Mapping). m ∷ l) (of_page_++ v w)))
      (λ e. rw (ne_eqb (translation_page g m.logical) t e) (of_page_++ v w))

  -- One more mapping is of the page or not.
  module _ (w : List Mapping) (m : Mapping) where
    pub of_page_more : translation_page g m.logical ≡ t → of_page g t (w ++ m ∷ []) ≡ of_page g t w ++ m ∷ []
    unfolding of_page
    of_page_more e = of_page_++ w (m ∷ []) ∙ (rw (eq-eqb (translation_page g m.logical) t e))

    pub of_page_other : translation_page g m.logical ≢ t → of_page g t (w ++ m ∷ []) ≡ of_page g t w
    unfolding of_page
    of_page_other e = of_page_++ w (m ∷ []) ∙ (rw (ne_eqb (translation_page g m.logical) t e) (append-nil (of_page g t w)))
