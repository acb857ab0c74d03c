-- Entries of three words: the first n words moved back by three, and what stands in front of them then.
use Rattle.std.specs.Prelude.{ℕ, suc, ◌+◌, ◌-◌, ◌*◌, ◌≤◌, ◌<◌, ◌≡◌, refl, Bool, true, false, ◌&&◌, List, [], ◌∷◌, ◌++◌, length, get_or, take, drop, eqb, ltb}
use Rattle.std.proofs.Common.{sym, ap, ◌∙◌, append_assoc, add-one, arith, drop-cons, drop_at, length-take-le, lt-ltb, le-ltb, eq-eqb, ne_eqb}
use Rattle.std.proofs.Math.Bool.{and-false}
use Rattle.std.proofs.Math.Numerals.{add-two}
use Rattle.std.proofs.lemmas.List.Edits.{sets, sets-eq}
use Rattle.std.proofs.Math.Seq.{length-sets}
use Rattle.scope.specs.Counting.{lowest}
use Rattle.scope.specs.Lent.{none, entry_words, logical_at}
use Rattle.flash.specs.Cases.{below?, true_and}
use Rattle.flash.specs.Searching.{lowest_is, lowest_unique}
use Rattle.words.specs.Runs.{get_d_any}
use Rattle.words.specs.Searches.{lowest_fails, lowest_before}

-- Three words stored in front of the moved ones: all that was there, without the three words behind the first n.
pub put_in_front : (l l₁ l₂ : List ℕ) (n a b c : ℕ) → n + entry_words ≤ length l → l₁ ≡ sets l entry_words (take n l) → l₂ ≡ sets l₁ 0 (a ∷ b ∷ c ∷ [])
    → l₂ ≡ a ∷ b ∷ c ∷ (take n l ++ drop (n + entry_words) l)
put_in_front l l₁ l₂ n a b c h shifted stored =
    let end : entry_words + length (take n l) ≡ n + entry_words = omega (arith, length-take-le n l (omega arith)) in
    let moved : sets l entry_words (take n l) ≡ take entry_words l ++ (take n l ++ drop (n + entry_words) l) =
    sets-eq (take n l) l entry_words (omega arith) ∙ (rw end (append_assoc (take entry_words l) (take n l) (drop (n + entry_words) l))) in
    stored
    ∙ ap (λ (x : List ℕ). sets x 0 (a ∷ b ∷ c ∷ [])) shifted
    ∙ sets-eq (a ∷ b ∷ c ∷ []) (sets l entry_words (take n l)) 0 (simp length-sets (omega arith))
    ∙ ap (λ (x : List ℕ). a ∷ b ∷ c ∷ drop entry_words x) moved
    ∙ ap (λ (x : List ℕ). a ∷ b ∷ c ∷ x)
    (drop_at (take entry_words l) (take n l ++ drop (n + entry_words) l) entry_words (length-take-le entry_words l (omega arith)))

-- The three words at a place, read one by one, in front of others.
pub three_read : (l l₁ rest : List ℕ) (i : ℕ) → i + entry_words ≤ length l → l₁ ≡ get_or l i 0 ∷ get_or l (i + 1) 0 ∷ get_or l (i + 2) 0 ∷ rest
    → l₁ ≡ take entry_words (drop i l) ++ rest
three_read l l₁ rest i h e =
    let first : drop i l ≡ get_or l i 0 ∷ drop (suc i) l = drop-cons l i 0 (omega arith) in
    let second : drop (suc i) l ≡ get_or l (suc i) 0 ∷ drop (suc (suc i)) l = drop-cons l (suc i) 0 (omega arith) in
    e ∙ (rw (add-one, add-two, first, second, drop-cons l (suc (suc i)) 0 (omega arith)) refl)

-- ---- a search by logical page

-- Whether rank i is in use and its entry has logical page l.
abbrev pub matches : List ℕ → ℕ → ℕ → ℕ → Bool
matches cache used l i = ltb i used && eqb (logical_at i cache) l

-- An entry's logical page, read at its first word.
module _ (cache : List ℕ) (l i at : ℕ) (is : at ≡ i * entry_words) (inside : at < length cache) where
  read_at : get_or cache at 0 ≡ logical_at i cache
  read_at = ap (λ (k : ℕ). get_or cache k 0) is ∙ get_d_any cache (i * entry_words) 0 none (omega arith)

  pub entry_has : get_or cache at 0 ≡ l → eqb (logical_at i cache) l ≡ true
  entry_has e = eq-eqb (logical_at i cache) l (sym read_at ∙ e)

  pub entry_differs : (get_or cache at 0 ≡ l → ⊥) → eqb (logical_at i cache) l ≡ false
  entry_differs ne = ne_eqb (logical_at i cache) l (λ e. ne (read_at ∙ e))

module _ (cache : List ℕ) (used l i : ℕ) where
  pub match_missed : eqb (logical_at i cache) l ≡ false → matches cache used l i ≡ false
  match_missed h = rw h (and-false (ltb i used))

  pub match_unused : used ≤ i → matches cache used l i ≡ false
  match_unused h = rw (le-ltb i used h) refl

  -- It matches, and none before it does.
  pub first_match : (n : ℕ) → i < used → used ≤ n → eqb (logical_at i cache) l ≡ true → ((k : ℕ) → k < i → matches cache used l k ≡ false)
      → i ≡ lowest n (matches cache used l)
  first_match n h most has before =
      sym (lowest_unique n (matches cache used l) i (record { below = omega arith; passes = true_and (lt-ltb i used h) has; least = before }))

-- k is what a search of the r entries from rank i on found.
module _ (cache : List ℕ) (l i r k : ℕ) (is : k ≡ lowest r (λ j. eqb (logical_at (i + j) cache) l)) where
  abbrev has : ℕ → Bool
  has j = eqb (logical_at (i + j) cache) l

  -- All before it differ.
  passed : (j : ℕ) → i ≤ j → j < i + k → eqb (logical_at j cache) l ≡ false
  passed j from upto =
      let e : i + (j - i) ≡ j = omega arith in
      rw e at (lowest_before r has (j - i) (omega arith))

  pub found_among : k < r → eqb (logical_at (i + k) cache) l ≡ true
  found_among h = rw (← is) at (lowest_is r has (omega arith)).passes

  pub none_among : r ≤ k → (j : ℕ) → i ≤ j → j < i + r → eqb (logical_at j cache) l ≡ false
  none_among h j from upto = passed j from (omega arith)

  -- Where none matches below rank i.
  module _ (used : ℕ) (before : (j : ℕ) → j < i → matches cache used l j ≡ false) where
    none_before : (j : ℕ) → j < i + k → matches cache used l j ≡ false
    none_before j h = below? j i (before j) (λ from. match_missed cache used l j (passed j from h))

    pub match_further : (n : ℕ) → k < r → i + r ≤ used → used ≤ n → i + k ≡ lowest n (matches cache used l)
    match_further n h most fits = first_match cache used l (i + k) n (omega arith) fits (found_among h) none_before

    pub none_further : r ≤ k → (j : ℕ) → j < i + r → matches cache used l j ≡ false
    none_further h j m = none_before j (omega arith)

-- None matches below n where none does among those in use.
pub no_match : (cache : List ℕ) (used l n : ℕ) → ((i : ℕ) → i < used → matches cache used l i ≡ false)
    → lowest n (matches cache used l) ≡ n
no_match cache used l n h = lowest_fails n (matches cache used l) (λ i _. below? i used (h i) (match_unused cache used l i))
