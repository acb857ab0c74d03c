-- Rule 5 in the parts that the code tests: the entries in use one after the other, and the words behind them.
use Prim.Native.Nat.{ℕ, ◌+◌, ◌*◌, ◌-◌, ◌/◌, ◌%◌, ◌≤◌, ◌<◌}
use Rattle.std.proofs.Common.{arith, ◌∙◌, subst, length-drop, ltb-true}
use Rattle.std.specs.Prelude.{◌≡◌, refl, Bool, true, false, not, ◌&&◌, List, ltb, leb, length, drop}
use Rattle.std.proofs.Math.Path.{sym, ap}
use Rattle.std.proofs.Math.ListN.{get_or}
use Rattle.std.proofs.Math.Seq.{get_or-drop}
use Rattle.scope.specs.Counting.{all}
use Rattle.scope.specs.Geometry.{Geometry}
use Rattle.scope.specs.Laws.Decides.{Decides, by_equal, by_below, by_most, by_same, by_and, by_not, by_all, by_some}
use Rattle.scope.specs.Lent.{none, logical_at, physical_at, changed_at, cache_size}
use Rattle.scope.specs.Sound.{EntriesFit}
use Rattle.flash.specs.Cases.{same?, below?, clash, and_true}
use Rattle.lent.specs.Notes.{filter_bits}
use Rattle.words.specs.Erased.{is_erased_word}
use Rattle.words.specs.Bitmap.{has, put}
use Rattle.mapping.specs.Seen.{seen, Seen, seen_more}

-- The entry at rank i has a logical page below l that `before` hasn't taken, and changed 0 or 1.
abbrev pub entry_fits : (ℕ → Bool) → List ℕ → ℕ → ℕ → Bool
entry_fits before cache l i = ltb (logical_at i cache) l && leb (changed_at i cache) 1 && not (before (logical_at i cache))

-- So have the first n, and no page is that of an entry before it.
abbrev pub used_fit : List ℕ → ℕ → ℕ → Bool
used_fit cache l n = all n (λ i. entry_fits (seen cache i) cache l i)

-- The words behind the entries in use.
abbrev pub behind : List ℕ → ℕ → List ℕ
behind cache used = drop (used * 3) cache

pub too_many : (g : Geometry) (cache : List ℕ) (used : ℕ) → g.C < used → Decides false (EntriesFit g cache used)
too_many g cache used h = record { holds = λ p. clash p refl; passes = λ f. absurd (omega (arith, f.at_most)) }

module _ (g : Geometry) (cache : List ℕ) (used : ℕ) (most : used ≤ g.C) (long : length cache ≡ cache_size g) where
  UsedFit : Type 0
  UsedFit =
      (i : ℕ) → i < used
      → ((logical_at i cache < g.L) × (changed_at i cache ≤ 1)) × (((j : ℕ) × (j < i) × (logical_at j cache ≡ logical_at i cache)) → ⊥)

  NoneBehind : Type 0
  NoneBehind = (k : ℕ) → k < length (behind cache used) → get_or (behind cache used) k none ≡ none

  -- Word e of the entry of rank i is the word (i - used) * 3 + e of those behind.
  entry_word : (i e : ℕ) → used ≤ i → get_or (behind cache used) ((i - used) * 3 + e) none ≡ get_or cache (i * 3 + e) none
  entry_word i e h =
      get_or-drop (used * 3) cache ((i - used) * 3 + e) none
      ∙ ap (λ (k : ℕ). get_or cache k none) (omega arith)

  behind_length : length (behind cache used) ≡ (g.C - used) * 3
  behind_length = length-drop (used * 3) cache ∙ omega arith

  unused_words : NoneBehind → (i : ℕ) → i < g.C → used ≤ i
      → (logical_at i cache ≡ none) × (physical_at i cache ≡ none) × (changed_at i cache ≡ none)
  unfolding NoneBehind
  unused_words h i k l =
      let at : (e : ℕ) → e < 3 → get_or cache (i * 3 + e) none ≡ none =
      λ e m. sym (entry_word i e l) ∙ h ((i - used) * 3 + e) (omega (arith, behind_length)) in
      (subst (λ (x : ℕ). get_or cache x none ≡ none) (omega arith) (at 0 (omega arith)), at 1 (omega arith), at 2 (omega arith))

  words_unused : ((i : ℕ) → i < g.C → used ≤ i
      → (logical_at i cache ≡ none) × (physical_at i cache ≡ none) × (changed_at i cache ≡ none)) → NoneBehind
  unfolding NoneBehind
  words_unused h k l =
      let i : ℕ = used + k / 3 in
      let u = h i (omega (arith, behind_length)) (omega arith) in
      let at : (e : ℕ) → k % 3 ≡ e → get_or cache (i * 3 + e) none ≡ none → get_or (behind cache used) k none ≡ none =
      λ e m v. get_or-drop (used * 3) cache k none ∙ ap (λ (x : ℕ). get_or cache x none) (omega arith) ∙ v in
      same? (k % 3) 0 (λ m. at 0 m (subst (λ (x : ℕ). get_or cache x none ≡ none) (omega arith) u.0))
      (λ m. same? (k % 3) 1 (λ n. at 1 n u.1)
      (λ n. at 2 (omega arith) u.2))

  parts_decide : Decides
      (used_fit cache g.L used && all (length (behind cache used)) (is_erased_word (behind cache used)))
      (UsedFit × NoneBehind)
  unfolding UsedFit NoneBehind
  parts_decide =
      by_and
      (by_all used (λ i. by_and
      (by_and (by_below (logical_at i cache) g.L) (by_most (changed_at i cache) 1))
      (by_not (by_some i (λ j. by_equal (logical_at j cache) (logical_at i cache))))))
      (by_all (length (behind cache used)) (λ k. by_equal (get_or (behind cache used) k none) none))

  -- Of two ranks the higher one first, for the pairs of rule 5.
  all_differ : UsedFit → (i j : ℕ) → i < used → j < used → logical_at i cache ≡ logical_at j cache → i ≡ j
  unfolding UsedFit
  all_differ h i j hi hj e =
      below? i j (λ l. absurd ((h j hj).1 (i, l, e))) (λ l. below? j i (λ m. absurd ((h i hi).1 (j, m, sym e))) (λ m. omega arith))

  pub entries_by_parts : Decides
      (used_fit cache g.L used && all (length (behind cache used)) (is_erased_word (behind cache used)))
      (EntriesFit g cache used)
  unfolding UsedFit
  entries_by_parts =
      by_same
      (λ x. record {
        at_most = most;
        below_L = λ i h. (x.0 i h).0.0;
        different = all_differ x.0;
        changed_fits = λ i h. (x.0 i h).0.1;
        unused = unused_words x.1;
      })
      (λ f. (
        λ i h. ((f.below_L i h, f.changed_fits i h), λ e. omega (arith, f.different e.0 i (omega (arith, e.1)) h e.2)),
        words_unused f.unused,
      ))
      parts_decide

-- A walk over the entries in use that stops at the first which doesn't fit.
module _ (cache : List ℕ) (l i : ℕ) (filter : List ℕ) (before : Seen cache i filter) where
  -- What the filter tells of entry i is what the entries before it tell.
  pub fits_seen : entry_fits (has filter) cache l i ≡ entry_fits (seen cache i) cache l i
  fits_seen = ap (λ (b : Bool). ltb (logical_at i cache) l && leb (changed_at i cache) 1 && not b) (before.pages (logical_at i cache))

  pub fits_noted : (filter' : List ℕ) → l ≤ filter_bits → entry_fits (has filter) cache l i ≡ true → filter' ≡ put filter (logical_at i cache)
      → Seen cache (i + 1) filter'
  fits_noted filter' few fits is =
      let both = (and_true (ltb (logical_at i cache) l && leb (changed_at i cache) 1) (not (has filter (logical_at i cache))) fits).0 in
      let below = ltb-true (logical_at i cache) l (and_true (ltb (logical_at i cache) l) (leb (changed_at i cache) 1) both).0 in
      rw is (seen_more cache i filter (omega arith) before)
