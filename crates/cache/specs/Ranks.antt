-- Where a logical page stands in the cache: what `rank_of` finds, and that by rule 5 it is the page's only entry.
use Rattle.std.specs.Prelude.{ℕ, ◌≤◌, ◌<◌, ◌≡◌, ◌≢◌, Bool, true, ◌&&◌, List, eqb, ltb}
use Rattle.std.proofs.Common.{arith, ◌∙◌, eqb-true, eq-eqb, ltb-true, lt-ltb}
use Rattle.std.proofs.Math.Path.{sym}
use Rattle.flash.specs.Cases.{below?, clash, and_true, true_and}
use Rattle.flash.specs.Searching.{lowest_is, lowest_none, lowest_found}
use Rattle.scope.specs.Geometry.{Geometry}
use Rattle.scope.specs.Lent.{logical_at}
use Rattle.scope.specs.Sound.{EntriesFit, rank_of}

-- The entry at a rank is in use and has logical page l; no entry in use has it.
pub record HasRank (cache : List ℕ) (used l i : ℕ) : Type 0 where
  pub in_use : i < used
  pub is_l : logical_at i cache ≡ l

abbrev pub NotCached : List ℕ → ℕ → ℕ → Type 0
NotCached cache used l = (i : ℕ) → i < used → logical_at i cache ≢ l

abbrev is_it : List ℕ → ℕ → ℕ → ℕ → Bool
is_it cache used l i = ltb i used && eqb (logical_at i cache) l

passes_rank : (cache : List ℕ) (used l i : ℕ) → is_it cache used l i ≡ true → HasRank cache used l i
passes_rank cache used l i e =
    let both = and_true (ltb i used) (eqb (logical_at i cache) l) e in
    record { in_use = ltb-true i used both.0; is_l = eqb-true (logical_at i cache) l both.1 }

rank_passes : (cache : List ℕ) (used l i : ℕ) → i < used → logical_at i cache ≡ l → is_it cache used l i ≡ true
rank_passes cache used l i h e = true_and (lt-ltb i used h) (eq-eqb (logical_at i cache) l e)

module _ (g : Geometry) (cache : List ℕ) (used l : ℕ) where
  pub rank_found : rank_of g cache used l < g.C → HasRank cache used l (rank_of g cache used l)
  unfolding rank_of
  rank_found h = passes_rank cache used l (rank_of g cache used l) (lowest_is g.C (is_it cache used l) h).passes

  pub rank_missing : used ≤ g.C → g.C ≤ rank_of g cache used l → NotCached cache used l
  unfolding rank_of
  rank_missing most h i k e =
      clash (rank_passes cache used l i k e) ((lowest_none g.C (is_it cache used l) h).fails i (omega arith))

  -- The page's entry is the only one.
  pub rank_is : EntriesFit g cache used → (i : ℕ) → i < used → logical_at i cache ≡ l → rank_of g cache used l ≡ i
  unfolding rank_of
  rank_is fits i k e =
      let found = lowest_found g.C (is_it cache used l) i (omega (arith, fits.at_most)) (rank_passes cache used l i k e) in
      let r = passes_rank cache used l (rank_of g cache used l) found.passes in
      fits.different (rank_of g cache used l) i r.in_use k (r.is_l ∙ sym e)

  -- A logical page is cached, at its rank, or not.
  pub cached? {ℓ} : {X : Type ℓ} → used ≤ g.C
      → (HasRank cache used l (rank_of g cache used l) → X) → (NotCached cache used l → X) → X
  cached? most f h = below? (rank_of g cache used l) g.C (λ k. f (rank_found k)) (λ k. h (rank_missing most k))
