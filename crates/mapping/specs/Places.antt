-- Rule 6 by counts. The current places of all logical pages are what flash stores, but for the cached pages: there the words that flash
-- stores are hidden, and the places that the cache has stand. So each count over the current places is the count over flash, with the
-- hidden words out and the cache's places in; and by Named.antt the counts decide the rule.
use Rattle.std.specs.Prelude.{ℕ, ◌+◌, ◌*◌, ◌≤◌, ◌<◌, ◌≡◌, refl, Bool, true, false, not, ◌&&◌, eqb, ltb}
use Rattle.std.proofs.Common.{zero-mul, arith, sym, ap, ◌∙◌, subst, ltb-true, lt-ltb, eqb-true, eq-eqb}
use Rattle.scope.specs.Counting.{count}
use Rattle.scope.specs.Geometry.{Geometry, Accepted}
use Rattle.scope.specs.Laws.Decides.{Decides, by_same}
use Rattle.scope.specs.Lent.{State, decode, logical_at, physical_at}
use Rattle.scope.specs.Regions.{Data}
use Rattle.scope.specs.Sound.{OwnersDiffer, Names, EntriesFit, PlacesHold, PastL, rank_of, stored, current}
use Rattle.flash.specs.Bounded.{accepted_bounded, region_few}
use Rattle.flash.specs.Cases.{on, clash, and_true, true_and}
use Rattle.flash.specs.Counting.{count_same, count_split, count_into}
use Rattle.flash.specs.Tests.{same_test}
use Rattle.flash.specs.Owners.{OwnersFit, valid_in}
use Rattle.cache.specs.Ranks.{rank_found, rank_is}
use Rattle.mapping.specs.Named.{owns, is_none, by_counts}
use Rattle.mapping.specs.Tally.{nothing, Tallied}
use Rattle.mapping.specs.Translated.{stored_none, stored_good, cached_none, cached_good, hidden_none, hidden_good}
use Rattle.mapping.specs.declared.tally.Tally.{Tally}

-- The two halves of the rule, the first with rule 2 of the data region.
abbrev pub CurrentPlaces : Geometry → State → Type 0
CurrentPlaces g s =
    OwnersDiffer g Data s.spare × ((l : ℕ) → l < g.L → Names g Data s.spare l (decode (current g s l)))

-- Where the first fails the rules do; where it holds the second tells.
module _ {a : Bool} (g : Geometry) (s : State) (first : Decides a (CurrentPlaces g s)) where
  pub first_fails : a ≡ false → Decides a (OwnersDiffer g Data s.spare × PlacesHold g s)
  first_fails p = record { holds = λ q. clash q p; passes = λ x. first.passes (x.0, x.1.current_place) }

  pub second_tells : {b : Bool} → a ≡ true → Decides b (PastL g s.chip s.directory)
      → Decides b (OwnersDiffer g Data s.spare × PlacesHold g s)
  second_tells p second =
      let both = first.holds p in
      by_same (λ x. (both.0, record { current_place = both.1; past_L = x })) (λ f. f.1.past_L) second

module _ (g : Geometry) (s : State) (fits : EntriesFit g s.cache s.small.used) where
  abbrev rank : ℕ → ℕ
  rank l = rank_of g s.cache s.small.used l

  abbrev cached : ℕ → Bool
  cached l = ltb (rank l) g.C

  abbrev key : ℕ → ℕ
  key i = logical_at i s.cache

  abbrev stored_here : ℕ → ℕ
  stored_here l = stored g s.chip s.directory l

  -- A test of the cached pages, page by page and rank by rank.
  by_rank : (p q : ℕ → Bool) → ((l : ℕ) → rank l < g.C → p l ≡ q (rank l))
      → count g.L (λ l. p l && cached l) ≡ count s.small.used q
  by_rank p q same =
      let found : (l : ℕ) → (p l && cached l) ≡ true → rank l < g.C =
      λ l h. ltb-true (rank l) g.C (and_true (p l) (cached l) h).1 in
      let up : count g.L (λ l. p l && cached l) ≤ count s.small.used q =
      count_into g.L s.small.used (λ l. p l && cached l) q rank
      (λ l k h. (
        (rank_found g s.cache s.small.used l (found l h)).in_use,
        sym (same l (found l h)) ∙ (and_true (p l) (cached l) h).0,
      ))
      (λ i j k l h m e.
      sym (rank_found g s.cache s.small.used i (found i h)).is_l
      ∙ ap key e ∙ (rank_found g s.cache s.small.used j (found j m)).is_l) in
      let down : count s.small.used q ≤ count g.L (λ l. p l && cached l) =
      count_into s.small.used g.L q (λ l. p l && cached l) key
      (λ i k h.
      let is : rank (key i) ≡ i = rank_is g s.cache s.small.used (key i) fits i k refl in
      let here : rank (key i) < g.C = omega (arith, fits.at_most) in
      (fits.below_L i k, true_and (same (key i) here ∙ ap q is ∙ h) (lt-ltb (rank (key i)) g.C here)))
      (λ i j k l h m e. fits.different i j k l e) in
      omega arith

  current_cached : (l : ℕ) → rank l < g.C → current g s l ≡ physical_at (rank l) s.cache
  unfolding current
  current_cached l h = rw (lt-ltb (rank l) g.C h)

  current_stored : (l : ℕ) → cached l ≡ false → current g s l ≡ stored_here l
  unfolding current
  current_stored l h = rw h

  -- A count over the current places, with the hidden words, is the one over flash, with the cache's places.
  pub exchanged : (test : ℕ → ℕ → Bool)
      → count g.L (λ l. test l (current g s l)) + count s.small.used (λ i. test (key i) (stored_here (key i)))
      ≡ count g.L (λ l. test l (stored_here l)) + count s.small.used (λ i. test (key i) (physical_at i s.cache))
  exchanged test =
      let now : ℕ → Bool = λ l. test l (current g s l) in
      let flash : ℕ → Bool = λ l. test l (stored_here l) in
      let at_rank : (l : ℕ) → rank l < g.C → key (rank l) ≡ l = λ l h. (rank_found g s.cache s.small.used l h).is_l in
      let places : count g.L (λ l. now l && cached l) ≡ count s.small.used (λ i. test (key i) (physical_at i s.cache)) =
      by_rank now (λ i. test (key i) (physical_at i s.cache))
      (λ l h. ap (test l) (current_cached l h) ∙ ap (λ (k : ℕ). test k (physical_at (rank l) s.cache)) (sym (at_rank l h))) in
      let hides : count g.L (λ l. flash l && cached l) ≡ count s.small.used (λ i. test (key i) (stored_here (key i))) =
      by_rank flash (λ i. test (key i) (stored_here (key i)))
      (λ l h. ap (λ (k : ℕ). test k (stored_here k)) (sym (at_rank l h))) in
      let rest : count g.L (λ l. now l && not (cached l)) ≡ count g.L (λ l. flash l && not (cached l)) =
      count_same g.L (λ l. now l && not (cached l)) (λ l. flash l && not (cached l)) (λ l k.
      on (cached l) (λ h. rw h (and_none (now l) (flash l)))
      (λ h. ap (λ (b : Bool). b && not (cached l)) (ap (test l) (current_stored l h)))) in
      omega (arith, count_split g.L now cached, count_split g.L flash cached)
    where
      and_none : (a b : Bool) → a && false ≡ b && false
      and_none true true = refl
      and_none true false = refl
      and_none false true = refl
      and_none false false = refl

-- The sums that are compared: of the counts over flash, over the cache's places and over what it hides, of all logical pages, and of the
-- valid data pages.
abbrev pub sums_agree : Tally → Tally → Tally → ℕ → ℕ → Bool
sums_agree held has hides pages valid =
    eqb (held.nones + has.nones + (held.good + has.good)) (pages + hides.nones + hides.good)
    && eqb (held.good + has.good) (valid + hides.good)

-- With x + a ≡ b and y + c ≡ d: x and y are all of l, and y is v, exactly where these agree.
sums_tell : (x y l v a b c d : ℕ) → x + a ≡ b → y + c ≡ d → (eqb (x + y) l && eqb y v) ≡ (eqb (b + d) (l + a + c) && eqb d (v + c))
sums_tell x y l v a b c d e f =
    same_test (eqb (x + y) l && eqb y v) (eqb (b + d) (l + a + c) && eqb d (v + c))
    (λ h.
    let both = and_true (eqb (x + y) l) (eqb y v) h in
    let p = eqb-true (x + y) l both.0 in
    let q = eqb-true y v both.1 in
    true_and (eq-eqb (b + d) (l + a + c) (omega arith)) (eq-eqb d (v + c) (omega arith)))
    (λ h.
    let both = and_true (eqb (b + d) (l + a + c)) (eqb d (v + c)) h in
    let p = eqb-true (b + d) (l + a + c) both.0 in
    let q = eqb-true d (v + c) both.1 in
    true_and (eq-eqb (x + y) l (omega arith)) (eq-eqb y v (omega arith)))

module _ (g : Geometry) (s : State) (ok : Accepted g) (fit : OwnersFit g Data s.spare)
    (entries : EntriesFit g s.cache s.small.used) (held has hides : Tally) (valid : ℕ)
    (of_flash : Tallied nothing held g.L (stored_none g s.chip s.directory) (stored_good g s.chip s.spare s.directory))
    (of_cache : Tallied nothing has s.small.used (cached_none s.cache) (cached_good (g.D * g.P) s.cache s.spare))
    (of_hidden : Tallied nothing hides s.small.used (hidden_none g s.chip s.directory s.cache)
    (hidden_good g s.chip s.spare s.directory s.cache))
    (of_pages : valid ≡ valid_in g Data s.spare) where
  pub places_by_sums : Decides (sums_agree held has hides g.L valid) (CurrentPlaces g s)
  places_by_sums =
      let at_zero : 0 * g.P ≡ 0 = zero-mul g.P in
      let nones_now : ℕ = count g.L (λ l. is_none (current g s l)) in
      let good_now : ℕ = count g.L (λ l. owns 0 (g.D * g.P) s.spare l (current g s l)) in
      let nones_sum : nones_now + hides.nones ≡ held.nones + has.nones =
      omega (arith, exchanged g s entries (λ l x. is_none x), of_flash.nones_more, of_cache.nones_more, of_hidden.nones_more) in
      let good_sum : good_now + hides.good ≡ held.good + has.good =
      omega (arith, exchanged g s entries (λ l x. owns 0 (g.D * g.P) s.spare l x), of_flash.good_more, of_cache.good_more, of_hidden.good_more) in
      subst (λ (b : Bool). Decides b (CurrentPlaces g s))
      (sums_tell nones_now good_now g.L valid hides.nones (held.nones + has.nones) hides.good (held.good + has.good) nones_sum good_sum)
      (subst (λ (n : ℕ). Decides (eqb (nones_now + good_now) g.L && eqb good_now n) (CurrentPlaces g s)) (sym of_pages)
      (subst
      (λ (first : ℕ). Decides
      (eqb (nones_now + count g.L (λ l. owns first (g.D * g.P) s.spare l (current g s l))) g.L
      && eqb (count g.L (λ l. owns first (g.D * g.P) s.spare l (current g s l))) (valid_in g Data s.spare))
      (CurrentPlaces g s))
      at_zero
      (by_counts g Data s.spare (region_few (accepted_bounded ok) Data) (current g s) fit)))
