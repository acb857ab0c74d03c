-- What the leaves do to the cache is what 01's steps do.
use Rattle.std.specs.Prelude.{ℕ, suc, ◌+◌, ◌-◌, ◌*◌, ◌≤◌, ◌<◌, ◌≡◌, ◌≢◌, List, [], ◌∷◌, ◌++◌, eqb, ltb, length, take, drop}
use Rattle.std.proofs.Math.Path.{refl, sym}
use Rattle.std.proofs.Common.{ap, ◌∙◌, append-nil, add-one, arith, length-drop, eqb-true, ltb-true, lt-ltb, le-ltb}
use borrow.Author.Rules.{part_to_end}
use Rattle.std.proofs.lemmas.List.Edits.{sets}
use Rattle.std.proofs.Math.Seq.{drop-length}
use Rattle.scope.specs.Geometry.{Geometry}
use Rattle.scope.specs.SmallRecord.{with_used, with_protected}
use Rattle.scope.specs.Lent.{none, entry_words, cache_size, most_protected, logical_at}
use Rattle.scope.specs.Sound.{rank_of}
use Rattle.scope.specs.Cache.{entry_at, without, protected_after, touch, enter, forget, set_entry}
use Rattle.flash.specs.Cases.{and_true, is_false}
use Rattle.flash.specs.Stores.{getD_sets_outside}
use Rattle.cache.specs.Entries.{placed}
use Rattle.cache.specs.Ranks.{NotCached, cached?}
use Rattle.lent.specs.declared.Work.{Work}
use Rattle.lent.specs.Model.{small, counts}
use Rattle.lent.specs.DoesLaws.{does_ends, cache_same, does_give, does_look, does_bind, does_set_cache, does_set_small}
use Rattle.lent.specs.Shapes.{DoesCache}
use Rattle.words.specs.Searches.{lowest_fails}

-- A cache of the right size, with no more entries in use than it has.
pub record CacheLent (g : Geometry) (cache : List ℕ) (used : ℕ) : Type 0 where
  pub cache_fits : length cache ≡ cache_size g
  pub used_to : used ≤ g.C

-- "Different logical pages": the entries in use have.
abbrev pub Different : List ℕ → ℕ → Type 0
Different cache used = (i j : ℕ) → i < used → j < used → logical_at i cache ≡ logical_at j cache → i ≡ j

-- No entry from rank i on, and before n, has logical page l.
abbrev pub NoneHas : ℕ → ℕ → ℕ → List ℕ → Type 0
NoneHas l i n cache = (k : ℕ) → i ≤ k → k < n → logical_at k cache ≢ l

-- Another place for the entry at rank i leaves them.
pub different_placed : (cache : List ℕ) {used : ℕ} → Different cache used → (i place : ℕ) → Different (placed i place cache) used
different_placed cache different i place a b in_use_a in_use_b e = different a b in_use_a in_use_b (sym (same a) ∙ e ∙ same b)
  where
    same : (j : ℕ) → logical_at j (placed i place cache) ≡ logical_at j cache
    same j = getD_sets_outside cache (i * entry_words + 1) (place ∷ 1 ∷ []) (j * entry_words) none (λ k m q. omega arith)

-- The entry of a logical page is the only one, so that its rank is the one that was found; where none is found, C is.
module _ (g : Geometry) (cache : List ℕ) {used : ℕ} (l : ℕ) (most : used ≤ g.C) where
  pub rank_only : Different cache used → (i : ℕ) → i < used → logical_at i cache ≡ l → rank_of g cache used l ≡ i
  rank_only different i h e =
      cached? g cache used l most
      (λ found. different (rank_of g cache used l) i found.in_use h (found.is_l ∙ sym e))
      (λ not. absurd (not i h e))

  pub rank_none : NotCached cache used l → rank_of g cache used l ≡ g.C
  unfolding rank_of
  rank_none not =
      lowest_fails g.C _ (λ i h. is_false _ (λ p.
      let q = and_true (ltb i used) (eqb (logical_at i cache) l) p in
      absurd (not i (ltb-true i used q.0) (eqb-true (logical_at i cache) l q.1))))

-- The part of the cache from a word on, stored anew with an entry in front: nothing stands behind it.
pub part_entered : (cache : List ℕ) (a k : ℕ) {cache' part : List ℕ} {l place : ℕ}
    → part ≡ l ∷ place ∷ 0 ∷ without k (take (length cache - a) (drop a cache))
    → cache' ≡ take a cache ++ (part ++ drop (length cache - a) (drop a cache))
    → cache' ≡ take a cache ++ (l ∷ place ∷ 0 ∷ without k (drop a cache))
part_entered cache a k {cache'} {part} {l} {place} entered back =
    back
    ∙ ap (λ (rest : List ℕ). take a cache ++ (part ++ rest)) none_behind
    ∙ ap (λ (words : List ℕ). take a cache ++ words) (append-nil part ∙ entered
    ∙ ap (λ (words : List ℕ). l ∷ place ∷ 0 ∷ without k words) (part_to_end cache a))
  where
    none_behind : drop (length cache - a) (drop a cache) ≡ []
    none_behind = ap (λ (n : ℕ). drop n (drop a cache)) (sym (length-drop a cache)) ∙ drop-length (drop a cache)

-- How many are protected after a hit at rank i, by the code's two tests.
module _ (g : Geometry) (i n : ℕ) where
  pub hit_in_protected : i < n → n ≡ protected_after g i n
  hit_in_protected h = rw (lt-ltb i n h) refl

  pub hit_below_limit : n ≤ i → n < most_protected g → n + 1 ≡ protected_after g i n
  hit_below_limit h k = rw (le-ltb i n h, le-ltb (most_protected g) (suc n) (omega arith)) (omega arith)

  pub hit_at_limit : n ≤ i → most_protected g ≤ n → n ≡ protected_after g i n
  hit_at_limit h k = rw (le-ltb i n h, lt-ltb (most_protected g) (suc n) (omega arith)) (omega arith)

module _ {cache cache' : List ℕ} where
  pub set_entry_does : (i place : ℕ) {w : Work} → cache' ≡ sets cache (i * entry_words + 1) (place ∷ 1 ∷ [])
      → DoesCache (set_entry i place) cache w tt cache' w
  unfolding set_entry
  set_entry_does i place e s = does_ends (does_set_cache _) (cache_same s (sym e) refl) refl

  module _ {w w' : Work} (counting : w'.counts ≡ w.counts) where
    pub touch_does : (g : Geometry) (i : ℕ) → cache' ≡ entry_at i cache ++ without i cache
        → small w'.rec ≡ with_protected (protected_after g i w.rec.protected) (small w.rec)
        → DoesCache (touch g i) cache w 0 cache' w'
    unfolding touch
    touch_does g i e after s =
        does_ends (does_bind _ (does_set_cache _) (does_bind _ (does_set_small _) (does_give 0))) (cache_same s (sym e) (sym after))
        (ap counts (sym counting))

    pub enter_does : (l place : ℕ)
        → cache' ≡ take (w.rec.protected * entry_words) cache
        ++ (l ∷ place ∷ 0 ∷ without (w.rec.used - w.rec.protected) (drop (w.rec.protected * entry_words) cache))
        → small w'.rec ≡ with_used (w.rec.used + 1) (small w.rec) → DoesCache (enter l place) cache w w.rec.protected cache' w'
    unfolding enter
    enter_does l place e more s =
        does_ends (does_bind _ (does_set_cache _) (does_bind _ (does_set_small _) (does_look _)))
        (cache_same s (sym e)
        (ap (λ (n : ℕ). with_used n (small w.rec)) (sym (add-one w.rec.used)) ∙ sym more))
        (ap counts (sym counting))

    pub forget_does : (i : ℕ) → cache' ≡ sets cache (i * entry_words) (none ∷ none ∷ none ∷ [])
        → small w'.rec ≡ with_used (w.rec.used - 1) (small w.rec) → DoesCache (forget i) cache w tt cache' w'
    unfolding forget
    forget_does i e less s =
        does_ends (does_bind _ (does_set_cache _) (does_set_small _)) (cache_same s (sym e) (sym less))
        (ap counts (sym counting))
