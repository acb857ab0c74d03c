-- A list of words as the map of a region's owners: with rule 2 of the region it is decided by the counts of its words and of the region's
-- valid pages. For the translation region and the directory that is rule 4.
use Rattle.std.specs.Prelude.{ℕ, ◌+◌, ◌<◌, ◌≡◌, Bool, ◌&&◌, List, eqb, length, get_or}
use Rattle.std.proofs.Common.{zero-add, ap, ◌∙◌}
use Rattle.scope.specs.Counting.{count}
use Rattle.scope.specs.Geometry.{Geometry, Accepted}
use Rattle.scope.specs.Laws.Decides.{Decides}
use Rattle.scope.specs.Lent.{none, named}
use Rattle.scope.specs.Regions.{Region, owners, first_page, region_pages}
use Rattle.scope.specs.Sound.{OwnersDiffer, Names}
use Rattle.flash.specs.Bounded.{accepted_bounded, region_few}
use Rattle.flash.specs.Counting.{count_same}
use Rattle.flash.specs.Owners.{OwnersFit, valid_in}
use Rattle.mapping.specs.Named.{by_counts, owns}
use Rattle.mapping.specs.Tally.{word_none, word_good}

-- The words are *none* or good, and of these there are as many as valid pages.
abbrev pub map_names : ℕ → ℕ → ℕ → List ℕ → List ℕ → Bool
map_names first n valid spare map =
    eqb (count (length map) (word_none map) + count (length map) (word_good map 0 spare first n)) (length map)
    && eqb (count (length map) (word_good map 0 spare first n)) valid

module _ (g : Geometry) (r : Region) (spare map : List ℕ) (ok : Accepted g) (fit : OwnersFit g r spare) (long : length map ≡ owners g r) where
  good_is : count (length map) (word_good map 0 spare (first_page g r) (region_pages g r))
      ≡ count (owners g r) (λ k. owns (first_page g r) (region_pages g r) spare k (get_or map k none))
  good_is =
      ap (λ (n : ℕ). count n (word_good map 0 spare (first_page g r) (region_pages g r))) long
      ∙ count_same (owners g r) _ _ (λ i h. ap (λ (k : ℕ). owns (first_page g r) (region_pages g r) spare k (get_or map i none)) (zero-add i))

  pub map_decided : (valid : ℕ) → valid ≡ valid_in g r spare
      → Decides (map_names (first_page g r) (region_pages g r) valid spare map)
      (OwnersDiffer g r spare × ((k : ℕ) → k < owners g r → Names g r spare k (named k map)))
  map_decided valid e = rw (good_is, long, e) (by_counts g r spare (region_few (accepted_bounded ok) r) (λ k. get_or map k none) fit)
