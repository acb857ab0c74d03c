-- The seven rules of Sound.antt as tests, in the same order and under the same names in small letters. The calls branch on these;
-- theorems speak of the propositions.
use Rattle.std.specs.Prelude.{ℕ, ◌+◌, ◌*◌, Bool, true, not, cond, ◌&&◌, ◌||◌, List, eqb, ltb, leb}
use Rattle.scope.specs.Counting.{all, some}
use Rattle.scope.specs.Geometry.{Geometry, M}
use Rattle.scope.specs.Lent.{none, erased, valid, invalid, Entry, Place, Nowhere, decode, State, most_protected, word_of, state_of, owner_of, is_erased, is_valid, named, logical_at, physical_at, changed_at}
use Rattle.scope.specs.Regions.{Region, Data, Translation, first_block, region_blocks, first_page, region_pages, owners, page_in}
use Rattle.scope.specs.SmallRecord.{SmallRecord, open_block, next_offset}
use Rattle.scope.specs.Blocks.{wholly_erased, no_erased_page}
use Rattle.scope.specs.Sound.{stored, current}

-- Every page of a region; every block of a region; some block of it; a page of it.
abbrev pub each_page : Geometry → Region → (ℕ → Bool) → Bool
each_page g r f = all (region_pages g r) (λ i. f (first_page g r + i))

abbrev pub each_block : Geometry → Region → (ℕ → Bool) → Bool
each_block g r f = all (region_blocks g r) (λ i. f (first_block g r + i))

abbrev pub some_block : Geometry → Region → (ℕ → Bool) → Bool
some_block g r f = some (region_blocks g r) (λ i. f (first_block g r + i))

abbrev pub has_block : Geometry → Region → ℕ → Bool
has_block g r b = leb (first_block g r) b && ltb b (first_block g r + region_blocks g r)

abbrev pub has_page : Geometry → Region → ℕ → Bool
has_page g r p = leb (first_page g r) p && ltb p (first_page g r + region_pages g r)

-- Rule 1.
unfoldable pub page_fits : Geometry → Region → List ℕ → List ℕ → ℕ → Bool
page_fits g r chip spare p =
    (eqb (state_of p spare) erased || (eqb (state_of p spare) valid || eqb (state_of p spare) invalid))
    && cond (is_erased p spare)
    (eqb (owner_of p spare) none && all g.W (λ i. eqb (word_of g p i chip) erased))
    (ltb (owner_of p spare) (owners g r))

unfoldable pub pages_fit : Geometry → Region → List ℕ → List ℕ → Bool
pages_fit g r chip spare = each_page g r (page_fits g r chip spare)

-- Rule 2: of any two pages, once each.
unfoldable pub owners_differ : Geometry → Region → List ℕ → Bool
owners_differ g r spare =
    all (region_pages g r) (λ i. all i (λ j. not
    (is_valid (first_page g r + i) spare
    && is_valid (first_page g r + j) spare
    && eqb (owner_of (first_page g r + i) spare) (owner_of (first_page g r + j) spare))))

-- Rule 3.
unfoldable pub blocks_fit : Geometry → Region → List ℕ → ℕ → ℕ → Bool
blocks_fit g r spare opened offset =
    has_block g r opened
    && leb offset g.P
    && all g.P (λ i. cond (ltb i offset) (not (is_erased (page_in g opened i) spare)) (is_erased (page_in g opened i) spare))
    && each_block g r (λ b. eqb b opened || (wholly_erased g spare b || no_erased_page g spare b))
    && some_block g r (λ b. not (eqb b opened) && wholly_erased g spare b)

-- "The valid page with that owner; *none* where there isn't one."
abbrev pub names : Geometry → Region → List ℕ → ℕ → Entry → Bool
names g r spare k (Place p) = has_page g r p && is_valid p spare && eqb (owner_of p spare) k
names g r spare k Nowhere = each_page g r (λ p. not (is_valid p spare) || not (eqb (owner_of p spare) k))

-- Rule 4.
unfoldable pub directory_names : Geometry → List ℕ → List ℕ → Bool
directory_names g spare directory = all (M g) (λ t. names g Translation spare t (named t directory))

-- Rule 5.
unfoldable pub entries_fit : Geometry → List ℕ → ℕ → Bool
entries_fit g cache used =
    leb used g.C
    && all g.C (λ i. cond (ltb i used)
    (ltb (logical_at i cache) g.L && leb (changed_at i cache) 1
    && all i (λ j. not (eqb (logical_at j cache) (logical_at i cache))))
    (eqb (logical_at i cache) none && eqb (physical_at i cache) none && eqb (changed_at i cache) none))

-- Its last sentence.
unfoldable pub protected_fit : Geometry → SmallRecord → Bool
protected_fit g r = leb r.protected (most_protected g) && leb r.protected r.used

-- Rule 6.
abbrev pub none_past_L : Geometry → List ℕ → ℕ → Entry → Bool
none_past_L g chip t (Place q) = all g.W (λ i. not (leb g.L (t * g.W + i)) || eqb (word_of g q i chip) none)
none_past_L g chip t Nowhere = true

unfoldable pub places_hold : Geometry → State → Bool
places_hold g s =
    all g.L (λ l. names g Data s.spare l (decode (current g s l)))
    && all (M g) (λ t. none_past_L g s.chip t (named t s.directory))

-- Rule 7.
unfoldable pub unchanged_agree : Geometry → State → Bool
unchanged_agree g s =
    all g.C (λ i. not (ltb i s.small.used) || (not (eqb (changed_at i s.cache) 0)
    || eqb (physical_at i s.cache) (stored g s.chip s.directory (logical_at i s.cache))))

-- All seven.
unfoldable pub sound : Geometry → State → Bool
sound g s =
    (pages_fit g Data s.chip s.spare && pages_fit g Translation s.chip s.spare)
    && (owners_differ g Data s.spare && owners_differ g Translation s.spare)
    && (blocks_fit g Data s.spare (open_block Data s.small) (next_offset Data s.small)
    && blocks_fit g Translation s.spare (open_block Translation s.small) (next_offset Translation s.small))
    && directory_names g s.spare s.directory
    && (entries_fit g s.cache s.small.used && protected_fit g s.small)
    && places_hold g s
    && unchanged_agree g s
