-- 01, "Sound states": the seven rules, each under its own name, as propositions about any lists whatever.
-- Decisions.antt has the same rules as tests, and Laws/Decided.antt shows the two equal.
use Rattle.std.specs.Prelude.{ℕ, ◌+◌, ◌*◌, ◌≤◌, ◌<◌, ◌≡◌, ◌≢◌, ◌⊎◌, cond, ◌&&◌, List, eqb, ltb}
use Rattle.scope.specs.Counting.{lowest}
use Rattle.scope.specs.Geometry.{Geometry, M}
use Rattle.scope.specs.Lent.{none, erased, valid, invalid, Entry, Place, Nowhere, decode, State, most_protected, word_of, state_of, owner_of, named, logical_at, physical_at, changed_at, translation_page, translation_word}
use Rattle.scope.specs.Regions.{Region, Data, Translation, owners, page_in, HasBlock, HasPage}
use Rattle.scope.specs.SmallRecord.{SmallRecord, open_block, next_offset}

-- Rule 1, of a page. "Each state word is one of the three. Erased pages have owner *none* and only erased words.
-- Other pages have an owner below L (data) or M (translation)."
pub record PageFits (g : Geometry) (r : Region) (chip spare : List ℕ) (p : ℕ) : Type 0 where
  pub one_of_three : (state_of p spare ≡ erased) ⊎ (state_of p spare ≡ valid) ⊎ (state_of p spare ≡ invalid)
  pub no_owner : state_of p spare ≡ erased → owner_of p spare ≡ none
  pub no_words : state_of p spare ≡ erased → (i : ℕ) → i < g.W → word_of g p i chip ≡ erased
  pub owned : state_of p spare ≢ erased → owner_of p spare < owners g r

abbrev pub PagesFit : Geometry → Region → List ℕ → List ℕ → Type 0
PagesFit g r chip spare = (p : ℕ) → HasPage g r p → PageFits g r chip spare p

-- Rule 2. "In a region no two valid pages have the same owner."
abbrev pub OwnersDiffer : Geometry → Region → List ℕ → Type 0
OwnersDiffer g r spare =
    (p q : ℕ) → HasPage g r p → HasPage g r q → state_of p spare ≡ valid → state_of q spare ≡ valid
    → owner_of p spare ≡ owner_of q spare → p ≡ q

-- "Wholly erased"; "has no erased page".
abbrev pub WhollyErased : Geometry → List ℕ → ℕ → Type 0
WhollyErased g spare b = (i : ℕ) → i < g.P → state_of (page_in g b i) spare ≡ erased

abbrev pub Full : Geometry → List ℕ → ℕ → Type 0
Full g spare b = (i : ℕ) → i < g.P → state_of (page_in g b i) spare ≢ erased

-- Rule 3, of a region with its open block and next offset. "Open blocks lie in their regions, offsets in 0 to P. In an open block
-- the pages before the next offset are programmed, the others erased. Every other block is wholly erased or has no erased page.
-- Each region has a wholly erased block besides its open one."
pub record BlocksFit (g : Geometry) (r : Region) (spare : List ℕ) (opened offset : ℕ) : Type 0 where
  pub in_region : HasBlock g r opened
  pub offset_fits : offset ≤ g.P
  pub before_offset : (i : ℕ) → i < offset → state_of (page_in g opened i) spare ≢ erased
  pub from_offset : (i : ℕ) → i < g.P → offset ≤ i → state_of (page_in g opened i) spare ≡ erased
  pub others : (b : ℕ) → HasBlock g r b → b ≢ opened → WhollyErased g spare b ⊎ Full g spare b
  pub besides : (b : ℕ) × HasBlock g r b × (b ≢ opened) × WhollyErased g spare b

-- An entry of a map, of which the owner k of a region is the key: "the valid page with that owner; *none* where there isn't one".
abbrev pub Names : Geometry → Region → List ℕ → ℕ → Entry → Type 0
Names g r spare k (Place p) = HasPage g r p × (state_of p spare ≡ valid) × (owner_of p spare ≡ k)
Names g r spare k Nowhere = (p : ℕ) → HasPage g r p → state_of p spare ≡ valid → owner_of p spare ≢ k

-- Rule 4. "The directory names, for each translation page number, the valid page with that owner; *none* where there isn't one."
abbrev pub DirectoryNames : Geometry → List ℕ → List ℕ → Type 0
DirectoryNames g spare directory = (t : ℕ) → t < M g → Names g Translation spare t (named t directory)

-- Rule 5. "Used entries number at most C, have different logical pages below L and changed 0 or 1; unused entries are *none*
-- throughout."
pub record EntriesFit (g : Geometry) (cache : List ℕ) (used : ℕ) : Type 0 where
  pub at_most : used ≤ g.C
  pub below_L : (i : ℕ) → i < used → logical_at i cache < g.L
  pub different : (i j : ℕ) → i < used → j < used → logical_at i cache ≡ logical_at j cache → i ≡ j
  pub changed_fits : (i : ℕ) → i < used → changed_at i cache ≤ 1
  pub unused : (i : ℕ) → i < g.C → used ≤ i
      → (logical_at i cache ≡ none) × (physical_at i cache ≡ none) × (changed_at i cache ≡ none)

-- Rule 5's last sentence is 02's, P5: "the number of protected entries, at most C/2 and at most the used ones in a sound state".
pub record ProtectedFit (g : Geometry) (r : SmallRecord) : Type 0 where
  pub at_most_half : r.protected ≤ most_protected g
  pub at_most_used : r.protected ≤ r.used

-- The rank of the entry in use that has logical page l; C where l isn't cached.
unfoldable pub rank_of : Geometry → List ℕ → ℕ → ℕ → ℕ
rank_of g cache used l = lowest g.C (λ i. ltb i used && eqb (logical_at i cache) l)

-- What flash holds for l: "the translation page's word, else *none*".
abbrev pub in_page : Geometry → List ℕ → ℕ → Entry → ℕ
in_page g chip l (Place q) = word_of g q (translation_word g l) chip
in_page g chip l Nowhere = none

unfoldable pub stored : Geometry → List ℕ → List ℕ → ℕ → ℕ
stored g chip directory l = in_page g chip l (named (translation_page g l) directory)

-- "The current place of l (the cache's if l is cached, else the translation page's word, else *none*)."
unfoldable pub current : Geometry → State → ℕ → ℕ
current g s l =
    let i = rank_of g s.cache s.small.used l in
    cond (ltb i g.C) (physical_at i s.cache) (stored g s.chip s.directory l)

-- "A logical page is written when its current place is a page."
abbrev pub Written : Geometry → State → ℕ → Type 0
Written g s l = current g s l ≢ none

-- "Words past L are *none*": those of the pages that the directory names.
abbrev pub PastL : Geometry → List ℕ → List ℕ → Type 0
PastL g chip directory =
    (t q i : ℕ) → t < M g → named t directory ≡ Place q → i < g.W → g.L ≤ t * g.W + i → word_of g q i chip ≡ none

-- Rule 6. "The current place of l is the valid data page owned by l, or *none* where there isn't one. Words past L are *none*."
pub record PlacesHold (g : Geometry) (s : State) : Type 0 where
  pub current_place : (l : ℕ) → l < g.L → Names g Data s.spare l (decode (current g s l))
  pub past_L : PastL g s.chip s.directory

-- Rule 7. "An unchanged cached entry equals its translation page's word, or *none* where that page doesn't exist."
abbrev pub UnchangedAgree : Geometry → State → Type 0
UnchangedAgree g s =
    (i : ℕ) → i < g.C → i < s.small.used → changed_at i s.cache ≡ 0
    → physical_at i s.cache ≡ stored g s.chip s.directory (logical_at i s.cache)

-- "A state is sound exactly when all of these hold."
pub record Sound (g : Geometry) (s : State) : Type 0 where
  pub rule_1 : (r : Region) → PagesFit g r s.chip s.spare
  pub rule_2 : (r : Region) → OwnersDiffer g r s.spare
  pub rule_3 : (r : Region) → BlocksFit g r s.spare (open_block r s.small) (next_offset r s.small)
  pub rule_4 : DirectoryNames g s.spare s.directory
  pub rule_5 : EntriesFit g s.cache s.small.used
  pub rule_5_protected : ProtectedFit g s.small
  pub rule_6 : PlacesHold g s
  pub rule_7 : UnchangedAgree g s
