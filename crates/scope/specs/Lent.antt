-- 01, "What is lent": the lists of words that a caller lends, what stands where in them, and what a word means.
-- Every list may have any length and any words: a place past its end reads as *none*, and a word stored there is lost.
use Rattle.std.specs.Prelude.{ℕ, ◌+◌, ◌*◌, ◌/◌, ◌%◌, Bool, cond, List, [], ◌∷◌, eqb, get_or, set, take, drop, replicate}
use Rattle.std.proofs.lemmas.List.Edits.{sets}
use Rattle.scope.specs.Geometry.{Geometry, M, pages}
use Rattle.scope.specs.SmallRecord.{SmallRecord}

-- "*none* and the erased word are both 4,294,967,295."
abbrev pub none : ℕ
none = 4294967295

abbrev pub erased : ℕ
erased = 4294967295

-- "State is erased 4,294,967,295, valid 65,535 or invalid 0."
abbrev pub valid : ℕ
valid = 65535

abbrev pub invalid : ℕ
invalid = 0

-- "An entry is a page number or *none*."
pub data Entry : Type 0 where
  Place : ℕ → Entry
  Nowhere : Entry

abbrev pub decode : ℕ → Entry
decode x = cond (eqb x none) Nowhere (Place x)

-- The five lent parts that a call hands on to the next.
pub record State : Type 0 where
  pub chip : List ℕ
  pub spare : List ℕ
  pub directory : List ℕ
  pub cache : List ℕ
  pub small : SmallRecord

-- The state with one of its parts replaced.
abbrev pub with_flash : List ℕ → List ℕ → State → State
with_flash chip spare s =
    record { chip = chip; spare = spare; directory = s.directory; cache = s.cache; small = s.small }

abbrev pub with_directory : List ℕ → State → State
with_directory directory s =
    record { chip = s.chip; spare = s.spare; directory = directory; cache = s.cache; small = s.small }

abbrev pub with_cache : List ℕ → State → State
with_cache cache s =
    record { chip = s.chip; spare = s.spare; directory = s.directory; cache = cache; small = s.small }

abbrev pub with_small : SmallRecord → State → State
with_small small s =
    record { chip = s.chip; spare = s.spare; directory = s.directory; cache = s.cache; small = small }

-- "A run is a lent slice of request records (kind 0 read or 1 write, and a logical page), at most 1,024."
pub record Request : Type 0 where
  pub kind : ℕ
  pub page : ℕ

abbrev pub most_requests : ℕ
most_requests = 1024

-- A logical page and a physical page, or *none*, that its entry is to name.
pub record Mapping : Type 0 where
  pub logical : ℕ
  pub physical : ℕ

-- Words a page has in the spare: "two words a page, state then owner".
abbrev pub spare_words : ℕ
spare_words = 2

-- Words an entry has in the cache: "three words, logical page, physical page, changed (0 or 1)".
abbrev pub entry_words : ℕ
entry_words = 3

-- "Chip: (D+T)·P·W words." "Spare: two words a page." "Directory: M words." "Cache: C entries of three words."
abbrev pub chip_size : Geometry → ℕ
chip_size g = pages g * g.W

abbrev pub spare_size : Geometry → ℕ
spare_size g = pages g * spare_words

abbrev pub directory_size : Geometry → ℕ
directory_size g = M g

abbrev pub cache_size : Geometry → ℕ
cache_size g = g.C * entry_words

-- 02, P5: "a protected part of at most C/2 entries (rounded down)".
abbrev pub most_protected : Geometry → ℕ
most_protected g = g.C / 2

-- "Page p begins at word p·W."
abbrev pub words_of : Geometry → ℕ → List ℕ → List ℕ
words_of g p chip = take g.W (drop (p * g.W) chip)

abbrev pub word_of : Geometry → ℕ → ℕ → List ℕ → ℕ
word_of g p i chip = get_or chip (p * g.W + i) none

-- "State then owner."
abbrev pub state_of : ℕ → List ℕ → ℕ
state_of p spare = get_or spare (p * spare_words) none

abbrev pub owner_of : ℕ → List ℕ → ℕ
owner_of p spare = get_or spare (p * spare_words + 1) none

abbrev pub is_erased : ℕ → List ℕ → Bool
is_erased p spare = eqb (state_of p spare) erased

abbrev pub is_valid : ℕ → List ℕ → Bool
is_valid p spare = eqb (state_of p spare) valid

-- A page's words in the spare once it is programmed: valid, and its owner's.
abbrev pub claim_words : ℕ → List ℕ
claim_words owner = valid ∷ owner ∷ []

-- The spare with page p in another state; with page p claimed, which makes it valid and names its owner; with the n pages from
-- `first` on erased, which makes every word of theirs the erased word.
abbrev pub with_state : ℕ → ℕ → List ℕ → List ℕ
with_state p state spare = set spare (p * spare_words) state

abbrev pub with_claim : ℕ → ℕ → List ℕ → List ℕ
with_claim p owner spare = sets spare (p * spare_words) (claim_words owner)

abbrev pub with_erased : ℕ → ℕ → List ℕ → List ℕ
with_erased first n spare = sets spare (first * spare_words) (replicate (n * spare_words) erased)

-- "Directory: the physical page of each translation page, or *none*."
abbrev pub named : ℕ → List ℕ → Entry
named t directory = decode (get_or directory t none)

-- The three words of the entry at a rank, which counts from the front.
abbrev pub logical_at : ℕ → List ℕ → ℕ
logical_at i cache = get_or cache (i * entry_words) none

abbrev pub physical_at : ℕ → List ℕ → ℕ
physical_at i cache = get_or cache (i * entry_words + 1) none

abbrev pub changed_at : ℕ → List ℕ → ℕ
changed_at i cache = get_or cache (i * entry_words + 2) none

-- "Word l mod W of translation page l/W (rounded down) holds the physical page of logical page l."
abbrev pub translation_page : Geometry → ℕ → ℕ
translation_page g l = l / g.W

abbrev pub translation_word : Geometry → ℕ → ℕ
translation_word g l = l % g.W
