-- The lengths of the lent lists, and a page's words as a list and one by one.
use Rattle.std.specs.Prelude.{ℕ, ◌*◌, ◌≤◌, ◌<◌, ◌≡◌, List, length, get_or, drop, replicate}
use Rattle.std.proofs.Common.{sym, ap, ◌∙◌, mul-le-mul_right, arith, length-take, length-drop, get_or-take, get_or-drop, ext_get_or}
use Rattle.std.proofs.lemmas.List.{length-replicate}
use Rattle.scope.specs.Geometry.{Geometry, pages}
use Rattle.scope.specs.SmallRecord.{fresh}
use Rattle.scope.specs.Lent.{none, State, with_flash, with_directory, with_cache, chip_size, spare_size, directory_size, cache_size, words_of, word_of}

-- The lists have the sizes that 01 gives them.
pub record LengthsFit (g : Geometry) (chip spare directory cache : List ℕ) : Type 0 where
  pub chip_fits : length chip ≡ chip_size g
  pub spare_fits : length spare ≡ spare_size g
  pub directory_fits : length directory ≡ directory_size g
  pub cache_fits : length cache ≡ cache_size g

abbrev pub Lengths : Geometry → State → Type 0
Lengths g s = LengthsFit g s.chip s.spare s.directory s.cache

-- Lists of the right sizes in the place of others.
module _ {g : Geometry} (s : State) (len : Lengths g s) where
  pub lengths_with_flash : {chip spare : List ℕ} → length chip ≡ chip_size g → length spare ≡ spare_size g
      → Lengths g (with_flash chip spare s)
  lengths_with_flash c p =
      record { chip_fits = c; spare_fits = p; directory_fits = len.directory_fits; cache_fits = len.cache_fits }

  pub lengths_with_directory : {directory : List ℕ} → length directory ≡ directory_size g → Lengths g (with_directory directory s)
  lengths_with_directory d =
      record { chip_fits = len.chip_fits; spare_fits = len.spare_fits; directory_fits = d; cache_fits = len.cache_fits }

  pub lengths_with_cache : {cache : List ℕ} → length cache ≡ cache_size g → Lengths g (with_cache cache s)
  lengths_with_cache c =
      record { chip_fits = len.chip_fits; spare_fits = len.spare_fits; directory_fits = len.directory_fits; cache_fits = c }

-- A state of the right sizes with nothing in it: what a law of whole states is asked of, for a step that is lent some of the lists.
abbrev pub blank : Geometry → State
blank g =
    record {
      chip = replicate (chip_size g) none;
      spare = replicate (spare_size g) none;
      directory = replicate (directory_size g) none;
      cache = replicate (cache_size g) none;
      small = fresh g;
    }

-- Where any state will do.
abbrev pub some_state : State
some_state = blank (record { P = 0; W = 0; D = 0; T = 0; L = 0; C = 0 })

pub blank_lengths : (g : Geometry) → Lengths g (blank g)
blank_lengths g =
    record {
      chip_fits = length-replicate (chip_size g) none;
      spare_fits = length-replicate (spare_size g) none;
      directory_fits = length-replicate (directory_size g) none;
      cache_fits = length-replicate (cache_size g) none;
    }

-- Word i of a page's list of words is the page's word i.
pub words_at : (g : Geometry) (p i : ℕ) (chip : List ℕ) → i < g.W → get_or (words_of g p chip) i none ≡ word_of g p i chip
words_at g p i chip h = get_or-take g.W (drop (p * g.W) chip) i none h ∙ get_or-drop (p * g.W) chip i none

-- A page of the chip has W words.
pub length_words_of : (g : Geometry) (p : ℕ) (chip : List ℕ) → p < pages g → length chip ≡ chip_size g
    → length (words_of g p chip) ≡ g.W
length_words_of g p chip h len =
    simp (length-take, length-drop) (omega (arith, mul-le-mul_right g.W h))

-- A page's words are told by each word: as a list of W words, and of two chips of one length.
pub words_are : (g : Geometry) (p : ℕ) (chip words : List ℕ) → p < pages g → length chip ≡ chip_size g → length words ≡ g.W
    → ((i : ℕ) → i < g.W → word_of g p i chip ≡ get_or words i none) → words_of g p chip ≡ words
words_are g p chip words h len w e =
    let n : length (words_of g p chip) ≡ g.W = length_words_of g p chip h len in
    ext_get_or none (words_of g p chip) words (omega arith) (λ i k. words_at g p i chip (omega arith) ∙ e i (omega arith))

pub words_same : (g : Geometry) (p : ℕ) (chip chip' : List ℕ) → length chip' ≡ length chip
    → ((i : ℕ) → i < g.W → word_of g p i chip' ≡ word_of g p i chip) → words_of g p chip' ≡ words_of g p chip
words_same g p chip chip' len e =
    let short : length (words_of g p chip') ≤ g.W = simp length-take (omega arith) in
    ext_get_or none (words_of g p chip') (words_of g p chip)
    (simp (length-take, length-drop, len))
    (λ i k. words_at g p i chip' (omega arith) ∙ e i (omega arith) ∙ sym (words_at g p i chip (omega arith)))

-- And the other way: pages of one list of words have each word equal.
pub word_same : (g : Geometry) (p q i : ℕ) (chip chip' : List ℕ) → i < g.W → words_of g p chip' ≡ words_of g q chip
    → word_of g p i chip' ≡ word_of g q i chip
word_same g p q i chip chip' h e =
    sym (words_at g p i chip' h) ∙ ap (λ (words : List ℕ). get_or words i none) e ∙ words_at g q i chip h
