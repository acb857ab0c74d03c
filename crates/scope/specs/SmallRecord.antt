-- 01, "What is lent": the small record, with the word that 02 adds; six at the boundary. All that names its fields stands here.
use Rattle.std.specs.Prelude.{ℕ, suc, List, [], ◌∷◌, get_or}
use Rattle.scope.specs.Geometry.{Geometry}
use Rattle.scope.specs.Regions.{Region, Data, Translation, first_block}

-- "Small record: open data block, its next page offset (0 to P), open translation block, its next offset, used cache entries."
-- 02, P5: "The small record gains the number of protected entries."
pub record SmallRecord : Type 0 where
  pub open_data : ℕ
  pub data_offset : ℕ
  pub open_translation : ℕ
  pub translation_offset : ℕ
  pub used : ℕ
  pub protected : ℕ

-- The open block of a region and its next page offset.
abbrev pub open_block : Region → SmallRecord → ℕ
open_block Data r = r.open_data
open_block Translation r = r.open_translation

abbrev pub next_offset : Region → SmallRecord → ℕ
next_offset Data r = r.data_offset
next_offset Translation r = r.translation_offset

-- The record with another open block and next offset in the region.
abbrev pub with_open : Region → ℕ → ℕ → SmallRecord → SmallRecord
with_open Data b offset r =
    record {
      open_data = b;
      data_offset = offset;
      open_translation = r.open_translation;
      translation_offset = r.translation_offset;
      used = r.used;
      protected = r.protected;
    }
with_open Translation b offset r =
    record {
      open_data = r.open_data;
      data_offset = r.data_offset;
      open_translation = b;
      translation_offset = offset;
      used = r.used;
      protected = r.protected;
    }

-- With block b opened, at its first page; with the next page one further.
abbrev pub opened : Region → ℕ → SmallRecord → SmallRecord
opened region b r = with_open region b 0 r

abbrev pub advanced : Region → SmallRecord → SmallRecord
advanced region r = with_open region (open_block region r) (suc (next_offset region r)) r

-- The record with n used entries.
abbrev pub with_used : ℕ → SmallRecord → SmallRecord
with_used n r =
    record {
      open_data = r.open_data;
      data_offset = r.data_offset;
      open_translation = r.open_translation;
      translation_offset = r.translation_offset;
      used = n;
      protected = r.protected;
    }

-- With n protected ones.
abbrev pub with_protected : ℕ → SmallRecord → SmallRecord
with_protected n r =
    record {
      open_data = r.open_data;
      data_offset = r.data_offset;
      open_translation = r.open_translation;
      translation_offset = r.translation_offset;
      used = r.used;
      protected = n;
    }

-- Format's: "open blocks 0 and D, offsets and used entries 0". None is protected.
abbrev pub fresh : Geometry → SmallRecord
fresh g =
    record {
      open_data = first_block g Data;
      data_offset = 0;
      open_translation = first_block g Translation;
      translation_offset = 0;
      used = 0;
      protected = 0;
    }

-- The small record's words, in the order of its fields, and the number of them.
abbrev pub record_words : ℕ
record_words = 6

abbrev pub record_of : List ℕ → SmallRecord
record_of words =
    record {
      open_data = get_or words 0 0;
      data_offset = get_or words 1 0;
      open_translation = get_or words 2 0;
      translation_offset = get_or words 3 0;
      used = get_or words 4 0;
      protected = get_or words 5 0;
    }

abbrev pub words_from : SmallRecord → List ℕ
words_from r =
    r.open_data ∷ r.data_offset ∷ r.open_translation ∷ r.translation_offset ∷ r.used ∷ r.protected ∷ []
