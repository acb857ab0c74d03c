-- What a record of version 1 is, said without the reader and its tests.
use Rattle.std.specs.Prelude.{ℕ, ◌^◌, ◌<◌, ◌≡◌, List, [], ◌∷◌, ◌++◌, length, get_or}
use Rattle.scope.specs.Geometry.{Geometry, Accepted}
use Rattle.settings.specs.Fields.{bytes_of}
use Rattle.settings.specs.Settings.{version_1, written}

-- A list is of bytes, as every slice of them that a call is lent: each element is below 256, and past the end there is none, which reads as 0.
-- The definitions are over numbers of any size; what was read is a record only where these are bytes.
abbrev pub Bytes : List ℕ → Type 0
Bytes bytes = (i : ℕ) → get_or bytes i 0 < 256

-- A field by its tag and its bytes, whatever they mean.
pub record Skipped : Type 0 where
  pub tag : ℕ
  pub bytes : List ℕ

-- Such fields one after the other, each with the two bytes of its length.
unfoldable pub laid : List Skipped → List ℕ
laid [] = []
laid (f ∷ fs) = f.tag ∷ bytes_of 2 (length f.bytes) ++ f.bytes ++ laid fs

-- Each has a tag above the last, and a length that two bytes hold.
abbrev pub Higher : ℕ → List Skipped → Type 0
Higher last [] = Unit {0}
Higher last (f ∷ fs) = (last < f.tag) × (length f.bytes < 256 ^ 2) × Higher last fs

-- The record of an accepted geometry, and behind it "whole fields of higher tags".
pub record IsRecord (bytes : List ℕ) : Type 0 where
  pub of : Geometry
  pub is_accepted : Accepted of
  pub skipped : List Skipped
  pub higher : Higher 7 skipped
  pub laid_out : bytes ≡ written version_1 of ++ laid skipped
