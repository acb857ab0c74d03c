-- P1's promises of the two calls, said of whatever their contracts allow: an outcome is an answer and what the lent slice then holds. Each
-- is a proposition with a name, under which Theorems.antt proves it.
use Rattle.std.specs.Prelude.{ℕ, ◌≡◌, ◌≢◌, ◌⊎◌, ◌↔◌, List, ◌++◌, length, take, replicate}
use Rattle.scope.specs.Geometry.{Geometry, Accepted}
use Rattle.settings.specs.Settings.{numbers_of, geometry_from, answered, tf_settings_read, tf_settings_write}
use Rattle.settings.specs.Laid.{Bytes, Skipped, laid, Higher, IsRecord}

-- The bytes were read into a slice that held `numbers`: answer r, and `numbers'` in it now.
abbrev pub ReadMade : List ℕ → List ℕ → ℕ → List ℕ → Type 0
ReadMade bytes numbers r numbers' = answered r numbers' ≡ tf_settings_read bytes numbers

-- The geometry was written to a slice that held `place`: answer r, and `place'` in it now.
abbrev pub WriteMade : Geometry → List ℕ → ℕ → List ℕ → Type 0
WriteMade g place r place' = answered r place' ≡ tf_settings_write g place

-- ---- any input, one answer

-- Two reads of the same bytes into slices that held the same answer the same and leave the same.
abbrev pub ReadOneOutcome : Type 0
ReadOneOutcome = (bytes numbers numbers' numbers₁ : List ℕ) (r r₁ : ℕ) → ReadMade bytes numbers r numbers'
    → ReadMade bytes numbers r₁ numbers₁ → (r ≡ r₁) × (numbers' ≡ numbers₁)

-- Likewise two writes.
abbrev pub WriteOneOutcome : Type 0
WriteOneOutcome = (g : Geometry) (place place' place₁ : List ℕ) (r r₁ : ℕ) → WriteMade g place r place'
    → WriteMade g place r₁ place₁ → (r ≡ r₁) × (place' ≡ place₁)

-- "0 accepts": a record read into six words is accepted, and gives the numbers of its geometry.
abbrev pub ReadsEachRecord : Type 0
ReadsEachRecord = (bytes numbers numbers' : List ℕ) (r : ℕ) (x : IsRecord bytes) → length numbers ≡ 6 → ReadMade bytes numbers r numbers'
    → (r ≡ 0) × (numbers' ≡ numbers_of x.of)

-- And nothing else is.
abbrev pub ReadsRecordsAlone : Type 0
ReadsRecordsAlone = (bytes numbers numbers' : List ℕ) → Bytes bytes → ReadMade bytes numbers 0 numbers'
    → (length numbers ≡ 6) × IsRecord bytes

-- The writer answers 0 exactly for an accepted geometry and 36 bytes.
abbrev pub WriteAnswers : Type 0
WriteAnswers = (g : Geometry) (place place' : List ℕ) (r : ℕ) → WriteMade g place r place'
    → (r ≡ 0) ↔ (Accepted g × (length place ≡ 36))

-- What a refused read leaves: words that are not six as they were; else "a refusal hands back six zeros".
abbrev pub LeftByRefusal : List ℕ → ℕ → List ℕ → Type 0
LeftByRefusal numbers r numbers' =
    ((r ≡ 7) × (length numbers ≢ 6) × (numbers' ≡ numbers)) ⊎ ((length numbers ≡ 6) × (numbers' ≡ replicate 6 0))

abbrev pub ReadRefused : Type 0
ReadRefused = (bytes numbers numbers' : List ℕ) (r : ℕ) → ReadMade bytes numbers r numbers' → r ≢ 0 → LeftByRefusal numbers r numbers'

-- A refused write "changes nothing".
abbrev pub WriteRefused : Type 0
WriteRefused = (g : Geometry) (place place' : List ℕ) (r : ℕ) → WriteMade g place r place' → r ≢ 0 → place' ≡ place

-- ---- what was written is read, and what was read is written

-- "Writing then reading gives the same numbers."
abbrev pub ReadGivesWhatWasWritten : Type 0
ReadGivesWhatWasWritten = (g : Geometry) (place place' numbers numbers' : List ℕ) (r : ℕ) → WriteMade g place 0 place'
    → length numbers ≡ 6 → ReadMade place' numbers r numbers' → (r ≡ 0) × (numbers' ≡ numbers_of g)

-- "An accepted record without higher tags is the only one for its numbers."
abbrev pub OnlyRecordOfItsNumbers : Type 0
OnlyRecordOfItsNumbers = (bytes bytes₁ numbers numbers₁ x : List ℕ) → Bytes bytes → Bytes bytes₁ → length bytes ≡ 36
    → length bytes₁ ≡ 36 → ReadMade bytes numbers 0 x → ReadMade bytes₁ numbers₁ 0 x → bytes ≡ bytes₁

-- So writing what was read gives it back, byte for byte.
abbrev pub WritingWhatWasReadGivesItBack : Type 0
WritingWhatWasReadGivesItBack = (bytes numbers numbers' place place' : List ℕ) (r : ℕ) → Bytes bytes → length bytes ≡ 36
    → ReadMade bytes numbers 0 numbers' → length place ≡ 36 → WriteMade (geometry_from numbers') place r place' → (r ≡ 0) × (place' ≡ bytes)

-- "Skipped in version 1": an accepted record's first 36 bytes give the same numbers with whatever fields of higher tags behind them, and so
-- with none.
abbrev pub SkippedNeverMatters : Type 0
SkippedNeverMatters = (bytes numbers numbers₁ x x₁ : List ℕ) (fields : List Skipped) (r : ℕ) → Bytes bytes → ReadMade bytes numbers 0 x
    → Higher 7 fields → length numbers₁ ≡ 6 → ReadMade (take 36 bytes ++ laid fields) numbers₁ r x₁ → (r ≡ 0) × (x₁ ≡ x)
