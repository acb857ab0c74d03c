-- What the structs and enums of src/ mean in crate settings' definitions; the refusals by 02's numbers.
use Rattle.std.specs.Prelude.{ℕ, ◌+◌, ◌<◌, ◌≡◌, List, [], ◌∷◌, ◌++◌, length, take, map, eqb, Option, Some, None, Result, Ok, Err}
use Rattle.std.specs.Borrow.{Bor}
use Rattle.std.proofs.Math.Option.{Option as Row, none, some}
use Rattle.fields.specs.declared.Size.{Size}
use Rattle.fields.specs.declared.Size.TheVariants.{One, Two, Four}
use Rattle.fields.specs.declared.Field.{Field as FieldOf}
use Rattle.fields.specs.declared.Version.{Version as VersionOf}
use Rattle.fields.specs.declared.refusal.Refusal.{Refusal}
use Rattle.fields.specs.declared.refusal.Refusal.TheVariants.{Short, Tag, Length, Version as UnknownVersion, After, Geometry as RefusedGeometry, Place as RefusedPlace}
use Rattle.lent.specs.declared.Geometry.{Geometry as GeometryOf}
use Rattle.lent.specs.Model.{geometry}
use Rattle.settings.specs.Fields.{Field, Reading, Refused, Numbers, ACCEPTED, SHORT, TAG, LENGTH, VERSION, AFTER, GEOMETRY, PLACE, next, whole_fields}
use Rattle.settings.specs.Settings.{Version, Answered, numbers_of, answered, refused}

abbrev pub size : Size → ℕ
size One = 1
size Two = 2
size Four = 4

abbrev pub field : FieldOf → Field
field f = record { tag = f.tag; bytes = size f.size }

abbrev pub version : VersionOf → Version
version v = record { number = v.number; fields = map field v.fields; more = v.more }

-- A row of the table, if there is one.
abbrev pub row : Option VersionOf → Row Version
row (Some v) = some (version v)
row None = none

abbrev pub refusal : Refusal → ℕ
refusal Short = SHORT
refusal Tag = TAG
refusal Length = LENGTH
refusal UnknownVersion = VERSION
refusal After = AFTER
refusal RefusedGeometry = GEOMETRY
refusal RefusedPlace = PLACE

-- A field that was read, behind the numbers before it, with the bytes behind it; or its refusal.
abbrev pub after_field : List ℕ → Result (ℕ × Bor (List ℕ)) Refusal → Reading
after_field numbers (Ok (x, rest)) = Numbers (numbers ++ x ∷ []) rest.now
after_field numbers (Err r) = Refused (refusal r)

-- What some bytes begin with is the next field, whatever was read before it.
pub record Next (bytes : List ℕ) (f : Field) (r : Result (ℕ × Bor (List ℕ)) Refusal) : Type 0 where
  pub is : (numbers : List ℕ) → next f (Numbers numbers bytes) ≡ after_field numbers r

-- All fields of a version, likewise.
abbrev pub after_fields : Result (List ℕ × Bor (List ℕ)) Refusal → Reading
after_fields (Ok (numbers, rest)) = Numbers numbers rest.now
after_fields (Err r) = Refused (refusal r)

-- What a record says, or its refusal.
abbrev pub settings : Result GeometryOf Refusal → Answered
settings (Ok g) = answered ACCEPTED (numbers_of (geometry g))
settings (Err r) = refused (refusal r)

-- The bytes behind a whole field of a higher tag, with which some bytes begin; where they begin with none, only no bytes at all are whole fields.
abbrev pub Skipped : List ℕ → ℕ → Option (Bor (List ℕ)) → Type 0
Skipped bytes last (Some rest) = (length rest.now < length bytes) × (whole_fields last 0 bytes ≡ whole_fields last 0 rest.now)
Skipped bytes last None = whole_fields last 0 bytes ≡ eqb (length bytes) 0

-- What came of writing, by 02's numbers.
abbrev pub writing : Result (Unit {0}) Refusal → ℕ
writing (Ok done) = ACCEPTED
writing (Err r) = refusal r

-- Some bytes were put behind the first `at` of a place; what stands behind them is not said.
pub record Put (before after : List ℕ) (at : ℕ) (bytes : List ℕ) : Type 0 where
  pub put : take (at + length bytes) after ≡ take at before ++ bytes
  pub same : length after ≡ length before
