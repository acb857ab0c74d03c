-- 02, P1: the versions of a settings record, the reader, the writer, and the two calls. A version is a row of a table: reader and writer go
-- by it, so that a further version is a row and no new reader.
use Rattle.std.specs.Prelude.{ℕ, ◌+◌, Bool, true, not, cond, List, [], ◌∷◌, ◌++◌, eqb, length, get_or, replicate}
use Rattle.std.proofs.Math.Option.{Option, none, some}
use Rattle.scope.specs.Geometry.{Geometry, accepted}
use Rattle.settings.specs.Fields.{Field, Reading, Refused, Numbers, ACCEPTED, VERSION, AFTER, GEOMETRY, PLACE, next, fields_read, whole_fields, field_written, fields_written, field_bytes, bytes_in}

-- A version: its number, its fields in their order, and whether fields of higher tags may follow.
pub record Version : Type 0 where
  pub number : ℕ
  pub fields : List Field
  pub more : Bool

-- "Version 1 (tag 1, one byte, value 1) comes first": the field in which every version has its number.
abbrev pub version_field : Field
version_field = record { tag = 1; bytes = 1 }

-- "Then tags 2 to 7 for P, W, D, T, L, C in that order, two bytes each but L four"; higher tags are "skipped in version 1".
abbrev pub version_1 : Version
version_1 =
    record {
      number = 1;
      fields =
          record { tag = 2; bytes = 2 }
          ∷ record { tag = 3; bytes = 2 }
          ∷ record { tag = 4; bytes = 2 }
          ∷ record { tag = 5; bytes = 2 }
          ∷ record { tag = 6; bytes = 4 }
          ∷ record { tag = 7; bytes = 2 }
          ∷ [];
      more = true;
    }

-- All that the reader knows.
abbrev pub versions : List Version
versions = version_1 ∷ []

unfoldable pub version_of : List Version → ℕ → Option Version
version_of [] n = none
version_of (v ∷ vs) n = cond (eqb n v.number) (some v) (version_of vs n)

-- The tag of the last field, or n where there is none.
unfoldable pub last_tag : ℕ → List Field → ℕ
last_tag n [] = n
last_tag n (f ∷ fs) = last_tag f.tag fs

-- Whether the bytes after the last field may stand there.
abbrev pub may_follow : Version → List ℕ → Bool
may_follow v bytes = cond v.more (whole_fields (last_tag 0 v.fields) 0 bytes) (eqb (length bytes) 0)

-- The six numbers of a geometry, in 02's order.
abbrev pub numbers_of : Geometry → List ℕ
numbers_of g = g.P ∷ g.W ∷ g.D ∷ g.T ∷ g.L ∷ g.C ∷ []

abbrev pub numbers_words : ℕ
numbers_words = 6

abbrev pub geometry_from : List ℕ → Geometry
geometry_from numbers =
    record {
      P = get_or numbers 0 0;
      W = get_or numbers 1 0;
      D = get_or numbers 2 0;
      T = get_or numbers 3 0;
      L = get_or numbers 4 0;
      C = get_or numbers 5 0;
    }

-- A call's answer, and what it leaves in the slice that it is lent to write.
pub record Answered : Type 0 where
  pub answer : ℕ
  pub left : List ℕ

abbrev pub answered : ℕ → List ℕ → Answered
answered n left = record { answer = n; left = left }

-- ---- the reader

-- "A refusal hands back six zeros."
abbrev pub refused : ℕ → Answered
refused n = answered n (replicate numbers_words 0)

-- After the version's fields: what may follow them, and "a geometry that 01 refuses". "0 accepts."
abbrev pub ended : Version → Reading → Answered
ended v (Refused n) = refused n
ended v (Numbers numbers bytes) =
    cond (not (may_follow v bytes)) (refused AFTER)
    (cond (not (accepted (geometry_from numbers))) (refused GEOMETRY)
    (answered ACCEPTED numbers))

-- After the field of the version's number: "unknown version", or the fields of that version.
abbrev pub by_table : Option Version → List ℕ → Answered
by_table none bytes = refused VERSION
by_table (some v) bytes = ended v (fields_read v.fields (Numbers [] bytes))

abbrev pub by_version : List Version → Reading → Answered
by_version known (Refused n) = refused n
by_version known (Numbers numbers bytes) = by_table (version_of known (get_or numbers 0 0)) bytes

unfoldable pub read : List Version → List ℕ → Answered
read known bytes = by_version known (next version_field (Numbers [] bytes))

-- ---- the writer

-- The record of a geometry in a version, and how many bytes it has.
unfoldable pub written : Version → Geometry → List ℕ
written v g = field_written version_field v.number ++ fields_written v.fields (numbers_of g)

abbrev pub record_bytes : Version → ℕ
record_bytes v = field_bytes version_field + bytes_in v.fields

-- "The writer refuses such a geometry, then with 7 a place that isn't 36 bytes, and changes nothing."
unfoldable pub write : Version → Geometry → List ℕ → Answered
write v g place =
    cond (not (accepted g)) (answered GEOMETRY place)
    (cond (not (eqb (length place) (record_bytes v))) (answered PLACE place)
    (answered ACCEPTED (written v g)))

-- ---- the calls for C

-- The bytes, and the slice for six numbers: one of another length is refused first, and left.
unfoldable pub tf_settings_read : List ℕ → List ℕ → Answered
tf_settings_read bytes numbers =
    cond (not (eqb (length numbers) numbers_words)) (answered PLACE numbers) (read versions bytes)

abbrev pub tf_settings_write : Geometry → List ℕ → Answered
tf_settings_write = write version_1
