-- 02, P1: "tagged fields, one-byte tag, two-byte length, big-endian". A record is a list of bytes; all that is here is total over any list.
use Rattle.std.specs.Prelude.{ℕ, zero, suc, ◌+◌, ◌*◌, ◌/◌, ◌%◌, Bool, true, false, not, cond, ◌&&◌, List, [], ◌∷◌, ◌++◌, eqb, ltb, length, get_or, drop}

-- What a version says of a field: its tag, and how many bytes its number has.
pub record Field : Type 0 where
  pub tag : ℕ
  pub bytes : ℕ

-- "One-byte tag, two-byte length": the bytes before the number, and those of a whole field.
abbrev pub head_bytes : ℕ
head_bytes = 3

abbrev pub field_bytes : Field → ℕ
field_bytes f = head_bytes + f.bytes

-- "Big-endian": the number that the first n of some bytes make, and the n bytes that a number makes.
unfoldable pub number : ℕ → List ℕ → ℕ
number zero bytes = 0
number (suc n) bytes = number n bytes * 256 + get_or bytes n 0

unfoldable pub bytes_of : ℕ → ℕ → List ℕ
bytes_of zero x = []
bytes_of (suc n) x = bytes_of n (x / 256) ++ x % 256 ∷ []

-- ---- reading

-- "Numbered from 1 in this order": 02's refusals, and 0, which accepts.
abbrev pub ACCEPTED : ℕ
ACCEPTED = 0

-- "Fewer bytes than the field needs".
abbrev pub SHORT : ℕ
SHORT = 1

-- "Wrong tag".
abbrev pub TAG : ℕ
TAG = 2

-- "Wrong length".
abbrev pub LENGTH : ℕ
LENGTH = 3

-- "Unknown version".
abbrev pub VERSION : ℕ
VERSION = 4

-- "After tag 7, bytes that aren't whole fields of higher tags".
abbrev pub AFTER : ℕ
AFTER = 5

-- "A geometry that 01 refuses".
abbrev pub GEOMETRY : ℕ
GEOMETRY = 6

-- The writer's "with 7 a place that isn't 36 bytes", and the reader's for a place that isn't six words.
abbrev pub PLACE : ℕ
PLACE = 7

-- A record as far as it was read: a refusal, or the numbers of the fields so far and the bytes after them.
pub data Reading : Type 0 where
  Refused : ℕ → Reading
  Numbers : List ℕ → List ℕ → Reading

-- "The reader goes field by field and gives the first refusal that applies": a field more.
unfoldable pub next : Field → Reading → Reading
next f (Refused n) = Refused n
next f (Numbers numbers bytes) =
    cond (ltb (length bytes) (field_bytes f)) (Refused SHORT)
    (cond (not (eqb (get_or bytes 0 0) f.tag)) (Refused TAG)
    (cond (not (eqb (number 2 (drop 1 bytes)) f.bytes)) (Refused LENGTH)
    (Numbers (numbers ++ number f.bytes (drop head_bytes bytes) ∷ []) (drop (field_bytes f) bytes))))

unfoldable pub fields_read : List Field → Reading → Reading
fields_read [] r = r
fields_read (f ∷ fs) r = fields_read fs (next f r)

-- "Whole fields of higher tags": whether some bytes are n that end a field, and then only whole fields of tags above the last.
unfoldable pub whole_fields : ℕ → ℕ → List ℕ → Bool
whole_fields last zero [] = true
whole_fields last zero (tag ∷ []) = false
whole_fields last zero (tag ∷ high ∷ []) = false
whole_fields last zero (tag ∷ high ∷ low ∷ bytes) = ltb last tag && whole_fields last (high * 256 + low) bytes
whole_fields last (suc n) [] = false
whole_fields last (suc n) (byte ∷ bytes) = whole_fields last n bytes

-- ---- writing

abbrev pub field_written : Field → ℕ → List ℕ
field_written f x = f.tag ∷ bytes_of 2 f.bytes ++ bytes_of f.bytes x

-- Each number by its field, in their order.
unfoldable pub fields_written : List Field → List ℕ → List ℕ
fields_written [] numbers = []
fields_written (f ∷ fs) [] = []
fields_written (f ∷ fs) (x ∷ numbers) = field_written f x ++ fields_written fs numbers

-- How many bytes fields have.
unfoldable pub bytes_in : List Field → ℕ
bytes_in [] = 0
bytes_in (f ∷ fs) = field_bytes f + bytes_in fs
