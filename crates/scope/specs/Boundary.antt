-- The calls as C makes them, on words alone: "at that boundary the small record is five words", six with 02's P5, "and a request two, the reply number is
-- returned, and the counts go to a slice of three result words, written whenever it has three, tested by LENGTH". Each is the call
-- of Calls.antt with these lengths tested too and words turned into numbers and back.
use Rattle.std.specs.Prelude.{ℕ, ◌%◌, cond, List, [], ◌∷◌, eqb, length}
use Rattle.std.proofs.lemmas.List.Edits.{sets}
use Rattle.scope.specs.Geometry.{Geometry}
use Rattle.scope.specs.SmallRecord.{record_words, record_of, words_from}
use Rattle.scope.specs.Lent.{State, Request}
use Rattle.scope.specs.Operations.{Step, Outcome, Counts, counted}
use Rattle.scope.specs.Replies.{Size}
use Rattle.scope.specs.Requests.{Replied}
use Rattle.scope.specs.Calls.{RunReplied, format, check, read, write, run}

-- "A request two": kind, page. A last word alone is no request.
unfoldable pub requests_of : List ℕ → List Request
requests_of [] = []
requests_of (k ∷ []) = []
requests_of (k ∷ p ∷ words) = record { kind = k; page = p } ∷ requests_of words

-- "A slice of three result words."
abbrev pub counts_words : ℕ
counts_words = 3

-- The sizes of what every call lends beside the state's lists: a small record of so many words, and a counts' slice.
abbrev pub call_sizes : ℕ → ℕ → List Size
call_sizes small counts = record { has = small; should = record_words } ∷ record { has = counts; should = counts_words } ∷ []

abbrev pub words_of_counts : Counts → List ℕ
words_of_counts c = c.reads ∷ c.programs ∷ c.erases ∷ []

-- "Written whenever it has three": that slice after a call.
abbrev pub put_counts : List ℕ → Counts → List ℕ
put_counts counts c = cond (eqb (length counts) counts_words) (words_of_counts c) counts

-- What C lends to every call.
pub record Words : Type 0 where
  pub chip : List ℕ
  pub spare : List ℕ
  pub directory : List ℕ
  pub cache : List ℕ
  pub small : List ℕ
  pub counts : List ℕ

-- The words as a state, and an outcome as the words afterwards: a record of another length comes back as it was.
abbrev pub from_words : Words → State
from_words w =
    record { chip = w.chip; spare = w.spare; directory = w.directory; cache = w.cache; small = record_of w.small }

abbrev pub to_words : {A : Type 0} → Words → Outcome A → Words
to_words w o =
    record {
      chip = o.after.chip;
      spare = o.after.spare;
      directory = o.after.directory;
      cache = o.after.cache;
      small = sets w.small 0 (words_from o.after.small);
      counts = put_counts w.counts (counted o.did);
    }

-- The sizes that every call of C tests beside the state's: the small record's, six words, and the counts' slice, "three".
abbrev pub word_sizes : Words → List Size
word_sizes w = call_sizes (length w.small) (length w.counts)

-- A call's answer in words, with what else it lends.
pub record InWords (A : Type 0) : Type 0 where
  pub answer : A
  pub lent : Words

unfoldable pub in_words : {A : Type 0} → Words → Step A → InWords A
in_words w call = let o = call (from_words w) in record { answer = o.value; lent = to_words w o }

unfoldable pub tf_format : Geometry → Words → InWords ℕ
tf_format g w = in_words w (format g (word_sizes w))

unfoldable pub tf_check : Geometry → Words → InWords ℕ
tf_check g w = in_words w (check g (word_sizes w))

unfoldable pub tf_read : Geometry → ℕ → Words → List ℕ → InWords Replied
tf_read g l w buffer = in_words w (read g (word_sizes w) l buffer)

unfoldable pub tf_write : Geometry → ℕ → Words → List ℕ → InWords Replied
tf_write g l w buffer = in_words w (write g (word_sizes w) l buffer)

-- "A request two", so an odd number of words is LENGTH.
unfoldable pub tf_run : Geometry → Words → List ℕ → List ℕ → List ℕ → InWords RunReplied
tf_run g w requests words answers =
    in_words w (run g (record { has = length requests % 2; should = 0 } ∷ word_sizes w) (requests_of requests) words answers)
