-- What is printed: "answer, three counts and, for a DONE read, the first word", each number in decimal with no zero in front, a
-- space between any two, and a newline.
use Rattle.std.specs.Prelude.{ℕ, zero, suc, ◌+◌, ◌/◌, ◌%◌, ◌≤◌, true, false, List, [], ◌∷◌, ◌++◌, ◌≡◌, ltb, length, get_or, take}
use Rattle.std.proofs.lemmas.List.Edits.{sets}
use Rattle.lines.specs.Lines.{space}

-- The last digit of a number, in ASCII.
abbrev pub last_digit : ℕ → ℕ
last_digit n = 48 + n % 10

-- The digits of n, of which there are at most k: those of n / 10, if it is not 0, and the last. (By `elim`, so that it computes no
-- further than there are digits.)
unfoldable pub at_most : ℕ → ℕ → List ℕ
at_most zero n = []
at_most (suc k) n = elim (ltb n 10) [ true ↦ last_digit n ∷ [] | false ↦ at_most k (n / 10) ++ last_digit n ∷ [] ]

-- No number n has more than n + 1 digits.
unfoldable pub digits : ℕ → List ℕ
digits n = at_most (suc n) n

abbrev pub newline : ℕ
newline = 10

-- What stands before the i-th number of a line.
abbrev pub separator : ℕ → List ℕ
separator zero = []
separator (suc i) = space ∷ []

abbrev pub spaced : List ℕ → List ℕ
spaced [] = []
spaced (n ∷ []) = digits n
spaced (n ∷ m ∷ numbers) = digits n ++ space ∷ spaced (m ∷ numbers)

unfoldable pub line : List ℕ → List ℕ
line numbers = spaced numbers ++ newline ∷ []

-- The numbers of a printed line: the answer, its three counts, and what comes after them.
abbrev pub numbers : ℕ → List ℕ → List ℕ → List ℕ
numbers reply counts more = reply ∷ get_or counts 0 0 ∷ get_or counts 1 0 ∷ get_or counts 2 0 ∷ more

-- The bytes put into a list of lent bytes from a place on, and the place after them.
pub record Puts (before : List ℕ) (at : ℕ) (bytes after : List ℕ) (next : ℕ) : Type 0 where
  pub stored : after ≡ sets before at bytes
  pub ends : next ≡ at + length bytes

-- A line put at the front of lent bytes. That there was room for it is said too, in the two forms that `&out[..end]` asks for.
pub record Prints (before numbers after : List ℕ) (end : ℕ) : Type 0 where
  pub puts : Puts before 0 (line numbers) after end
  pub within : end ≤ length after
  pub counted : end ≡ length (take end after)
