-- The definitions held to values: the lines of 01's session and what they print, numbers at their limits, and lines that are skipped.
use Rattle.std.specs.Prelude.{ℕ, ◌≡◌, refl, List, [], ◌∷◌, map, replicate, Option, Some, None}
use Prim.Native.Char.{code}
use Prim.Native.String.{String}
use Rattle.lines.specs.declared.Request.{Request}
use Rattle.lines.specs.declared.Request.TheVariants.{Write, Read}
use Rattle.lines.specs.Lines.{fields, meaning}
use Rattle.lines.specs.Digits.{at_most, digits, line}

-- The bytes of an ASCII text.
abbrev bytes : String → List ℕ
bytes String.[] = []
bytes (String.◌∷◌ c text) = code c ∷ bytes text

abbrev meant : List String → List (Option Request)
meant lines = map (λ line. meaning (bytes line)) lines

session : map Some (Write 0 10 ∷ Write 1 11 ∷ Write 0 12 ∷ Write 2 13 ∷ Write 1 14 ∷ Read 0 ∷ Read 0 ∷ Write 0 15 ∷ [])
    ≡ meant ("W 0 10" ∷ "W 1 11" ∷ "W 0 12" ∷ "W 2 13" ∷ "W 1 14" ∷ "R 0" ∷ "R 0" ∷ "W 0 15" ∷ [])
unfolding fields meaning
session = refl

limits : map Some (Read 0 ∷ Read 4294967295 ∷ Read 7 ∷ Write 4294967295 0 ∷ Write 2 4294967295 ∷ [])
    ≡ meant
    ("R 0"
    ∷ "R 4294967295"
    ∷ "R 0000000000000000000000007"
    ∷ "W 4294967295 0"
    ∷ "W 0000000000000000000000002 04294967295"
    ∷ [])
unfolding fields meaning
limits = refl

-- Spaces that are too many or too few, numbers that are none or too large, other letters and other bytes.
skipped : replicate 33 None
    ≡ meant
    ("" ∷ " " ∷ "W" ∷ "R" ∷ "W " ∷ "R " ∷ "W 0" ∷ "W 0 " ∷ "R 0 " ∷ "R  0" ∷ " R 0" ∷ "W 0  1" ∷ "W 0 1 " ∷ "W  0 1" ∷ "R0" ∷ "R\t0"
    ∷ "R 4294967296" ∷ "W 0 4294967296" ∷ "W 4294967296 0" ∷ "R 18446744073709551616" ∷ "R 99999999999999999999999999"
    ∷ "R +0" ∷ "R -0" ∷ "R 0x0" ∷ "R a" ∷ "R 0," ∷ "R 0\r" ∷ "W 0 1 2" ∷ "R 0 0" ∷ "X 0" ∷ "RR 0" ∷ "r 0" ∷ "w 0 1"
    ∷ [])
unfolding fields meaning
skipped = refl

printed : map bytes
    ("0 0 1 0\n" ∷ "0 1 2 0\n" ∷ "0 2 2 0\n" ∷ "0 1 2 0\n" ∷ "0 2 3 1\n" ∷ "0 3 1 1 12\n" ∷ "0 1 0 0 12\n" ∷ "0 2 3 1\n"
    ∷ "\n" ∷ "9 10 99 100\n" ∷ "4294967295\n"
    ∷ [])
    ≡ map line
    ((0 ∷ 0 ∷ 1 ∷ 0 ∷ [])
    ∷ (0 ∷ 1 ∷ 2 ∷ 0 ∷ [])
    ∷ (0 ∷ 2 ∷ 2 ∷ 0 ∷ [])
    ∷ (0 ∷ 1 ∷ 2 ∷ 0 ∷ [])
    ∷ (0 ∷ 2 ∷ 3 ∷ 1 ∷ [])
    ∷ (0 ∷ 3 ∷ 1 ∷ 1 ∷ 12 ∷ [])
    ∷ (0 ∷ 1 ∷ 0 ∷ 0 ∷ 12 ∷ [])
    ∷ (0 ∷ 2 ∷ 3 ∷ 1 ∷ [])
    ∷ []
    ∷ (9 ∷ 10 ∷ 99 ∷ 100 ∷ [])
    ∷ (4294967295 ∷ [])
    ∷ [])
unfolding at_most digits line
printed = refl
