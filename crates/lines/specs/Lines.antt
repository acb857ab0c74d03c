-- 01, "A session in full": "lines, with single spaces and 32-bit decimals, `W page value` .. or `R page` .. (other lines are
-- skipped)". What a line means, as the list of its bytes without the newline.
use Rattle.std.specs.Prelude.{ℕ, ◌+◌, ◌-◌, ◌*◌, Bool, true, false, cond, ◌&&◌, List, [], ◌∷◌, eqb, leb, Option, Some, None}
use Rattle.lines.specs.declared.Request.{Request}
use Rattle.lines.specs.declared.Request.TheVariants.{Write, Read}

-- ASCII: the space, the letters, the digits.
abbrev pub space : ℕ
space = 32

abbrev pub W : ℕ
W = 87

abbrev pub R : ℕ
R = 82

abbrev pub is_digit : ℕ → Bool
is_digit b = leb 48 b && leb b 57

abbrev pub digit : ℕ → ℕ
digit b = b - 48

-- The fields of a line: what stands before, between and after its spaces. A second space makes an empty field.
pub record Fields : Type 0 where
  pub first : List ℕ
  pub others : List (List ℕ)

unfoldable pub fields : List ℕ → Fields
fields [] = record { first = []; others = [] }
fields (b ∷ bytes) =
    let rest = fields bytes in
    cond (eqb b space)
    (record { first = []; others = rest.first ∷ rest.others })
    (record { first = b ∷ rest.first; others = rest.others })

-- The number of a decimal, its first digit foremost; n is that of the digits before it.
abbrev pub value_after : ℕ → List ℕ → ℕ
value_after n [] = n
value_after n (b ∷ bytes) = value_after (n * 10 + digit b) bytes

abbrev pub all_digits : List ℕ → Bool
all_digits [] = true
all_digits (b ∷ bytes) = is_digit b && all_digits bytes

abbrev pub largest : ℕ
largest = 4294967295

-- "32-bit decimals": digits only, of a number that 32 bits hold; one or more, zeros in front allowed.
abbrev pub fitting : ℕ → List ℕ → Option ℕ
fitting n bytes = cond (all_digits bytes && leb (value_after n bytes) largest) (Some (value_after n bytes)) None

abbrev pub decimal : List ℕ → Option ℕ
decimal [] = None
decimal (b ∷ bytes) = fitting 0 (b ∷ bytes)

-- That a field is one byte alone.
abbrev pub is_letter : ℕ → List ℕ → Bool
is_letter letter [] = false
is_letter letter (b ∷ []) = eqb b letter
is_letter letter (b ∷ c ∷ bytes) = false

abbrev pub reading : Option ℕ → Option Request
reading None = None
reading (Some page) = Some (Read page)

abbrev pub writing : Option ℕ → Option ℕ → Option Request
writing None value = None
writing (Some page) None = None
writing (Some page) (Some value) = Some (Write page value)

-- "`W page value`" and "`R page`", by their fields; everything else is another line.
abbrev pub asked : List ℕ → List (List ℕ) → Option Request
asked letter [] = None
asked letter (page ∷ []) = cond (is_letter R letter) (reading (decimal page)) None
asked letter (page ∷ value ∷ []) = cond (is_letter W letter) (writing (decimal page) (decimal value)) None
asked letter (page ∷ value ∷ more ∷ others) = None

unfoldable pub meaning : List ℕ → Option Request
meaning bytes = asked (fields bytes).first (fields bytes).others
