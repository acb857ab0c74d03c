-- A line that is fed byte by byte finishes as its meaning. Each step keeps what the line means with the bytes that follow.
use Rattle.std.specs.Prelude.{ℕ, ◌+◌, ◌*◌, ◌≤◌, ◌<◌, ◌≡◌, refl, Bool, true, false, cond, ◌&&◌, eqb, leb, Option, Some, None, option_and_then}
use Rattle.std.proofs.Common.{arith, sym, ◌∙◌, eqb-true, leb-true, leb-false, le-leb}
use mathlib.Core.List.{List, [], ◌∷◌, foldl}
use Rattle.std.proofs.lemmas.Bool.{lt-leb}
use Rattle.lines.specs.declared.Kind.{Kind}
use Rattle.lines.specs.declared.Kind.TheVariants.{Write, Read}
use Rattle.lines.specs.declared.Line.{Line}
use Rattle.lines.specs.declared.Line.TheVariants.{Start, Letter, Page, Value, Other}
use Rattle.lines.specs.declared.Request.{Request}
use Rattle.lines.specs.Lines.{space, W, R, is_digit, digit, largest, value_after, all_digits, fitting, decimal}
use Rattle.lines.specs.Lines.{Fields, fields, reading, writing, asked, meaning}
use Rattle.lines.specs.Feeding.{digit_fed, first_byte, page_ended, page_fed, value_fed, fed, finished}

-- A field that is fed to a number, up to the first byte that makes it none.
abbrev number_fed : Option ℕ → List ℕ → Option ℕ
number_fed n [] = n
number_fed n (b ∷ bytes) = option_and_then (λ m. number_fed (Some m) bytes) (digit_fed n b)

-- A number that is over 32 bits stays over, whatever follows.
value_grows : (n : ℕ) (bytes : List ℕ) → n ≤ value_after n bytes
value_grows n [] = omega arith
value_grows n (b ∷ bytes) = omega (arith, value_grows (n * 10 + digit b) bytes)

over_stays : (n : ℕ) (bytes : List ℕ) → largest < n → fitting n bytes ≡ None
over_stays n bytes h = go (all_digits bytes)
  where
    over : leb (value_after n bytes) largest ≡ false
    over = lt-leb (value_after n bytes) largest (omega (arith, value_grows n bytes))

    go : (d : Bool) → cond (d && leb (value_after n bytes) largest) (Some (value_after n bytes)) None ≡ None
    go true = rw over
    go false = refl

-- Feeding digits finds the number that the definition finds.
fits_after : (n : ℕ) (bytes : List ℕ) → n ≤ largest → number_fed (Some n) bytes ≡ fitting n bytes
fits_after n [] h = rw (le-leb n largest h)
fits_after n (b ∷ bytes) h = go (is_digit b) (leb (n * 10 + digit b) largest) refl (fits_after (n * 10 + digit b) bytes)
  where
    m : ℕ
    m = n * 10 + digit b

    go : (d fit : Bool) → leb m largest ≡ fit → (m ≤ largest → number_fed (Some m) bytes ≡ fitting m bytes)
        → option_and_then (λ k. number_fed (Some k) bytes) (cond d (cond fit (Some m) None) None)
        ≡ cond (d && all_digits bytes && leb (value_after m bytes) largest) (Some (value_after m bytes)) None
    go true true e ih = ih (leb-true _ _ e)
    go true false e ih = sym (over_stays m bytes (leb-false _ _ e))
    go false fit e ih = refl

number_is_decimal : (bytes : List ℕ) → number_fed None bytes ≡ decimal bytes
number_is_decimal [] = refl
number_is_decimal (b ∷ bytes) = fits_after 0 (b ∷ bytes) (omega arith)

-- What a line means that is read this far, by the fields that follow: `field` is what is left of the one that is being read, and
-- `others` are those after it. First where the page is read, of an R and of a W, and where the value is.
abbrev page_on : Kind → Option ℕ → List (List ℕ) → Option Request
page_on Read page [] = reading page
page_on Read page (value ∷ others) = None
page_on Write page [] = None
page_on Write page (value ∷ []) = writing page (decimal value)
page_on Write page (value ∷ more ∷ others) = None

abbrev value_on : ℕ → Option ℕ → List (List ℕ) → Option Request
value_on page value [] = writing (Some page) value
value_on page value (more ∷ others) = None

abbrev letter : Kind → ℕ
letter Write = W
letter Read = R

abbrev means : Line → List ℕ → List (List ℕ) → Option Request
means Start field others = asked field others
means (Letter kind) field others = asked (letter kind ∷ field) others
means (Page kind n) field others = page_on kind (number_fed n field) others
means (Value page n) field others = value_on page (number_fed n field) others
means Other field others = None

abbrev means_with : Line → Fields → Option Request
means_with line rest = means line rest.first rest.others

-- A first field of no byte, of two or more, or of another byte asks nothing.
no_letter : (fs : List (List ℕ)) → None ≡ asked [] fs
no_letter [] = refl
no_letter (p ∷ []) = refl
no_letter (p ∷ v ∷ []) = refl
no_letter (p ∷ v ∷ m ∷ fs) = refl

two_letters : (a b : ℕ) (f : List ℕ) (fs : List (List ℕ)) → None ≡ asked (a ∷ b ∷ f) fs
two_letters a b f [] = refl
two_letters a b f (p ∷ []) = refl
two_letters a b f (p ∷ v ∷ []) = refl
two_letters a b f (p ∷ v ∷ m ∷ fs) = refl

another_letter : (b : ℕ) (f : List ℕ) (fs : List (List ℕ)) → eqb b W ≡ false → eqb b R ≡ false → None ≡ asked (b ∷ f) fs
another_letter b [] [] w r = refl
another_letter b [] (p ∷ []) w r = rw r
another_letter b [] (p ∷ v ∷ []) w r = rw w
another_letter b [] (p ∷ v ∷ m ∷ fs) w r = refl
another_letter b (c ∷ f) fs w r = two_letters b c f fs

-- A first byte, and the field that goes on behind it.
first_means : (b : ℕ) (f : List ℕ) (fs : List (List ℕ)) → means (first_byte b) f fs ≡ asked (b ∷ f) fs
first_means b f fs = go (eqb b W) (eqb b R) refl refl
  where
    go : (w r : Bool) → eqb b W ≡ w → eqb b R ≡ r
        → means (cond w (Letter Write) (cond r (Letter Read) Other)) f fs ≡ asked (b ∷ f) fs
    go true r e e' = rw (eqb-true b W e)
    go false true e e' = rw (eqb-true b R e')
    go false false e e' = another_letter b f fs e e'

-- A space after the letter: the page's field begins.
page_begins : (kind : Kind) (f : List ℕ) (fs : List (List ℕ)) → means (Page kind None) f fs ≡ asked (letter kind ∷ []) (f ∷ fs)
page_begins Write f [] = refl
page_begins Write f (v ∷ []) = rw (number_is_decimal f)
page_begins Write f (v ∷ m ∷ fs) = refl
page_begins Read f [] = rw (number_is_decimal f)
page_begins Read f (v ∷ []) = refl
page_begins Read f (v ∷ m ∷ fs) = refl

-- A space after the page: of a W the value's field begins.
page_ends : (kind : Kind) (page : Option ℕ) (f : List ℕ) (fs : List (List ℕ))
    → means (page_ended kind page) f fs ≡ page_on kind page (f ∷ fs)
page_ends Write None f [] = refl
page_ends Write None f (m ∷ fs) = refl
page_ends Write (Some page) f [] = rw (number_is_decimal f)
page_ends Write (Some page) f (m ∷ fs) = refl
page_ends Read None f fs = refl
page_ends Read (Some page) f fs = refl

-- A byte more of a page or of a value: a line whose number is none asks nothing, whatever follows.
page_extends : (kind : Kind) (n : Option ℕ) (f : List ℕ) (fs : List (List ℕ))
    → means (page_fed kind n) f fs ≡ page_on kind (option_and_then (λ m. number_fed (Some m) f) n) fs
page_extends kind (Some n) f fs = refl
page_extends Write None f [] = refl
page_extends Write None f (v ∷ []) = refl
page_extends Write None f (v ∷ m ∷ fs) = refl
page_extends Read None f [] = refl
page_extends Read None f (v ∷ fs) = refl

value_extends : (page : ℕ) (n : Option ℕ) (f : List ℕ) (fs : List (List ℕ))
    → means (value_fed page n) f fs ≡ value_on page (option_and_then (λ m. number_fed (Some m) f) n) fs
value_extends page (Some n) f fs = refl
value_extends page None f [] = refl
value_extends page None f (m ∷ fs) = refl

-- A space ends the field that is read, and any other byte extends it.
space_ends : (line : Line) (f : List ℕ) (fs : List (List ℕ)) → means (fed line space) f fs ≡ means line [] (f ∷ fs)
space_ends Start f fs = no_letter (f ∷ fs)
space_ends (Letter kind) f fs = page_begins kind f fs
space_ends (Page kind n) f fs = page_ends kind n f fs
space_ends (Value page n) f fs = refl
space_ends Other f fs = refl

byte_extends : (line : Line) (b : ℕ) (f : List ℕ) (fs : List (List ℕ)) → eqb b space ≡ false
    → means (fed line b) f fs ≡ means line (b ∷ f) fs
byte_extends Start b f fs e = first_means b f fs
byte_extends (Letter kind) b f fs e = rw e (two_letters (letter kind) b f fs)
byte_extends (Page kind n) b f fs e = rw e (page_extends kind (digit_fed n b) f fs)
byte_extends (Value page n) b f fs e = value_extends page (digit_fed n b) f fs
byte_extends Other b f fs e = refl

-- One byte: the line before it and the line after it mean the same.
byte_means : (line : Line) (b : ℕ) (bytes : List ℕ) → means_with (fed line b) (fields bytes) ≡ means_with line (fields (b ∷ bytes))
unfolding fields
byte_means line b bytes = go (eqb b space) refl
  where
    rest : Fields
    rest = fields bytes

    go : (s : Bool) → eqb b space ≡ s → means_with (fed line b) rest
        ≡ means_with line
        (cond s
        (record { first = []; others = rest.first ∷ rest.others })
        (record { first = b ∷ rest.first; others = rest.others }))
    go true e = rw (eqb-true b space e) (space_ends line rest.first rest.others)
    go false e = byte_extends line b rest.first rest.others e

finished_means : (line : Line) → finished line ≡ means line [] []
finished_means Start = refl
finished_means (Letter kind) = refl
finished_means (Page Write n) = refl
finished_means (Page Read n) = refl
finished_means (Value page n) = refl
finished_means Other = refl

read_from : (line : Line) (bytes : List ℕ) → finished (foldl fed line bytes) ≡ means_with line (fields bytes)
unfolding fields
read_from line [] = finished_means line
read_from line (b ∷ bytes) = read_from (fed line b) bytes ∙ byte_means line b bytes

-- "`W page value` .. or `R page`": every line is read as its meaning.
pub read_as_meaning : (bytes : List ℕ) → finished (foldl fed Start bytes) ≡ meaning bytes
unfolding meaning
read_as_meaning bytes = read_from Start bytes
