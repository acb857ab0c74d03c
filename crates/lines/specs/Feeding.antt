-- A line read byte by byte: what each byte makes of what has been read so far. Reads.antt shows that this finds the line's meaning.
use Rattle.std.specs.Prelude.{ℕ, ◌+◌, ◌*◌, cond, eqb, leb, Option, Some, None, unwrap_or}
use Rattle.lines.specs.declared.Kind.{Kind}
use Rattle.lines.specs.declared.Kind.TheVariants.{Write, Read}
use Rattle.lines.specs.declared.Line.{Line}
use Rattle.lines.specs.declared.Line.TheVariants.{Start, Letter, Page, Value, Other}
use Rattle.lines.specs.declared.Request.{Request}
use Rattle.lines.specs.Lines.{space, W, R, is_digit, digit, largest, reading, writing}

-- A number with one digit more, where 32 bits hold it.
abbrev pub extended : ℕ → ℕ → Option ℕ
extended n d = cond (leb (n * 10 + d) largest) (Some (n * 10 + d)) None

-- The number that a field holds with one byte more: none where the byte is no digit.
abbrev pub digit_fed : Option ℕ → ℕ → Option ℕ
digit_fed n b = cond (is_digit b) (extended (unwrap_or n 0) (digit b)) None

abbrev pub first_byte : ℕ → Line
first_byte b = cond (eqb b W) (Letter Write) (cond (eqb b R) (Letter Read) Other)

-- A space after the page: only a W with a number goes on.
abbrev pub page_ended : Kind → Option ℕ → Line
page_ended kind None = Other
page_ended Write (Some page) = Value page None
page_ended Read (Some page) = Other

-- A page or a value goes on while it is a number.
abbrev pub page_fed : Kind → Option ℕ → Line
page_fed kind None = Other
page_fed kind (Some n) = Page kind (Some n)

abbrev pub value_fed : ℕ → Option ℕ → Line
value_fed page None = Other
value_fed page (Some n) = Value page (Some n)

-- The line with one byte more.
abbrev pub fed : Line → ℕ → Line
fed Start b = first_byte b
fed (Letter kind) b = cond (eqb b space) (Page kind None) Other
fed (Page kind n) b = cond (eqb b space) (page_ended kind n) (page_fed kind (digit_fed n b))
fed (Value page n) b = value_fed page (digit_fed n b)
fed Other b = Other

-- What a line asks for that ends here.
abbrev pub finished : Line → Option Request
finished Start = None
finished (Letter kind) = None
finished (Page Write n) = None
finished (Page Read n) = reading n
finished (Value page n) = writing (Some page) n
finished Other = None
