-- What demand 3 asks of a list of operations: what it costs, and what is said of each at its moment, "in their order": that only erased pages
-- are programmed, and that "a change other than an erase only clears bits".
use Rattle.std.specs.Prelude.{ℕ, ◌+◌, ◌<◌, ◌≡◌, ◌≢◌, List, [], ◌∷◌, length}
use Rattle.std.specs.Int.Bits.{bit_and}
use Rattle.scope.specs.Geometry.{Geometry, pages}
use Rattle.scope.specs.Regions.{page_in}
use Rattle.scope.specs.Lent.{none, erased, State, word_of, state_of, owner_of}
use Rattle.scope.specs.Operations.{Operation, Read, Program, Mark, Erase, apply, Counts, counted}

-- The reads, the programs and the erases: what demand 3 bounds.
abbrev pub total : Counts → ℕ
total c = c.reads + c.programs + c.erases

abbrev pub cost : List Operation → ℕ
cost os = total (counted os)

-- Page p is erased as a whole, spare and chip: its state is erased, it has no owner, and each of its W words is the erased word.
pub record PageErased (g : Geometry) (p : ℕ) (chip spare : List ℕ) : Type 0 where
  pub state : state_of p spare ≡ erased
  pub owner : owner_of p spare ≡ none
  pub words : (i : ℕ) → i < g.W → word_of g p i chip ≡ erased

-- A program is of a page of the chip that is erased as a whole, and stores a page's words, W of them, so that it stays within that page;
-- the other operations ask for nothing.
abbrev pub Allows : Geometry → Operation → List ℕ → List ℕ → Type 0
Allows g (Read p) chip spare = Unit {0}
Allows g (Program p owner words) chip spare = (p < pages g) × PageErased g p chip spare × (length words ≡ g.W)
Allows g (Mark p) chip spare = Unit {0}
Allows g (Erase b) chip spare = Unit {0}

-- Each operation is allowed by chip and spare as the ones before it left them.
abbrev pub Allowed : Geometry → List Operation → State → Type 0
Allowed g [] s = Unit {0}
Allowed g (o ∷ os) s = Allows g o s.chip s.spare × Allowed g os (apply g o s)

-- No bit is set in the new word that was not set in the old one.
abbrev pub OnlyClears : ℕ → ℕ → Type 0
OnlyClears new old = bit_and new old ≡ new

-- A page that is none of block b's.
abbrev pub Outside : Geometry → ℕ → ℕ → Type 0
Outside g b q = (i : ℕ) → i < g.P → q ≢ page_in g b i

-- The operation is no erase of the page's block.
abbrev pub NotErasedBy : Geometry → Operation → ℕ → Type 0
NotErasedBy g (Read q) p = Unit {0}
NotErasedBy g (Program q owner words) p = Unit {0}
NotErasedBy g (Mark q) p = Unit {0}
NotErasedBy g (Erase b) p = Outside g b p

-- An operation only clears bits of the states of the pages that it does not erase; and so does each of a list at its moment.
abbrev pub Clears : Geometry → Operation → State → Type 0
Clears g o s =
    (p : ℕ) → p < pages g → NotErasedBy g o p → OnlyClears (state_of p (apply g o s).spare) (state_of p s.spare)

abbrev pub ClearsEach : Geometry → List Operation → State → Type 0
ClearsEach g [] s = Unit {0}
ClearsEach g (o ∷ os) s = Clears g o s × ClearsEach g os (apply g o s)
