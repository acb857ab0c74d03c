-- What a step does to the flash, as a list of operations in order, and what a step is: from the state before to the state after,
-- with the operations it made. The steps of 01 are written with what stands here and change chip and spare in no other way.
use Rattle.std.specs.Prelude.{ℕ, zero, suc, ◌+◌, ◌*◌, List, [], ◌∷◌, ◌++◌, replicate}
use Rattle.std.proofs.lemmas.List.Edits.{sets}
use Rattle.scope.specs.Geometry.{Geometry}
use Rattle.scope.specs.SmallRecord.{SmallRecord}
use Rattle.scope.specs.Lent.{erased, invalid, State, with_flash, with_directory, with_cache, with_small, with_state, with_claim, with_erased}

-- A read of a page, a program of a page with its owner and words, a mark of a page as invalid, an erase of a block.
pub data Operation : Type 0 where
  Read : ℕ → Operation
  Program : ℕ → ℕ → List ℕ → Operation
  Mark : ℕ → Operation
  Erase : ℕ → Operation

-- What an operation does to chip and spare. A program stores a page's words, makes it valid and names its owner; a mark stores
-- the state invalid; an erase makes every word of the block and of its pages' spare the erased word.
unfoldable pub apply : Geometry → Operation → State → State
apply g (Read p) s = s
apply g (Program p owner words) s =
    with_flash (sets s.chip (p * g.W) words) (with_claim p owner s.spare) s
apply g (Mark p) s = with_flash s.chip (with_state p invalid s.spare) s
apply g (Erase b) s =
    with_flash (sets s.chip (b * g.P * g.W) (replicate (g.P * g.W) erased)) (with_erased (b * g.P) g.P s.spare) s

-- A list of operations, the first one first.
unfoldable pub apply_all : Geometry → List Operation → State → State
apply_all g [] s = s
apply_all g (o ∷ os) s = apply_all g os (apply g o s)

-- "Counts are reads, programs, erases. Marking a page invalid isn't counted."
pub record Counts : Type 0 where
  pub reads : ℕ
  pub programs : ℕ
  pub erases : ℕ

abbrev pub counts_add : Counts → Counts → Counts
counts_add a b =
    record { reads = a.reads + b.reads; programs = a.programs + b.programs; erases = a.erases + b.erases }

abbrev pub no_counts : Counts
no_counts = record { reads = 0; programs = 0; erases = 0 }

abbrev pub counts_of : Operation → Counts
counts_of (Read p) = record { reads = 1; programs = 0; erases = 0 }
counts_of (Program p owner words) = record { reads = 0; programs = 1; erases = 0 }
counts_of (Mark p) = no_counts
counts_of (Erase b) = record { reads = 0; programs = 0; erases = 1 }

-- "The three counts equal the reads, programs and erases among the listed steps": of a list of operations, and nothing else.
unfoldable pub counted : List Operation → Counts
counted [] = no_counts
counted (o ∷ os) = counts_add (counts_of o) (counted os)

-- What a step hands back, the state after it, and the operations it made, in order.
pub record Outcome (A : Type 0) : Type 0 where
  pub value : A
  pub after : State
  pub did : List Operation

abbrev pub Step : Type 0 → Type 0
Step A = State → Outcome A

-- Nothing is done, and x handed back.
unfoldable pub give : {A : Type 0} → A → Step A
give x s = record { value = x; after = s; did = [] }

-- One step, and then the one that what it handed back asks for: their operations in that order.
infixl 20 ◌>>=◌
unfoldable pub ◌>>=◌ : {A B : Type 0} → Step A → (A → Step B) → Step B
◌>>=◌ m f s =
    let a = m s in
    let b = f a.value a.after in
    record { value = b.value; after = b.after; did = a.did ++ b.did }

infixl 20 ◌>>◌
abbrev pub ◌>>◌ : {A B : Type 0} → Step A → Step B → Step B
◌>>◌ m n = m >>= (λ _. n)

abbrev pub nothing : Step (Unit {0})
nothing = give tt

-- What is to be seen of the state as it is now.
unfoldable pub look : {A : Type 0} → (State → A) → Step A
look f s = record { value = f s; after = s; did = [] }

-- An operation, done and listed: the only step that changes chip or spare.
unfoldable pub perform : Geometry → Operation → Step (Unit {0})
perform g o s = record { value = tt; after = apply g o s; did = o ∷ [] }

-- The parts of the state that are not flash.
unfoldable pub set_directory : (State → List ℕ) → Step (Unit {0})
set_directory f s = record { value = tt; after = with_directory (f s) s; did = [] }

unfoldable pub set_cache : (State → List ℕ) → Step (Unit {0})
set_cache f s = record { value = tt; after = with_cache (f s) s; did = [] }

unfoldable pub set_small : (SmallRecord → SmallRecord) → Step (Unit {0})
set_small f s = record { value = tt; after = with_small (f s.small) s; did = [] }

-- A step for each number below n, in rising order.
unfoldable pub for : ℕ → (ℕ → Step (Unit {0})) → Step (Unit {0})
for zero f = nothing
for (suc n) f = for n f >> f n
