-- Demand 1's grounds: for what each refusal is given, as a table for each call and for a record of a run, and what it is for a reply to
-- keep to such a table. The rows say in propositions what scope's Calls.antt tests, list for list.
use Rattle.std.specs.Prelude.{ℕ, ◌≤◌, ◌<◌, ◌≡◌, ◌≢◌, ◌↔◌, ◌⊎◌, cond, List, [], ◌∷◌, ◌++◌, eqb, length}
use Rattle.scope.specs.Geometry.{Geometry, Accepted}
use Rattle.scope.specs.SmallRecord.{SmallRecord}
use Rattle.scope.specs.Lent.{State, Request, most_requests}
use Rattle.scope.specs.Sound.{Sound}
use Rattle.scope.specs.Replies.{GEOMETRY, LENGTH, DAMAGED, KIND, PAGE, Size}
use Rattle.scope.specs.Calls.{state_sizes, buffer_sizes, run_sizes, kinds, read_of, write_of}
use Rattle.promises.specs.Call.{Call, Format, Check, ReadPage, WritePage, Run}

-- A number that refuses: neither DONE nor UNWRITTEN.
abbrev pub Refusal : ℕ → Type 0
Refusal reply = GEOMETRY ≤ reply

-- A row of a table: a refusal's number, the ground that it is given for, and what it is to pass its test.
pub record Ground : Type 1 where
  pub number : ℕ
  pub Holds : Type 0
  pub Passes : Type 0

-- "The first that applies answers": number n is given where the rows before its own pass and its own ground holds; one that no row has,
-- never.
abbrev pub GivenFor : List Ground → ℕ → Type 0
GivenFor [] n = ⊥
GivenFor (row ∷ rows) n = cond (eqb row.number n) row.Holds (row.Passes × GivenFor rows n)

-- Each refusal is answered exactly where it is given, and none otherwise.
abbrev pub Refuses : ℕ → List Ground → Type 0
Refuses reply rows = (n : ℕ) → Refusal n → (reply ≡ n) ↔ GivenFor rows n

-- Every test is passed.
abbrev pub AllPassed : List Ground → Type 0
AllPassed [] = Unit {0}
AllPassed (row ∷ rows) = row.Passes × AllPassed rows

-- ---- the rows

-- Every size is the one that it should be; some size isn't.
abbrev pub Right : List Size → Type 0
Right [] = Unit {0}
Right (z ∷ zs) = (z.has ≡ z.should) × Right zs

abbrev pub Wrong : List Size → Type 0
Wrong [] = ⊥
Wrong (z ∷ zs) = (z.has ≢ z.should) ⊎ Wrong zs

-- The geometry's and the lengths'; these and the state's; a request's.
abbrev pub size_grounds : Geometry → (fits misfits : Type 0) → List Ground
size_grounds g fits misfits =
    record { number = GEOMETRY; Holds = ¬ (Accepted g); Passes = Accepted g }
    ∷ record { number = LENGTH; Holds = misfits; Passes = fits }
    ∷ []

abbrev pub state_ground : Geometry → State → Ground
state_ground g s = record { number = DAMAGED; Holds = ¬ (Sound g s); Passes = Sound g s }

abbrev pub state_grounds : Geometry → State → (fits misfits : Type 0) → List Ground
state_grounds g s fits misfits = size_grounds g fits misfits ++ state_ground g s ∷ []

abbrev pub request_grounds : Geometry → SmallRecord → Request → List Ground
request_grounds g small q =
    record { number = KIND; Holds = kinds ≤ q.kind; Passes = q.kind < kinds }
    ∷ record { number = PAGE; Holds = g.L ≤ q.page; Passes = q.page < g.L }
    ∷ []

-- ---- the table of each call

-- A read or a write, as the request that it is.
abbrev pub single_grounds : Geometry → List Size → Request → List ℕ → State → List Ground
single_grounds g others q buffer s =
    let sizes = state_sizes g s ++ buffer_sizes g buffer ++ others in
    state_grounds g s (Right sizes) (Wrong sizes) ++ request_grounds g s.small q

-- "LENGTH: some slice differs from the sizes above, or a run has over 1,024 records."
abbrev pub grounds : Geometry → Call → State → List Ground
grounds g (Format others) s = size_grounds g (Right (state_sizes g s ++ others)) (Wrong (state_sizes g s ++ others))
grounds g (Check others) s = state_grounds g s (Right (state_sizes g s ++ others)) (Wrong (state_sizes g s ++ others))
grounds g (ReadPage others l buffer) s = single_grounds g others (read_of l) buffer s
grounds g (WritePage others l buffer) s = single_grounds g others (write_of l) buffer s
grounds g (Run others requests words answers) s =
    let sizes = state_sizes g s ++ run_sizes g requests words answers ++ others in
    state_grounds g s (Right sizes × (length requests ≤ most_requests)) (Wrong sizes ⊎ (most_requests < length requests))
