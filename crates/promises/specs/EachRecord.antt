-- A run record by record: "each record gets its own number and the run goes on". Record i is a request of its own, on its own part of the
-- words, from the state that the records before it left.
use Rattle.std.specs.Prelude.{ℕ, zero, suc, ◌<◌, ◌≡◌, ◌≢◌, ◌⊎◌, List, [], ◌++◌, length, get_or}
use Rattle.scope.specs.Geometry.{Geometry}
use Rattle.scope.specs.Lent.{none, State, Request}
use Rattle.scope.specs.Operations.{Operation, Outcome}
use Rattle.scope.specs.Replies.{DONE}
use Rattle.scope.specs.Requests.{Replied}
use Rattle.scope.specs.Calls.{part, no_request, answer_record}
use Rattle.promises.specs.Call.{Answer}
use Rattle.promises.specs.Grounds.{Refuses, Refusal, request_grounds}

-- "Unchanged", and no operation, so that the counts are 0, 0, 0.
pub record Unchanged {A : Type 0} (s : State) (o : Outcome A) : Type 0 where
  pub state : o.after ≡ s
  pub operations : o.did ≡ []

-- The state before record i of a run that begins in state s.
abbrev pub before_record : Geometry → List Request → List ℕ → State → ℕ → State
before_record g requests words s zero = s
before_record g requests words s (suc i) =
    (answer_record g (get_or requests i no_request) (part g i words) (before_record g requests words s i)).after

-- Record i's outcome.
abbrev pub record_outcome : Geometry → List Request → List ℕ → State → ℕ → Outcome Replied
record_outcome g requests words s i =
    answer_record g (get_or requests i no_request) (part g i words) (before_record g requests words s i)

-- The operations of the first n records, in order.
abbrev pub records_did : Geometry → List Request → List ℕ → State → ℕ → List Operation
records_did g requests words s zero = []
records_did g requests words s (suc n) = records_did g requests words s n ++ (record_outcome g requests words s n).did

-- A run that answered DONE, by what it handed back.
pub record Ran (g : Geometry) (requests : List Request) (words answers : List ℕ) (s : State) (a : Answer) : Type 0 where
  -- Each answer is its record's own.
  pub answered : (i : ℕ) → i < length requests → get_or a.answers i none ≡ (record_outcome g requests words s i).value.reply
  pub as_long : (length a.words ≡ length words) × (length a.answers ≡ length answers)
  -- A record is refused exactly on its grounds, and then changes nothing but its answer.
  pub refuses : (i : ℕ) → i < length requests
      → Refuses (get_or a.answers i none) (request_grounds g (before_record g requests words s i).small (get_or requests i no_request))
  pub unchanged : (i : ℕ) → i < length requests → Refusal (get_or a.answers i none)
      → Unchanged (before_record g requests words s i) (record_outcome g requests words s i)
  -- "The words of an UNWRITTEN or refused read stay", and so do a write's.
  pub keeps : (i : ℕ) → i < length requests → (get_or a.answers i none ≢ DONE) ⊎ ((get_or requests i no_request).kind ≢ 0)
      → part g i a.words ≡ part g i words
