-- The three demands, as statements about whatever outcome the contract of a public call allows: one m, from any lent memory whatever
-- (demand 1 and what was done), or on the node that a trace of calls has left (demands 2 and 3). The theorem is `calls_meet` of
-- Theorems.antt.
use Rattle.std.specs.Prelude.{ℕ, ◌+◌, ◌≤◌, ◌<◌, ◌≡◌, ◌≢◌, List, [], ◌++◌, length, get_or}
use Rattle.scope.specs.Geometry.{Geometry, Accepted}
use Rattle.scope.specs.Lent.{none, State, Request, most_requests}
use Rattle.scope.specs.Sound.{Sound}
use Rattle.scope.specs.Operations.{Operation, apply_all, counted}
use Rattle.scope.specs.Replies.{DONE, UNWRITTEN, Size}
use Rattle.scope.specs.Boundary.{Words, put_counts}
use Rattle.scope.specs.Calls.{state_sizes, buffer_sizes, run_sizes, read_of, write_of, part, no_request}
use Rattle.flash.specs.Moments.{Allowed, ClearsEach}
use Rattle.promises.specs.Call.{Call, Format, Check, ReadPage, WritePage, Run, Answer, make}
use Rattle.promises.specs.Grounds.{Refusal, Refuses, Right, AllPassed, grounds}
use Rattle.promises.specs.EachRecord.{before_record, record_outcome, records_did, Ran}
use Rattle.promises.specs.Remembered.{Store, Nothing, noted_records, held, Tells}
use Rattle.promises.specs.Bounds.{OneForEach, BelowLimit, ServesWell}
use Rattle.contracts.specs.Made.{Numbers, AsWords, entry, exit, counts_at_entry, counts_at_exit, Made, ContractAllows, ByContract, LeftAlone, Whole, Trace, remembered}

-- ---- Demand 1: any input, one answer

pub record Demand1 (g : Geometry) (m : Made) : Type 0 where
  -- Each refusal exactly on its grounds, and no other number; what isn't refused has passed every test.
  pub refuses : Refuses m.answer.reply (grounds g m.call (entry m.lent))
  pub passes : ¬ (Refusal m.answer.reply) → AllPassed (grounds g m.call (entry m.lent))
  pub unwritten_by_read : m.answer.reply ≡ UNWRITTEN
      → (others : List Size) × (l : ℕ) × (buffer : List ℕ) × (m.call ≡ ReadPage others l buffer)
  -- The table's "lent memory after" is "unchanged". So it is after check, and "an empty run changes nothing".
  pub unchanged : Refusal m.answer.reply → LeftAlone m
  pub check_unchanged : (others : List Size) → m.call ≡ Check others → LeftAlone m
  pub empty_run : (others : List Size) (words answers : List ℕ) → m.call ≡ Run others [] words answers → LeftAlone m
  -- "Read DONE fills the page buffer, and a write leaves it."
  pub read_keeps : (others : List Size) (l : ℕ) (buffer : List ℕ) → m.call ≡ ReadPage others l buffer → m.answer.reply ≢ DONE
      → m.answer.words ≡ buffer
  pub write_keeps : (others : List Size) (l : ℕ) (buffer : List ℕ) → m.call ≡ WritePage others l buffer → m.answer.words ≡ buffer
  -- "Each record gets its own number and the run goes on"; a refused one writes only its own answer.
  pub run_ran : (others : List Size) (requests : List Request) (words answers : List ℕ)
      → m.call ≡ Run others requests words answers → m.answer.reply ≡ DONE
      → Ran g requests words answers (entry m.lent) m.answer

-- ---- what was done

-- "The listed steps that the call's definition makes."
abbrev pub did : Geometry → Made → List Operation
did g m = (make g m.call (entry m.lent)).did

pub record DoneAsListed (g : Geometry) (m : Made) : Type 0 where
  -- "In every answer the three counts equal the reads, programs and erases among the listed steps."
  pub counted : counts_at_exit m.lent ≡ put_counts (counts_at_entry m.lent) (counted (did g m))
  -- These same operations, in their order, made the chip and the spare.
  pub chip_made : (exit m.lent).chip ≡ (apply_all g (did g m) (entry m.lent)).chip
  pub spare_made : (exit m.lent).spare ≡ (apply_all g (did g m) (entry m.lent)).spare
  -- A run's are its records', so that it counts "the sums of its records' counts".
  pub run_did : (others : List Size) (requests : List Request) (words answers : List ℕ)
      → m.call ≡ Run others requests words answers → m.answer.reply ≡ DONE
      → did g m ≡ records_did g requests words (entry m.lent) (length requests)

-- ---- Demand 2: reads give what was written

-- The store is what a program remembers: a read tells what it holds, and so does each record of a run.
pub record Demand2 (g : Geometry) (store : Store) (m : Made) : Type 0 where
  pub read_tells : (others : List Size) (l : ℕ) (buffer : List ℕ) → m.call ≡ ReadPage others l buffer
      → ¬ (Refusal m.answer.reply) → Tells (store l) m.answer.reply m.answer.words
  pub record_tells : (others : List Size) (requests : List Request) (words answers : List ℕ) (i : ℕ)
      → m.call ≡ Run others requests words answers →
      let q = get_or requests i no_request in
      let reply = get_or m.answer.answers i none in
      m.answer.reply ≡ DONE → i < length requests → q.kind ≡ 0 → ¬ (Refusal reply)
      → Tells (noted_records g requests words m.answer.answers i store q.page) reply (part g i m.answer.words)

-- ---- Demand 3: there is always room, at a bounded cost

-- With right lengths, and of a request below the limit.
pub record Demand3 (g : Geometry) (m : Made) : Type 0 where
  pub reads_well : (others : List Size) (l : ℕ) (buffer : List ℕ) → m.call ≡ ReadPage others l buffer
      → Right (buffer_sizes g buffer ++ others) → BelowLimit g (entry m.lent).small (read_of l)
      → ServesWell g (read_of l) m.answer.reply (did g m)
  pub writes_well : (others : List Size) (l : ℕ) (buffer : List ℕ) → m.call ≡ WritePage others l buffer
      → Right (buffer_sizes g buffer ++ others) → BelowLimit g (entry m.lent).small (write_of l)
      → ServesWell g (write_of l) m.answer.reply (did g m)
  pub checks_well : (others : List Size) → m.call ≡ Check others → Right others → m.answer.reply ≡ DONE
  pub runs_well : (others : List Size) (requests : List Request) (words answers : List ℕ)
      → m.call ≡ Run others requests words answers
      → Right (run_sizes g requests words answers ++ others) → length requests ≤ most_requests → m.answer.reply ≡ DONE
  pub records_well : (others : List Size) (requests : List Request) (words answers : List ℕ) (i : ℕ)
      → m.call ≡ Run others requests words answers → m.answer.reply ≡ DONE → i < length requests →
      let q = get_or requests i no_request in
      BelowLimit g (before_record g requests words (entry m.lent) i).small q
      → ServesWell g q (get_or m.answer.answers i none) (record_outcome g requests words (entry m.lent) i).did
  -- "Only erased pages are programmed", and "a change other than an erase only clears bits": of each operation at its moment.
  pub allowed : Allowed g (did g m) (entry m.lent)
  pub clears : ClearsEach g (did g m) (entry m.lent)

-- ---- where a trace begins, and what it leaves

-- A node that is checked: its geometry is accepted, its lengths are right, and its state is sound.
pub record Node (g : Geometry) (s : State) : Type 0 where
  pub accepted : Accepted g
  pub lengths : Right (state_sizes g s)
  pub sound : Sound g s

-- After a trace from s to s': the node, and any further call on it.
pub record DemandsAfter (g : Geometry) (s : State) (ms : List Made) (s' : State) : Type 0 where
  pub node : Node g s'
  pub one_for_each : OneForEach g s'
  pub demand_2 : (m : Made) → ByContract g m → entry m.lent ≡ s' → Demand2 g (remembered g ms (held g s)) m
  pub demand_3 : (m : Made) → ByContract g m → entry m.lent ≡ s' → Demand3 g m

-- A format: "Counts 0, 0, D+T."
pub record Formatted (g : Geometry) (m : Made) : Type 0 where
  pub done : m.answer.reply ≡ DONE
  pub counts : counted (did g m) ≡ record { reads = 0; programs = 0; erases = g.D + g.T }
  pub node : Whole m.lent → Node g (exit m.lent)
  pub nothing_held : Whole m.lent → (l : ℕ) → l < g.L → held g (exit m.lent) l ≡ Nothing

-- ---- all that is proved

pub record CallsMeet (g : Geometry) : Type 0 where
  pub demand_1 : (m : Made) → ByContract g m → Demand1 g m
  -- "Any two outcomes allowed by it are equal", for Rattle and for C.
  pub one_outcome : (c : Call) (s : State) (counts : List ℕ) (a b : Answer) (s' s'' : State) (counts' counts'' : List ℕ)
      → ContractAllows g c a (Numbers s counts s' counts') → ContractAllows g c b (Numbers s counts s'' counts'')
      → (a ≡ b) × (s' ≡ s'') × (counts' ≡ counts'')
  pub one_outcome_in_words : (c : Call) (w : Words) (a b : Answer) (w' w'' : Words)
      → ContractAllows g c a (AsWords w w') → ContractAllows g c b (AsWords w w'') → (a ≡ b) × (w' ≡ w'')
  pub done_as_listed : (m : Made) → ByContract g m → DoneAsListed g m
  -- Demands 2 and 3, after any trace from a node.
  pub demands_after : (s : State) (ms : List Made) (s' : State) → Node g s → Trace g s ms s' → DemandsAfter g s ms s'
  -- Such a node is what any call but format has found, where it isn't refused.
  pub checked : (m : Made) → ByContract g m → ((others : List Size) → m.call ≢ Format others) → ¬ (Refusal m.answer.reply)
      → Node g (entry m.lent)
  -- And format makes one of any lent memory of the right lengths.
  pub formatted : (m : Made) → ByContract g m → (others : List Size) → m.call ≡ Format others → Accepted g
      → Right (state_sizes g (entry m.lent) ++ others) → Formatted g m
