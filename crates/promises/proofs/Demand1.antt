-- Demand 1 of any call from any state: each call's law (Refusals.antt), and what a run makes of its records' (Records.antt).
use Prim.Native.Nat.{ℕ, zero, suc, ◌*◌, ◌<◌}
use Rattle.std.specs.Prelude.{◌≡◌, ◌≢◌, length, get_or}
use Rattle.std.proofs.Math.Path.{refl, ap, ap₂}
use Rattle.std.proofs.Common.{◌∙◌, inl, inr}
use mathlib.Core.List.{List, [], ◌++◌, append-nil}
use native.Mathlib.Omega.{arith}
use Rattle.scope.specs.Geometry.{Geometry}
use Rattle.scope.specs.Lent.{none, State, Request}
use Rattle.scope.specs.Operations.{◌>>=◌, Outcome, Step, give}
use Rattle.scope.specs.Replies.{DONE, UNWRITTEN, Size}
use Rattle.scope.specs.Requests.{Replied, replied, format_steps}
use Rattle.scope.specs.Calls.{read_of, write_of, RunReplied, no_request, part, serve, serve_records, check, read, write, run, state_sizes, run_sizes}
use Rattle.flash.specs.Cases.{below?}
use Rattle.promises.specs.Call.{Call, Format, Check, ReadPage, WritePage, Run, answer, make, as_lent}
use Rattle.promises.specs.Grounds.{Ground, Refuses, Refusal, AllPassed, request_grounds, grounds}
use Rattle.promises.specs.EachRecord.{Unchanged, before_record, record_outcome, records_did, Ran}
use Rattle.promises.proofs.Serve.{serve_hands_back}
use Rattle.promises.specs.Tests.{ByGrounds}
use Rattle.promises.specs.GroundsDecided.{right_behind}
use Rattle.promises.proofs.Refusals.{run_reply, record_by_grounds, format_by_grounds, check_by_grounds, read_by_grounds, write_by_grounds, run_by_grounds}
use Rattle.promises.proofs.Records.{so_far, answer_of, record_stores, final_answer, kept_words, length_words, length_answers, answer_is_outcome}

module _ {A : Type 0} {rows : List Ground} {reply : A → ℕ} {refused : ℕ → A} {steps : Step A} {s : State} {o : Outcome A}
    (t : ByGrounds rows reply refused steps s o) where
  unchanged : Refusal (reply o.value) → Unchanged s o
  unfolding give
  unchanged h = record { state = ap (λ o. o.after) (t.refuses h); operations = ap (λ o. o.did) (t.refuses h) }

  -- Where it is not refused it answers what its steps do.
  replies : (n : ℕ) → reply (steps s).value ≡ n → ¬ (Refusal (reply o.value)) → reply o.value ≡ n
  replies n e h =
      below? UNWRITTEN (reply o.value) (λ k. absurd (h k)) (λ k. ap (λ (x : Outcome A). reply x.value) (t.served k).1 ∙ e)

-- ---- the buffers

module _ (g : Geometry) (others : List Size) (l : ℕ) (buffer : List ℕ) (s : State) where
  pub read_keeps : (read g others l buffer s).value.reply ≢ DONE → (read g others l buffer s).value.buffer ≡ buffer
  unfolding give
  read_keeps h =
      let t = read_by_grounds g others l buffer s in
      below? UNWRITTEN (read g others l buffer s).value.reply
      (λ k. ap (λ o. o.value.buffer) (t.refuses k))
      (λ k. rw (t.served k).1 ((serve_hands_back g (read_of l) buffer s).keeps (inl (rw (t.served k).1 at h))))

  pub write_keeps : (write g others l buffer s).value.buffer ≡ buffer
  unfolding give
  write_keeps =
      let t = write_by_grounds g others l buffer s in
      below? UNWRITTEN (write g others l buffer s).value.reply
      (λ k. ap (λ o. o.value.buffer) (t.refuses k))
      (λ k. rw (t.served k).1 ((serve_hands_back g (write_of l) buffer s).keeps (inr (omega arith))))

-- ---- runs

module _ (g : Geometry) (others : List Size) (requests : List Request) (words answers : List ℕ) (s : State) where
  -- A run that is not refused is its records, one after the other.
  pub run_is_records : (run g others requests words answers s).value.reply ≡ DONE
      → run g others requests words answers s ≡ so_far g requests words answers s (length requests)
  run_is_records e = ((run_by_grounds g others requests words answers s).served (omega arith)).1

  pub run_fits : (run g others requests words answers s).value.reply ≡ DONE
      → (length words ≡ length requests * g.W) × (length answers ≡ length requests)
  run_fits e =
      let sizes = ((run_by_grounds g others requests words answers s).served (omega arith)).0.1.0.0 in
      let right = right_behind (state_sizes g s) (run_sizes g requests words answers ++ others) sizes in (right.0, right.1.0)

  -- Record i's own answer is the one that the run hands back.
  pub record_answer : (run g others requests words answers s).value.reply ≡ DONE → (i : ℕ) → i < length requests
      → get_or (run g others requests words answers s).value.answers i none ≡ (answer_of g requests words answers s i).value.reply
  record_answer e i h =
      ap (λ o. get_or o.value.answers i none) (run_is_records e)
      ∙ final_answer g requests words answers s (length requests) i h (omega (arith, (run_fits e).1))

  -- The run's operations are its records', in order.
  records_operations : (n : ℕ) → (so_far g requests words answers s n).did ≡ records_did g requests words s n
  unfolding serve_records give ◌>>=◌
  records_operations zero = refl
  records_operations (suc n) =
      ap₂ ◌++◌ (records_operations n)
      ((record_stores g n (get_or requests n no_request) (so_far g requests words answers s n).value (so_far g requests words answers s n).after).operations
      ∙ append-nil (answer_of g requests words answers s n).did
      ∙ ap (λ (o : Outcome Replied). o.did) (answer_is_outcome g requests words answers s n))

  pub run_operations : (run g others requests words answers s).value.reply ≡ DONE
      → (run g others requests words answers s).did ≡ records_did g requests words s (length requests)
  run_operations e = ap (λ (o : Outcome RunReplied). o.did) (run_is_records e) ∙ records_operations (length requests)

  -- A run that answered DONE.
  pub run_ran : (run g others requests words answers s).value.reply ≡ DONE
      → Ran g requests words answers s (make g (Run others requests words answers) s).value
  run_ran e =
      record {
        answered = is;
        as_long = (
          ap (λ o. length o.value.words) (run_is_records e) ∙ length_words g requests words answers s (length requests),
          ap (λ o. length o.value.answers) (run_is_records e) ∙ length_answers g requests words answers s (length requests),
        );
        refuses = λ i h. rw (is i h) (grounded i).answers;
        unchanged = λ i h r. unchanged (grounded i) (rw (is i h) at r);
        keeps = λ i h k.
            ap (λ o. part g i o.value.words) (run_is_records e)
            ∙ kept_words g requests words answers s (length requests) i h (rw (record_answer e i h) at k);
      }
    where
      is : (i : ℕ) → i < length requests
          → get_or (run g others requests words answers s).value.answers i none ≡ (record_outcome g requests words s i).value.reply
      is i h = record_answer e i h ∙ ap (λ (o : Outcome Replied). o.value.reply) (answer_is_outcome g requests words answers s i)

      grounded : (i : ℕ) →
          let q = get_or requests i no_request in
          let before = before_record g requests words s i in
          ByGrounds (request_grounds g before.small q) (λ r. r.reply) (replied (part g i words)) (serve g q (part g i words)) before
          (record_outcome g requests words s i)
      grounded i = record_by_grounds g (get_or requests i no_request) (part g i words) (before_record g requests words s i)

-- ---- any call

-- The one law of a call's tests: its answer by its grounds, a refusal that leaves all as it was, and what not being refused tells.
pub record Tested (g : Geometry) (c : Call) (s : State) : Type 0 where
  pub answers : Refuses (make g c s).value.reply (grounds g c s)
  pub refuses : Refusal (make g c s).value.reply → make g c s ≡ give (as_lent c (make g c s).value.reply) s
  pub passes : ¬ (Refusal (make g c s).value.reply) → AllPassed (grounds g c s)

module _ {A : Type 0} {rows : List Ground} {reply : A → ℕ} {refused : ℕ → A} {steps : Step A} {s : State} {o : Outcome A}
    (t : ByGrounds rows reply refused steps s o) where
  passed : ¬ (Refusal (reply o.value)) → AllPassed rows
  passed n = below? UNWRITTEN (reply o.value) (λ k. absurd (n k)) (λ k. (t.served k).0)

module _ (g : Geometry) (s : State) where
  pub tested : (c : Call) → Tested g c s
  unfolding give
  tested (Format others) =
      let t = format_by_grounds g others s in
      record {
        answers = t.answers;
        refuses = λ h. ap (λ (o : Outcome ℕ). answer o (λ n. record { reply = n; words = []; answers = [] })) (t.refuses h);
        passes = passed t;
      }
  tested (Check others) =
      let t = check_by_grounds g others s in
      record {
        answers = t.answers;
        refuses = λ h. ap (λ (o : Outcome ℕ). answer o (λ n. record { reply = n; words = []; answers = [] })) (t.refuses h);
        passes = passed t;
      }
  tested (ReadPage others l buffer) =
      let t = read_by_grounds g others l buffer s in
      record {
        answers = t.answers;
        refuses = λ h. ap (λ (o : Outcome Replied). answer o (λ r. record { reply = r.reply; words = r.buffer; answers = [] })) (t.refuses h);
        passes = passed t;
      }
  tested (WritePage others l buffer) =
      let t = write_by_grounds g others l buffer s in
      record {
        answers = t.answers;
        refuses = λ h. ap (λ (o : Outcome Replied). answer o (λ r. record { reply = r.reply; words = r.buffer; answers = [] })) (t.refuses h);
        passes = passed t;
      }
  tested (Run others requests words answers) =
      let t = run_by_grounds g others requests words answers s in
      record {
        answers = t.answers;
        refuses = λ h.
            ap (λ (o : Outcome RunReplied). answer o (λ r. record { reply = r.reply; words = r.words; answers = r.answers })) (t.refuses h);
        passes = passed t;
      }

  -- UNWRITTEN is a read's answer: the others are DONE where they aren't refused.
  pub unwritten_by_read : (c : Call) → (make g c s).value.reply ≡ UNWRITTEN
      → (others : List Size) × (l : ℕ) × (buffer : List ℕ) × (c ≡ ReadPage others l buffer)
  unfolding format_steps give ◌>>=◌
  unwritten_by_read (Format others) e = absurd (omega (arith, replies (format_by_grounds g others s) DONE refl (λ h. omega arith)))
  unwritten_by_read (Check others) e = absurd (omega (arith, replies (check_by_grounds g others s) DONE refl (λ h. omega arith)))
  unwritten_by_read (ReadPage others l buffer) e = (others, l, buffer, refl)
  unwritten_by_read (WritePage others l buffer) e =
      absurd (omega (
        arith,
        replies (write_by_grounds g others l buffer s) DONE
            ((serve_hands_back g (write_of l) buffer s).write_done refl) (λ h. omega arith),
      ))
  unwritten_by_read (Run others requests words answers) e =
      absurd (omega (
        arith,
        replies (run_by_grounds g others requests words answers s) DONE
            (run_reply g requests (length requests) words answers s) (λ h. omega arith),
      ))

  -- What changes nothing, whatever it answers: an empty run, and check.
  pub empty_run : (others : List Size) (words answers : List ℕ) →
      let c = Run others [] words answers in
      make g c s ≡ give (as_lent c (make g c s).value.reply) s
  unfolding serve_records give
  empty_run others words answers =
      let t = run_by_grounds g others [] words answers s in
      below? UNWRITTEN (run g others [] words answers s).value.reply
      (tested (Run others [] words answers)).refuses
      (λ k. rw (t.served k).1)

  pub check_unchanged : (others : List Size) → make g (Check others) s ≡ give (as_lent (Check others) (make g (Check others) s).value.reply) s
  unfolding give
  check_unchanged others =
      let t = check_by_grounds g others s in
      below? UNWRITTEN (check g others s).value
      (tested (Check others)).refuses
      (λ k. rw (t.served k).1)
