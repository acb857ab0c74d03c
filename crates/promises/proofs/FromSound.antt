-- Demands 2 and 3 of any call, from a state by which a store stands: the store stands by the state after it, reads tell what it holds, and
-- what is below the limit is done within its bound.
use Rattle.std.specs.Prelude.{ℕ, ◌*◌, ◌≤◌, ◌<◌, ◌≡◌, List, ◌++◌, length, get_or}
use Rattle.std.proofs.Math.Path.{refl}
use Rattle.std.proofs.Common.{sym, ◌∙◌, ap, subst, inl, inr, ⊎_elim, arith, mul-le-mul_right}
use Rattle.scope.specs.Geometry.{Geometry, Accepted}
use Rattle.scope.specs.SmallRecord.{SmallRecord}
use Rattle.scope.specs.Lent.{none, State, Request, most_requests}
use Rattle.scope.specs.Operations.{Outcome, give}
use Rattle.scope.specs.Replies.{DONE, UNWRITTEN, Size}
use Rattle.scope.specs.Requests.{Replied, format_steps}
use Rattle.scope.specs.Calls.{state_sizes, buffer_sizes, run_sizes, read_of, write_of, RunReplied, part, no_request, format, check, read, write, run}
use Rattle.flash.specs.Cases.{below?}
use Rattle.promises.specs.Grounds.{Right, Refusal, AllPassed, request_grounds, single_grounds}
use Rattle.promises.specs.Call.{Call, Format, Check, ReadPage, WritePage, Run, make}
use Rattle.promises.specs.EachRecord.{before_record, record_outcome}
use Rattle.promises.specs.Remembered.{noted, noted_records, Holding, Store, Tells}
use Rattle.promises.specs.Bounds.{BelowLimit, ServesWell}
use Rattle.promises.specs.GroundsDecided.{right_both, below_passes, page_passed, single_passes, buffer_passed, own_passed}
use Rattle.promises.proofs.Refusals.{format_by_grounds, check_by_grounds, record_by_grounds, read_by_grounds, write_by_grounds, run_by_grounds, run_reply}
use Rattle.promises.proofs.Records.{so_far, answer_of, record_stores, final_words, part_here, length_words, state_so_far, answer_is_outcome}
use Rattle.promises.proofs.Demand1.{run_is_records, run_fits, record_answer}
use Rattle.promises.proofs.Standing.{Standing, Leaves, lengths_right, serves, serve_tells, format_leaves, check_leaves, read_leaves, write_leaves}
use Rattle.promises.specs.HeldWords.{held_long}
use Rattle.promises.proofs.RunStands.{RecordStands, records_leave, answers_at, run_leaves}

module _ {g : Geometry} (ok : Accepted g) where
  -- Each call keeps the store.
  pub call_leaves : {s : State} {store : Store} → Standing g s store → (c : Call)
      → Leaves g s (make g c s) (noted g c (make g c s).value store)
  call_leaves stands (Format others) = let a = format_leaves ok stands others in record { stands = a.stands; done = a.done }
  call_leaves stands (Check others) = let a = check_leaves ok stands others in record { stands = a.stands; done = a.done }
  call_leaves stands (ReadPage others l buffer) =
      let a = read_leaves ok stands others l buffer in record { stands = a.stands; done = a.done }
  call_leaves stands (WritePage others l buffer) =
      let a = write_leaves ok stands others l buffer in record { stands = a.stands; done = a.done }
  call_leaves stands (Run others requests words answers) =
      let a = run_leaves ok others requests words answers stands in record { stands = a.stands; done = a.done }

  -- ---- what a call answers

  module _ {s : State} {store : Store} (stands : Standing g s store) where
    pub read_call_tells : (others : List Size) (l : ℕ) (buffer : List ℕ) →
        let a = (read g others l buffer s).value in ¬ (Refusal a.reply) → Tells (store l) a.reply a.buffer
    read_call_tells others l buffer n =
        let t = read_by_grounds g others l buffer s in
        below? UNWRITTEN (read g others l buffer s).value.reply
        (λ h. absurd (n h))
        (λ h.
        let passed = (t.served h).0 in
        rw (t.served h).1
        (serve_tells ok (read_of l) buffer stands (own_passed g others (read_of l) buffer s passed) (buffer_passed g others (read_of l) buffer s passed)
        refl))

    module _ (others : List Size) (l : ℕ) (buffer : List ℕ) (right : Right (buffer_sizes g buffer ++ others)) where
      admits : (q : Request) → AllPassed (request_grounds g s.small q) → AllPassed (single_grounds g others q buffer s)
      admits q passed =
          single_passes g others q buffer s ok
          (right_both (state_sizes g s) (buffer_sizes g buffer ++ others) (lengths_right g s stands.lengths) right)
          stands.sound passed

      pub read_well : BelowLimit g s.small (read_of l) →
          let o = read g others l buffer s in ServesWell g (read_of l) o.value.reply o.did
      read_well below =
          let passed = below_passes g s.small (read_of l) (omega arith) below in
          rw ((read_by_grounds g others l buffer s).serves (admits (read_of l) passed)) (serves ok (read_of l) buffer stands passed right.0).well

      pub write_well : BelowLimit g s.small (write_of l) →
          let o = write g others l buffer s in ServesWell g (write_of l) o.value.reply o.did
      write_well below =
          let passed = below_passes g s.small (write_of l) (omega arith) below in
          rw ((write_by_grounds g others l buffer s).serves (admits (write_of l) passed)) (serves ok (write_of l) buffer stands passed right.0).well

    pub check_well : (others : List Size) → Right others → (check g others s).value ≡ DONE
    unfolding give
    check_well others right =
        rw ((check_by_grounds g others s).serves
        (ok, (right_both (state_sizes g s) others (lengths_right g s stands.lengths) right, (stands.sound, tt)))) refl

    -- ---- a run

    module _ (others : List Size) (requests : List Request) (words answers : List ℕ)
        (done : (run g others requests words answers s).value.reply ≡ DONE)
        (i : ℕ) (h : i < length requests) where
      abbrev replies : List ℕ
      replies = (run g others requests words answers s).value.answers

      abbrev q : Request
      q = get_or requests i no_request

      abbrev a : Outcome Replied
      a = answer_of g requests words answers s i

      words_fit : length words ≡ length requests * g.W
      words_fit = (run_fits g others requests words answers s done).0

      answers_here : let before = so_far g requests words answers s i in
          RecordStands g q (part g i before.value.words) before.after (noted_records g requests words replies i store)
      answers_here =
          answers_at ok requests words answers stands words_fit replies i h
          (λ j k. record_answer g others requests words answers s done j (omega arith))

      stands_here : Standing g (so_far g requests words answers s i).after
          (noted_records g requests words replies i store)
      stands_here =
          (records_leave ok requests words answers stands words_fit replies i (omega arith)
          (λ j k. record_answer g others requests words answers s done j (omega arith))).stands

      reply_is : get_or replies i none ≡ a.value.reply
      reply_is = record_answer g others requests words answers s done i h

      -- The small record that it is tested with.
      abbrev small : SmallRecord
      small = (so_far g requests words answers s i).after.small

      -- A record that is not refused has passed its tests.
      not_refused : ¬ (Refusal (get_or replies i none)) → AllPassed (request_grounds g small q)
      not_refused n =
          let before = so_far g requests words answers s i in
          below? UNWRITTEN a.value.reply
          (λ k. absurd (n (rw reply_is k)))
          (λ k. ((record_by_grounds g q (part g i before.value.words) before.after).served k).0)

      -- What the record read stands in its part of the data buffer.
      part_is : length a.value.buffer ≡ g.W
          → part g i (run g others requests words answers s).value.words ≡ a.value.buffer
      part_is long =
          let before = so_far g requests words answers s i in
          ap (λ (o : Outcome RunReplied). part g i o.value.words) (run_is_records g others requests words answers s done)
          ∙ final_words g requests words answers s (length requests) i h
          ∙ ap (part g i) (record_stores g i q before.value before.after).words
          ∙ part_here g i before.value.words a.value.buffer long
          (omega (arith, words_fit, length_words g requests words answers s i, mul-le-mul_right g.W h))

      pub record_tells : ¬ (Refusal (get_or replies i none)) → q.kind ≡ 0
          → Tells (noted_records g requests words replies i store q.page) (get_or replies i none)
          (part g i (run g others requests words answers s).value.words)
      record_tells n kind =
          let passed = not_refused n in
          let below = page_passed g small q passed in
          ⊎_elim
          (λ d.
          let long = held_long ok (so_far g requests words answers s i).after stands_here.lengths stands_here.sound
          q.page below a.value.buffer (sym (stands_here.holds q.page below) ∙ d.1) in
          inl (reply_is ∙ d.0, d.1 ∙ ap Holding (sym (part_is long))))
          (λ d. inr (reply_is ∙ d.0, d.1))
          (answers_here.tells passed kind)

      pub record_well : BelowLimit g (before_record g requests words s i).small q
          → ServesWell g q (get_or replies i none) (record_outcome g requests words s i).did
      record_well below =
          rw (reply_is, ← answer_is_outcome g requests words answers s i)
          (answers_here.well (subst (λ (t : State). BelowLimit g t.small q) (sym (state_so_far g requests words answers s i)) below))

    pub run_well : (others : List Size) (requests : List Request) (words answers : List ℕ)
        → Right (run_sizes g requests words answers ++ others) → length requests ≤ most_requests
        → (run g others requests words answers s).value.reply ≡ DONE
    run_well others requests words answers right few =
        let sizes = right_both (state_sizes g s) (run_sizes g requests words answers ++ others) (lengths_right g s stands.lengths) right in
        ap (λ (o : Outcome RunReplied). o.value.reply)
        ((run_by_grounds g others requests words answers s).serves (ok, ((sizes, few), (stands.sound, tt))))
        ∙ run_reply g requests (length requests) words answers s

  -- ---- format

  -- Of any lent memory of the right lengths.
  pub formats : (others : List Size) (s : State) → Right (state_sizes g s ++ others) → format g others s ≡ format_steps g s
  formats others s right = (format_by_grounds g others s).serves (ok, (right, tt))
