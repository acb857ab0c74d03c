-- A run keeps the store: its records one after the other, each by its own answer.
use Rattle.std.specs.Prelude.{ℕ, zero, suc, ◌*◌, ◌≤◌, ◌<◌, ◌≡◌, ◌≢◌, cond, List, eqb, length}
use Rattle.std.proofs.Common.{sym, ◌∙◌, subst, append-nil, mul-le-mul_right, length-take, length-drop, eq-eqb, ne_eqb}
use Rattle.std.proofs.Math.Path.{ap}
use native.Mathlib.Omega.{arith}
use Rattle.std.proofs.Math.ListN.{get_or}
use Rattle.scope.specs.Geometry.{Geometry, Accepted}
use Rattle.scope.specs.Lent.{none, State, Request}
use Rattle.scope.specs.Operations.{Outcome, give, ◌>>=◌}
use Rattle.scope.specs.Replies.{DONE, UNWRITTEN, Size}
use Rattle.scope.specs.Requests.{Replied}
use Rattle.scope.specs.Calls.{kinds, RunReplied, run_replied, part, no_request, serve, answer_record, serve_records, run}
use Rattle.scope.specs.Laws.Applied.{flash_refl}
use Rattle.flash.specs.Moments.{cost}
use Rattle.flash.specs.Cases.{on, below?}
use Rattle.flash.specs.Listed.{cost_none}
use Rattle.region.specs.Done.{done_none, done_then}
use Rattle.promises.specs.Grounds.{AllPassed, request_grounds}
use Rattle.promises.specs.Remembered.{Store, noted_record, noted_records, Tells}
use Rattle.promises.specs.Bounds.{BelowLimit, ServesWell, write_bound}
use Rattle.promises.proofs.Serve.{serve_hands_back, no_kind_well}
use Rattle.promises.specs.GroundsDecided.{below_passes}
use Rattle.promises.proofs.Refusals.{run_reply, record_by_grounds, run_by_grounds}
use Rattle.promises.proofs.Demand1.{run_is_records, run_fits, record_answer}
use Rattle.promises.proofs.Records.{so_far, answer_of, record_stores, words_before, length_words}
use Rattle.promises.proofs.Standing.{Standing, Leaves, refusal_leaves, serves, serve_leaves, serve_tells}

-- What is said of a record's answer, whether it was refused or served.
pub record RecordStands (g : Geometry) (q : Request) (buffer : List ℕ) (s : State) (store : Store) : Type 0 where
  pub leaves :
      let o = answer_record g q buffer s in
      Leaves g s o (noted_record q buffer o.value.reply store)
  pub costs : cost (answer_record g q buffer s).did ≤ write_bound g
  pub tells : AllPassed (request_grounds g s.small q) → q.kind ≡ 0 →
      let o = answer_record g q buffer s in
      Tells (store q.page) o.value.reply o.value.buffer
  pub well : BelowLimit g s.small q →
      let o = answer_record g q buffer s in
      ServesWell g q o.value.reply o.did

-- A refusal is not noted.
refusal_not_noted : (q : Request) (words : List ℕ) (reply : ℕ) (store : Store) → reply ≢ DONE
    → noted_record q words reply store ≡ store
refusal_not_noted q words reply store e = on (eqb q.kind 1) (λ k. rw (k, ne_eqb reply DONE e)) (λ k. rw k)

module _ {g : Geometry} (ok : Accepted g) where
  -- ---- one record

  module _ (q : Request) (buffer : List ℕ) {s : State} {store : Store} (stands : Standing g s store)
      (long : length buffer ≡ g.W) where
    abbrev o : Outcome Replied
    o = answer_record g q buffer s

    by_refusal : UNWRITTEN < o.value.reply → RecordStands g q buffer s store
    unfolding give
    by_refusal h =
        let t = record_by_grounds g q buffer s in
        record {
          leaves = rw (refusal_not_noted q buffer o.value.reply store (omega arith), t.refuses h)
              (record { stands = stands; done = done_none g flash_refl });
          costs = rw (t.refuses h) (omega (arith, cost_none));
          tells = λ passed _. absurd (admitted passed);
          well = λ below. below? q.kind kinds
              (λ kind. absurd (admitted (below_passes g s.small q kind below)))
              (no_kind_well g q o.value.reply o.did);
        }
      where
        admitted : AllPassed (request_grounds g s.small q) → ⊥
        admitted passed =
            omega (
              arith,
              h,
              ap (λ (a : Outcome Replied). a.value.reply) ((record_by_grounds g q buffer s).serves passed),
              (serve_hands_back g q buffer s).within,
            )

    by_serving : AllPassed (request_grounds g s.small q) → o ≡ serve g q buffer s → RecordStands g q buffer s store
    by_serving passed e =
        record {
          leaves = rw e (serve_leaves ok q buffer stands passed long);
          costs = rw e (serves ok q buffer stands passed long).costs;
          tells = λ _ kind. rw e (serve_tells ok q buffer stands passed long kind);
          well = λ _. rw e (serves ok q buffer stands passed long).well;
        }

    pub record_stands : RecordStands g q buffer s store
    record_stands =
        let t = record_by_grounds g q buffer s in
        below? UNWRITTEN o.value.reply by_refusal (λ h. by_serving (t.served h).0 (t.served h).1)

  -- ---- the records of a run

  module _ (requests : List Request) (words answers : List ℕ) {s : State} {store : Store} (stands : Standing g s store)
      (words_fit : length words ≡ length requests * g.W) where
    part_long : (n : ℕ) → n < length requests
        → length (part g n (so_far g requests words answers s n).value.words) ≡ g.W
    part_long n h =
        simp (length-take, length-drop) (omega (arith, length_words g requests words answers s n, mul-le-mul_right g.W h))

    -- One record more.
    next_leaves : (n : ℕ) (store' : Store) → n < length requests → Leaves g s (so_far g requests words answers s n) store'
        → Leaves g s (so_far g requests words answers s (suc n))
        (noted_record (get_or requests n no_request) (part g n words) (answer_of g requests words answers s n).value.reply store')
    unfolding serve_records ◌>>=◌
    next_leaves n store' h before =
        let b = so_far g requests words answers s n in
        let q = get_or requests n no_request in
        let a = (record_stands q (part g n b.value.words) before.stands (part_long n h)).leaves in
        let stored = record_stores g n q b.value b.after in
        record {
          stands = rw (stored.state, ← (words_before g requests words answers s n n (omega arith))) a.stands;
          done = done_then before.done (rw (stored.state, stored.operations, append-nil) a.done);
        }

    none_leave : Leaves g s (so_far g requests words answers s 0) store
    unfolding serve_records give
    none_leave = record { stands = stands; done = done_none g flash_refl }

    pub records_leave : (A : List ℕ) (n : ℕ) → n ≤ length requests
        → ((i : ℕ) → i < n → get_or A i none ≡ (answer_of g requests words answers s i).value.reply)
        → Leaves g s (so_far g requests words answers s n) (noted_records g requests words A n store)
    records_leave A zero h e = none_leave
    records_leave A (suc n) h e =
        subst (λ (reply : ℕ). Leaves g s (so_far g requests words answers s (suc n))
        (noted_record (get_or requests n no_request) (part g n words) reply (noted_records g requests words A n store)))
        (sym (e n (omega arith)))
        (next_leaves n (noted_records g requests words A n store) h (records_leave A n (omega arith) (λ i k. e i (omega arith))))

    -- Record i's own answer, from the store as the records before it left it.
    pub answers_at : (A : List ℕ) (i : ℕ) → i < length requests
        → ((j : ℕ) → j < i → get_or A j none ≡ (answer_of g requests words answers s j).value.reply)
        → let before = so_far g requests words answers s i in
        RecordStands g (get_or requests i no_request) (part g i before.value.words) before.after (noted_records g requests words A i store)
    answers_at A i h e =
        record_stands (get_or requests i no_request) (part g i (so_far g requests words answers s i).value.words)
        (records_leave A i (omega arith) e).stands (part_long i h)

  -- A run, as a call.
  module _ (others : List Size) (requests : List Request) (words answers : List ℕ) {s : State} {store : Store}
      (stands : Standing g s store) where
    pub run_leaves :
        let o = run g others requests words answers s in
        Leaves g s o (cond (eqb o.value.reply DONE)
        (noted_records g requests words o.value.answers (length requests) store) store)
    run_leaves =
        let o = run g others requests words answers s in
        let t = run_by_grounds g others requests words answers s in
        below? UNWRITTEN o.value.reply
        (λ h. refusal_leaves ok (noted_records g requests words o.value.answers (length requests) store)
        (run_replied words answers o.value.reply) o o.value.reply stands (t.refuses h) (omega arith))
        (λ h. served (ap (λ (a : Outcome RunReplied). a.value.reply) (t.served h).1
        ∙ run_reply g requests (length requests) words answers s))
      where
        served : (run g others requests words answers s).value.reply ≡ DONE →
            let o = run g others requests words answers s in
            Leaves g s o (cond (eqb o.value.reply DONE)
            (noted_records g requests words o.value.answers (length requests) store) store)
        served e =
            let A = (run g others requests words answers s).value.answers in
            rw (eq-eqb (run g others requests words answers s).value.reply DONE e)
            (subst (λ (o : Outcome RunReplied). Leaves g s o (noted_records g requests words A (length requests) store))
            (sym (run_is_records g others requests words answers s e))
            (records_leave requests words answers stands (run_fits g others requests words answers s e).0 A (length requests)
            (omega arith)
            (record_answer g others requests words answers s e)))
