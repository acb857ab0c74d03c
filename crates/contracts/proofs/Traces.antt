-- Demands 2 and 3 after any trace: the store that a program remembers stands by the node after each call, be it served or refused.
use Rattle.std.specs.Prelude.{ℕ, ◌≡◌, refl, ◌≢◌, List, [], ◌∷◌, ◌++◌, get_or}
use Rattle.std.proofs.Common.{sym, ◌∙◌, ap, subst, inl, inr, arith, ne_eqb}
use Rattle.scope.specs.Geometry.{Geometry, Accepted}
use Rattle.scope.specs.Lent.{none, State, Request}
use Rattle.scope.specs.Operations.{Outcome, counted, give, ◌>>=◌}
use Rattle.scope.specs.Replies.{DONE, Size}
use Rattle.scope.specs.Requests.{format_steps}
use Rattle.scope.specs.Calls.{state_sizes, buffer_sizes, run_sizes, part, no_request}
use Rattle.flash.proofs.Clearing.{allowed_clears_each}
use Rattle.promises.specs.Call.{Call, Format, Check, ReadPage, WritePage, Run, Answer, make}
use Rattle.promises.specs.Grounds.{Right, Refusal, AllPassed, grounds}
use Rattle.promises.specs.GroundsDecided.{right_before}
use Rattle.promises.specs.EachRecord.{before_record, record_outcome}
use Rattle.promises.specs.Remembered.{Store, Nothing, noted, noted_records, held, Tells}
use Rattle.promises.specs.Bounds.{BelowLimit, ServesWell}
use Rattle.promises.specs.OneForEach.{one_for_each}
use Rattle.promises.specs.Formatted.{format_counts}
use Rattle.promises.proofs.Standing.{Standing, format_stands, right_lengths, lengths_right}
use Rattle.promises.proofs.FromSound.{call_leaves, read_call_tells, read_well, write_well, check_well, record_tells, record_well, run_well, formats}
use Rattle.contracts.specs.Made.{entry, exit, Made, ByContract, Whole, Goes, Trace, remembered}
use Rattle.contracts.specs.Demands.{Demand2, Demand3, did, Node, DemandsAfter, Formatted}
use Rattle.contracts.proofs.Outcomes.{says}
use Rattle.contracts.proofs.Demand1.{known, answered, demand_1}

-- ---- one call more

-- A refusal is not noted.
refusal_not_noted : (g : Geometry) (c : Call) (a : Answer) (store : Store) → Refusal a.reply → noted g c a store ≡ store
refusal_not_noted g (Format others) a store h = rw (ne_eqb a.reply DONE (omega arith)) refl
refusal_not_noted g (Check others) a store h = refl
refusal_not_noted g (ReadPage others l buffer) a store h = refl
refusal_not_noted g (WritePage others l buffer) a store h = rw (ne_eqb a.reply DONE (omega arith)) refl
refusal_not_noted g (Run others requests words answers) a store h = rw (ne_eqb a.reply DONE (omega arith)) refl

module _ {g : Geometry} (ok : Accepted g) where
  goes_stands : {s s' : State} {store : Store} (m : Made) → ByContract g m → Goes s m s' → Standing g s store
      → Standing g s' (noted g m.call m.answer store)
  goes_stands {s} {s'} {store} m contract (inl (here, whole, left)) stands =
      let told = says g m.call m.answer m.lent contract in
      let leaves = (call_leaves ok (subst (λ (t : State). Standing g t store) (sym here) stands) m.call).stands in
      subst (λ (t : State). Standing g t (noted g m.call m.answer store)) (told.after whole ∙ left)
      (subst (λ (a : Answer). Standing g (make g m.call (entry m.lent)).after (noted g m.call a store)) told.value leaves)
  goes_stands {s} {s'} {store} m contract (inr (refused, stays)) stands =
      subst (λ (t : State). Standing g t (noted g m.call m.answer store)) (sym stays)
      (subst (Standing g s) (sym (refusal_not_noted g m.call m.answer store refused)) stands)

  trace_stands : (ms : List Made) {s s'' : State} {store : Store} → Trace g s ms s'' → Standing g s store
      → Standing g s'' (remembered g ms store)
  trace_stands [] {store = store} stays stands = subst (λ (t : State). Standing g t store) (sym stays) stands
  trace_stands (m ∷ ms) (s', contract, goes, trace) stands = trace_stands ms trace (goes_stands m contract goes stands)

  -- ---- a call on a node by which a store stands

  module _ (m : Made) (contract : ByContract g m) {store : Store} (stands : Standing g (entry m.lent) store) where
    abbrev s : State
    s = entry m.lent

    tells : Demand2 g store m
    tells =
        record {
          read_tells = λ others l buffer e.
              known g m contract (λ a. ¬ (Refusal a.reply) → Tells (store l) a.reply a.words) e
              (read_call_tells ok stands others l buffer);
          record_tells = λ others requests words answers i e done h kind.
              known g m contract
              (λ a.
              ¬ (Refusal (get_or a.answers i none))
              → Tells (noted_records g requests words a.answers i store (get_or requests i no_request).page) (get_or a.answers i none)
              (part g i a.words)) e
              (λ n. record_tells ok stands others requests words answers (answered g m contract (λ a. a.reply ≡ DONE) e done) i h n kind);
        }

    -- A request's answer and its operations, as those of the call that it is known to be.
    well : {c : Call} {q : Request} → m.call ≡ c → ServesWell g q (make g c s).value.reply (make g c s).did
        → ServesWell g q m.answer.reply (did g m)
    well {c} {q} e h =
        known g m contract (λ a. ServesWell g q a.reply (did g m)) e
        (subst (λ (d : Call). ServesWell g q (make g c s).value.reply (make g d s).did) (sym e) h)

    serves : Demand3 g m
    serves =
        record {
          reads_well = λ others l buffer e right below. well e (read_well ok stands others l buffer right below);
          writes_well = λ others l buffer e right below. well e (write_well ok stands others l buffer right below);
          checks_well = λ others e right. known g m contract (λ a. a.reply ≡ DONE) e (check_well ok stands others right);
          runs_well = λ others requests words answers e right few.
              known g m contract (λ a. a.reply ≡ DONE) e (run_well ok stands others requests words answers right few);
          records_well = λ others requests words answers i e done h.
              known g m contract
              (λ a.
              BelowLimit g (before_record g requests words s i).small (get_or requests i no_request)
              → ServesWell g (get_or requests i no_request) (get_or a.answers i none) (record_outcome g requests words s i).did) e
              (record_well ok stands others requests words answers (answered g m contract (λ a. a.reply ≡ DONE) e done) i h);
          allowed = (call_leaves ok stands m.call).done.allowed;
          clears = allowed_clears_each g (did g m) s stands.lengths (call_leaves ok stands m.call).done.allowed;
        }

-- ---- after a trace

pub node_stands : {g : Geometry} {s : State} → Node g s → Standing g s (held g s)
node_stands {g} {s} node = record { sound = node.sound; lengths = right_lengths g s node.lengths; holds = λ l h. refl }

module _ {g : Geometry} (s : State) (ms : List Made) (s' : State) (node : Node g s) (trace : Trace g s ms s') where
  stands_after : Standing g s' (remembered g ms (held g s))
  stands_after = trace_stands node.accepted ms trace (node_stands node)

  here : (m : Made) → entry m.lent ≡ s' → Standing g (entry m.lent) (remembered g ms (held g s))
  here m e = subst (λ (t : State). Standing g t (remembered g ms (held g s))) (sym e) stands_after

  pub demands_after : DemandsAfter g s ms s'
  demands_after =
      record {
        node = record {
          accepted = node.accepted;
          lengths = lengths_right g s' stands_after.lengths;
          sound = stands_after.sound;
        };
        one_for_each = one_for_each stands_after.sound;
        demand_2 = λ m contract e. tells node.accepted m contract (here m e);
        demand_3 = λ m contract e. serves node.accepted m contract (here m e);
      }

-- ---- where a trace begins

-- The tests of every call but format end with the state's.
node_of : (g : Geometry) (c : Call) (s : State) → ((others : List Size) → c ≢ Format others) → AllPassed (grounds g c s) → Node g s
node_of g (Format others) s other passed = absurd (other others refl)
node_of g (Check others) s other passed =
    record { accepted = passed.0; lengths = right_before (state_sizes g s) others passed.1.0; sound = passed.1.1.0 }
node_of g (ReadPage others l buffer) s other passed =
    record {
      accepted = passed.0;
      lengths = right_before (state_sizes g s) (buffer_sizes g buffer ++ others) passed.1.0;
      sound = passed.1.1.0;
    }
node_of g (WritePage others l buffer) s other passed =
    record {
      accepted = passed.0;
      lengths = right_before (state_sizes g s) (buffer_sizes g buffer ++ others) passed.1.0;
      sound = passed.1.1.0;
    }
node_of g (Run others requests words answers) s other passed =
    record {
      accepted = passed.0;
      lengths = right_before (state_sizes g s) (run_sizes g requests words answers ++ others) passed.1.0.0;
      sound = passed.1.1.0;
    }

pub checked : {g : Geometry} (m : Made) → ByContract g m → ((others : List Size) → m.call ≢ Format others)
    → ¬ (Refusal m.answer.reply) → Node g (entry m.lent)
checked {g} m contract other h = node_of g m.call (entry m.lent) other ((demand_1 g m contract).passes h)

pub formatted : {g : Geometry} (m : Made) → ByContract g m → (others : List Size) → m.call ≡ Format others → Accepted g
    → Right (state_sizes g (entry m.lent) ++ others) → Formatted g m
unfolding format_steps give ◌>>=◌
formatted {g} m contract others e ok right =
    let s = entry m.lent in
    let is = formats ok others s right in
    let stands = format_stands ok s (right_lengths g s (right_before (state_sizes g s) others right)) in
    let told = says g m.call m.answer m.lent contract in
    let made : (make g m.call s).after ≡ (format_steps g s).after =
    ap (λ (c : Call). (make g c s).after) e ∙ ap (λ (o : Outcome ℕ). o.after) is in
    let left : Whole m.lent → (format_steps g s).after ≡ exit m.lent = λ whole. sym made ∙ told.after whole in
    record {
      done = known g m contract (λ a. a.reply ≡ DONE) e (ap (λ (o : Outcome ℕ). o.value) is);
      counts =
          ap (λ (c : Call). counted (make g c s).did) e ∙ ap (λ (o : Outcome ℕ). counted o.did) is ∙ format_counts g s;
      node = λ whole.
          subst (Node g) (left whole)
          record { accepted = ok; lengths = lengths_right g (format_steps g s).after stands.lengths; sound = stands.sound };
      nothing_held = λ whole l below. subst (λ (t : State). held g t l ≡ Nothing) (left whole) (sym (stands.holds l below));
    }
