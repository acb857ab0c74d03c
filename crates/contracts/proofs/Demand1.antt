-- Demand 1, and what was done, of any outcome that a contract allows: what the definitions answer, carried over to what was handed back.
use Rattle.std.specs.Prelude.{◌≡◌, ◌≢◌}
use Rattle.std.proofs.Common.{sym, ◌∙◌, ap, subst}
use Rattle.scope.specs.Geometry.{Geometry}
use Rattle.scope.specs.Lent.{State}
use Rattle.scope.specs.Operations.{give}
use Rattle.scope.specs.Replies.{DONE}
use Rattle.promises.specs.Call.{Call, Answer, make, as_lent}
use Rattle.promises.specs.Grounds.{Refusal, Refuses, AllPassed, grounds}
use Rattle.promises.specs.EachRecord.{Ran}
use Rattle.promises.proofs.Demand1.{tested, read_keeps, write_keeps, run_ran, run_operations, unwritten_by_read, empty_run, check_unchanged}
use Rattle.contracts.specs.Made.{entry, Made, ByContract, LeftAlone}
use Rattle.contracts.specs.Demands.{Demand1, DoneAsListed}
use Rattle.contracts.proofs.Outcomes.{Says, says, made_as}

module _ (g : Geometry) (m : Made) (contract : ByContract g m) where
  abbrev s : State
  s = entry m.lent

  abbrev told : Says g m.call m.answer m.lent
  told = says g m.call m.answer m.lent contract

  -- What is said of the definition's answer is said of the one that was handed back.
  pub carried : (P : Answer → Type 0) → P (make g m.call s).value → P m.answer
  carried P h = subst P told.value h

  -- The same of a call that is known, from which only its own definition is asked.
  pub known : {c : Call} (P : Answer → Type 0) → m.call ≡ c → P (make g c s).value → P m.answer
  known P e h = carried P (subst (λ (c : Call). P (make g c s).value) (sym e) h)

  -- And back: a fact of the answer is one of the definition's.
  pub answered : {c : Call} (P : Answer → Type 0) → m.call ≡ c → P m.answer → P (make g c s).value
  answered P e h = subst (λ (c : Call). P (make g c s).value) e (subst P (sym told.value) h)

  -- What does nothing, and hands back what was lent, leaves all of it.
  alone : make g m.call s ≡ give (as_lent m.call (make g m.call s).value.reply) s → LeftAlone m
  unfolding give
  alone e = (
    carried (λ a. a ≡ as_lent m.call a.reply) (ap (λ o. o.value) e),
    told.same (as_lent m.call (make g m.call s).value.reply) e,
  )

  known_alone : {c : Call} → m.call ≡ c → make g c s ≡ give (as_lent c (make g c s).value.reply) s → LeftAlone m
  known_alone e h = alone (subst (λ (c : Call). make g c s ≡ give (as_lent c (make g c s).value.reply) s) (sym e) h)

  pub demand_1 : Demand1 g m
  demand_1 =
      record {
        refuses = carried (λ a. Refuses a.reply (grounds g m.call s)) (tested g s m.call).answers;
        passes = carried (λ a. ¬ (Refusal a.reply) → AllPassed (grounds g m.call s)) (tested g s m.call).passes;
        unwritten_by_read = λ e. unwritten_by_read g s m.call (ap (λ (a : Answer). a.reply) told.value ∙ e);
        unchanged = λ h. alone ((tested g s m.call).refuses (subst (λ (a : Answer). Refusal a.reply) (sym told.value) h));
        check_unchanged = λ others e. known_alone e (check_unchanged g s others);
        empty_run = λ others words answers e. known_alone e (empty_run g s others words answers);
        read_keeps = λ others l buffer e. known (λ a. a.reply ≢ DONE → a.words ≡ buffer) e (read_keeps g others l buffer s);
        write_keeps = λ others l buffer e. known (λ a. a.words ≡ buffer) e (write_keeps g others l buffer s);
        run_ran = λ others requests words answers e.
            known (λ a. a.reply ≡ DONE → Ran g requests words answers s a) e (run_ran g others requests words answers s);
      }

  pub done_as_listed : DoneAsListed g m
  done_as_listed =
      record {
        counted = told.counted;
        chip_made = told.chip ∙ (made_as g m.call s).chip;
        spare_made = told.spare ∙ (made_as g m.call s).spare;
        run_did = λ others requests words answers e done.
            ap (λ (c : Call). (make g c s).did) e
            ∙ run_operations g others requests words answers s (answered (λ a. a.reply ≡ DONE) e done);
      }
