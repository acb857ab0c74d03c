-- 02, P5, of whatever outcome the contract of a read allows, for Rattle and for C: in which order it leaves the cache, and how many entries are
-- protected. (A write translates as a read does, and then collects and sets its entry, with every rank kept.)
use Rattle.std.specs.Prelude.{ℕ, ◌≡◌, List}
use Rattle.std.proofs.Common.{sym, ◌∙◌, ap, subst}
use Rattle.scope.specs.Geometry.{Geometry}
use Rattle.scope.specs.Lent.{State}
use Rattle.scope.specs.Operations.{Outcome}
use Rattle.scope.specs.Replies.{Size}
use Rattle.scope.specs.Requests.{Replied, read_steps}
use Rattle.scope.specs.Calls.{serve}
use Rattle.promises.specs.Call.{Call, Format, Check, ReadPage, WritePage, Run, make}
use Rattle.promises.specs.Grounds.{Refusal, AllPassed, grounds}
use Rattle.promises.proofs.Refusals.{read_by_grounds}
use Rattle.promises.proofs.Standing.{right_lengths}
use Rattle.promises.specs.Replacement.{Replaces}
use Rattle.promises.proofs.Replacement.{read_replaces}
use Rattle.contracts.specs.Made.{entry, exit, Made, ByContract, Whole}
use Rattle.contracts.specs.Demands.{Node}
use Rattle.contracts.proofs.Outcomes.{says}
use Rattle.contracts.proofs.Demand1.{demand_1}
use Rattle.contracts.proofs.Traces.{checked}

abbrev IsRead : Call → Type 0
IsRead (Format others) = ⊥
IsRead (Check others) = ⊥
IsRead (ReadPage others l buffer) = Unit {0}
IsRead (WritePage others l buffer) = ⊥
IsRead (Run others requests words answers) = ⊥

pub read_leaves_order : {g : Geometry} (m : Made) → ByContract g m → (others : List Size) (l : ℕ) (buffer : List ℕ)
    → m.call ≡ ReadPage others l buffer → Whole m.lent → ¬ (Refusal m.answer.reply)
    → Replaces g l (entry m.lent) (exit m.lent)
unfolding serve
read_leaves_order {g} m contract others l buffer is_read whole served =
    subst (Replaces g l s) (sym made ∙ (says g m.call m.answer m.lent contract).after whole)
    (read_replaces node.accepted l buffer s (right_lengths g s node.lengths) node.sound)
  where
    s : State
    s = entry m.lent

    node : Node g s
    node = checked m contract (λ sizes e. subst IsRead (sym is_read ∙ e) tt) served

    passed : AllPassed (grounds g (ReadPage others l buffer) s)
    passed = subst (λ (c : Call). AllPassed (grounds g c s)) is_read ((demand_1 g m contract).passes served)

    made : (make g m.call s).after ≡ (read_steps g l buffer s).after
    made =
        ap (λ (c : Call). (make g c s).after) is_read
        ∙ ap (λ (o : Outcome Replied). o.after) ((read_by_grounds g others l buffer s).serves passed)
