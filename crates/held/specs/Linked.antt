-- The premise of `HeldTo`, that names stand for their code, is met by whatever a program is linked from: under a look-up that has the
-- function and all that it calls, its code meets the contract at every model.
use borrow.Fn.World.{World}
use contract.Lifetimes.{Lfts}
use contract.Running.{within}
use denote.Triple.Clauses.{Ended, AtExit, Clauses, closing}
use denote.Triple.Entry.{Args, Res}
use denote.Triple.Spec.{Meets}
use mir.Syntax.{Callee, Symbol}
use prog.Linked.{Entry, Has, Has-Wired, tie, tie-Follows}
use prog.Routine.{Env}
use prog.Wired.{Code}
use Rattle.held.specs.Held.{code_of, HeldTo}

-- A model in which names stand for what `env` says.
abbrev pub linked_at : World → Env → World
linked_at m env = record { M = m.M; 𝓤 = m.𝓤; 𝓛 = m.𝓛; 𝓜 = m.𝓜; 𝓡 = within m.𝓤 m.𝓛.H m.𝓜 m.𝓡 env }

pub linked_meets : (T : Ended) (whole : Code) (name : Callee) (contract : (m : World) → Clauses m.𝓤 T)
    (κs : Lfts T.signature.lifetimes) (a : Args T.signature κs) (r : Res T.signature κs) (e : AtExit T κs) (P : Type 0)
    → HeldTo T whole (code_of name) contract κs a r e P
    → (look : Symbol → Entry) → Has look whole → (m : World)
    → Meets m.𝓛 T.signature (m.𝓡.run (tie look name)) (closing m.𝓛 T (contract (linked_at m (tie look))))
linked_meets T whole name contract κs a r e P held look has m =
    held.meets (linked_at m (tie look)) (Has-Wired look (tie look) (tie-Follows look) whole has)
