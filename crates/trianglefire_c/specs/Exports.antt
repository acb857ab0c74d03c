-- That an export, as it is proved, has the contract of a call: at every model of the prover's logic its code meets a contract (crate held says
-- with what words), and this contract and the call's are one.
use Rattle.std.specs.Prelude.{◌≡◌}
use Rattle.std.proofs.Common.{sym}
use mathlib.Core.Path.{subst}
use base.Logic.{emp}
use borrow.Fn.World.{World}
use contract.Lifetimes.{Lfts}
use contract.Monad.{Fun, fact}
use denote.Triple.Clauses.{Ended, AtExit, Clauses, closing}
use denote.Triple.Entry.{Args, Res}
use denote.Triple.Spec.{Meets}
use prog.Wired.{Code, Wired}
use Rattle.held.specs.Held.{HeldTo}

pub record Exports (T : Ended) (whole : Code) (code : (m : World) → Fun m.𝓤) (contract of_the_call : (m : World) → Clauses m.𝓤 T) : Type 2 where
  pub meets : (m : World) → Wired m.𝓡.env whole →
      Meets m.𝓛 T.signature (code m) (closing m.𝓛 T (contract m))
  pub is_the_same : (m : World) → contract m ≡ of_the_call m

-- So an export is held to what its call is held to.
pub export_held : {T : Ended} {whole call_whole : Code} {code call_code : (m : World) → Fun m.𝓤}
    {contract of_the_call : (m : World) → Clauses m.𝓤 T} {κs : Lfts T.signature.lifetimes} {a : Args T.signature κs}
    {r : Res T.signature κs} {e : AtExit T κs} {P : Type 0}
    → Exports T whole code contract of_the_call → HeldTo T call_whole call_code of_the_call κs a r e P
    → HeldTo T whole code contract κs a r e P
export_held {T} {κs = κs} {a = a} {r = r} {e = e} export held = record {
  meets = export.meets;
  asks_nothing = λ m. subst (λ (c : Clauses m.𝓤 T). (x : (c κs a).ghost) → (c κs a).requires x ≡ emp m.𝓤)
      (sym (export.is_the_same m)) (held.asks_nothing m);
  Told = held.Told;
  tells_it = λ m. subst (λ (c : Clauses m.𝓤 T). (x : (c κs a).ghost) → (c κs a).ensures x r e ≡ fact m.𝓤 held.Told)
      (sym (export.is_the_same m)) (held.tells_it m);
  gives = held.gives;
}
