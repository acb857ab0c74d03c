-- That a function, as it is proved, meets a contract, and that this contract gives a fact: that of which the demands speak, or what is
-- promised of the settings record. The prover makes of a function's `requires` and `ensures` its `clauses`, at every model of its logic, and
-- proves of its code that it meets them, wherever the names of the function and of all that it calls stand for their code; both stand in
-- generated modules of the function's name, which a proof may cite.
use Rattle.std.specs.Prelude.{◌≡◌}
use base.Logic.{emp}
use borrow.Fn.World.{World}
use contract.Lifetimes.{Lfts}
use contract.Monad.{Fun, fact}
use denote.Triple.Clauses.{Ended, AtExit, Clauses, closing}
use denote.Triple.Entry.{Args, Res}
use denote.Triple.Spec.{Meets}
use mir.Syntax.{Callee}
use prog.Wired.{Code, Wired}

-- A function's code, by its name, as it runs at a model.
abbrev pub code_of : Callee → (m : World) → Fun m.𝓤
code_of name m = m.𝓡.run (m.𝓡.env name)

-- The code meets the contract, where it and all that it calls, `whole`, stand under their names. Called with the arguments a, with the
-- result r and what was lent as e at exit, the contract asks nothing of the caller, tells it one fact and nothing else, and this gives P.
pub record HeldTo (T : Ended) (whole : Code) (code : (m : World) → Fun m.𝓤) (contract : (m : World) → Clauses m.𝓤 T)
    (κs : Lfts T.signature.lifetimes) (a : Args T.signature κs) (r : Res T.signature κs) (e : AtExit T κs) (P : Type 0) :
    Type 2 where
  pub meets : (m : World) → Wired m.𝓡.env whole →
      Meets m.𝓛 T.signature (code m) (closing m.𝓛 T (contract m))
  pub asks_nothing : (m : World) (x : (contract m κs a).ghost) → (contract m κs a).requires x ≡ emp m.𝓤
  pub Told : Type 0
  pub tells_it : (m : World) (x : (contract m κs a).ghost) → (contract m κs a).ensures x r e ≡ fact m.𝓤 Told
  pub gives : Told → P
