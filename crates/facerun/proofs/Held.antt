-- The run for Rattle is held to the contract of which the demands speak (crate contracts): its code meets a contract that asks nothing of its
-- caller, and what it tells is that the call was made as the demands have it. An `ensures` that says less, or a `requires`, is refused here.
use mathlib.Core.Path.{refl}
use mathlib.Core.List.{List, map}
use Prim.Native.Nat.{ℕ}
use lib.ListN.{length}
use borrow.Fn.World.{World}
use contract.Lifetimes.{Lfts}
use denote.Ref.{Bor, MutBor}
use denote.Triple.Clauses.{Clauses}
use Rattle.lent.specs.declared.Geometry.{Geometry as Numbers}
use Rattle.lent.specs.declared.Record.{Record}
use Rattle.lent.specs.declared.reply.Reply.{Reply}
use Rattle.lent.specs.Model.{geometry, state}
use Rattle.lent.specs.Reply.{reply}
use Rattle.scope.specs.SmallRecord.{record_words}
use Rattle.scope.specs.Lent.{State}
use Rattle.scope.specs.Replies.{Size}
use Rattle.scope.specs.Calls.{run_replied, run}
use Rattle.scope.specs.Boundary.{call_sizes}
use Rattle.scope.specs.Holding.{Answers}
use Rattle.replies.specs.declared.Request.{Request}
use Rattle.replies.specs.Model.{request}
use Rattle.promises.specs.Call.{Run}
use Rattle.contracts.specs.Made.{Numbers as AsNumbers, ContractAllows}
use Rattle.contracts.specs.Ensured.{by_run, run_made}
use Rattle.held.specs.Held.{code_of, HeldTo}
use Rattle.facerun.specs.contracts.run as run'
use Rattle.facerun.proofs.run.Symbol as run_symbol
use Rattle.facerun.proofs.run.Met as run_met

-- Its contract, at a model of the prover's logic.
abbrev run_contract : (m : World) → Clauses m.𝓤 run'.ended
run_contract m = run'.clauses m.𝓛 m.𝓜.mem m.𝓡.returns

module _ (g : Numbers) (rec rec' : MutBor Record)
    (chip spare directory cache counts chip' spare' directory' cache' counts' : MutBor (List ℕ)) (r : Reply) (requests requests' : Bor (List Request))
    (words words' answers answers' : MutBor (List ℕ)) where
  -- A record of numbers has all its words.
  abbrev sizes : List Size
  sizes = call_sizes record_words (length counts.now)

  abbrev lent : State
  lent = state chip.now spare.now directory.now cache.now rec.now

  abbrev left : State
  left = state chip'.now spare'.now directory'.now cache'.now rec'.now

  pub run_held : (κs : Lfts 9) →
      HeldTo run'.ended run_symbol.code (code_of run_symbol.name) run_contract κs
      (rec, (g, (requests, (chip, (spare, (directory, (cache, (words, (answers, (counts, tt)))))))))) r
      (rec', (g, (requests', (chip', (spare', (directory', (cache', (words', (answers', (counts', tt))))))))))
      (ContractAllows (geometry g) (Run sizes (map request requests.now) words.now answers.now) (by_run (run_replied words'.now answers'.now (reply r))) (AsNumbers lent counts.now left counts'.now))
  run_held κs =
      record {
        meets = λ m. run_met.met m.𝓤 m.𝓛 m.𝓜 m.𝓡;
        asks_nothing = λ m x. refl;
        Told = Answers (run (geometry g) sizes (map request requests.now) words.now answers.now lent) counts.now (run_replied words'.now answers'.now (reply r)) left counts'.now;
        tells_it = λ m x. refl;
        gives = run_made (geometry g) sizes lent (map request requests.now) words.now answers.now;
      }
