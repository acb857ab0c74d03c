-- Format and check for Rattle are held to the contracts of which the demands speak (crate contracts): the code of each meets a contract that asks
-- nothing of its caller, and what it tells is that the call was made as the demands have it. An `ensures` that says less, or a `requires`,
-- is refused here.
use mathlib.Core.Path.{refl}
use mathlib.Core.List.{List}
use Prim.Native.Nat.{ℕ}
use lib.ListN.{length}
use borrow.Fn.World.{World}
use contract.Lifetimes.{Lfts}
use denote.Ref.{Bor, MutBor}
use denote.Triple.Clauses.{Clauses}
use Rattle.lent.specs.declared.Geometry.{Geometry as Numbers}
use Rattle.lent.specs.declared.Record.{Record}
use Rattle.lent.specs.declared.reply.Reply.{Reply}
use Rattle.lent.specs.Model.{geometry, state}
use Rattle.lent.specs.Reply.{reply}
use Rattle.scope.specs.SmallRecord.{record_words}
use Rattle.scope.specs.Lent.{State}
use Rattle.scope.specs.Replies.{Size}
use Rattle.scope.specs.Calls.{format, check}
use Rattle.scope.specs.Boundary.{call_sizes}
use Rattle.scope.specs.Holding.{Answers}
use Rattle.promises.specs.Call.{Format, Check}
use Rattle.contracts.specs.Made.{Numbers as AsNumbers, ContractAllows}
use Rattle.contracts.specs.Ensured.{by_number, format_made, check_made}
use Rattle.held.specs.Held.{code_of, HeldTo}
use Rattle.face.specs.contracts.format as format'
use Rattle.face.proofs.format.Symbol as format_symbol
use Rattle.face.proofs.format.Met as format_met
use Rattle.face.specs.contracts.check as check'
use Rattle.face.proofs.check.Symbol as check_symbol
use Rattle.face.proofs.check.Met as check_met

-- Each contract, at a model of the prover's logic.
abbrev format_contract : (m : World) → Clauses m.𝓤 format'.ended
format_contract m = format'.clauses m.𝓛 m.𝓜.mem m.𝓡.returns

abbrev check_contract : (m : World) → Clauses m.𝓤 check'.ended
check_contract m = check'.clauses m.𝓛 m.𝓜.mem m.𝓡.returns

-- A record of numbers has all its words.
abbrev sizes : MutBor (List ℕ) → List Size
sizes counts = call_sizes record_words (length counts.now)

module _ (g : Numbers) (rec rec' : MutBor Record)
    (chip spare directory cache counts chip' spare' directory' cache' counts' : MutBor (List ℕ)) (r : Reply) where
  abbrev lent : State
  lent = state chip.now spare.now directory.now cache.now rec.now

  abbrev left : State
  left = state chip'.now spare'.now directory'.now cache'.now rec'.now

  pub format_held : (κs : Lfts 6) →
      HeldTo format'.ended format_symbol.code (code_of format_symbol.name) format_contract κs
      (rec, (g, (chip, (spare, (directory, (cache, (counts, tt))))))) r
      (rec', (g, (chip', (spare', (directory', (cache', (counts', tt)))))))
      (ContractAllows (geometry g) (Format (sizes counts)) (by_number (reply r)) (AsNumbers lent counts.now left counts'.now))
  format_held κs =
      record {
        meets = λ m. format_met.met m.𝓤 m.𝓛 m.𝓜 m.𝓡;
        asks_nothing = λ m x. refl;
        Told = Answers (format (geometry g) (sizes counts) lent) counts.now (reply r) left counts'.now;
        tells_it = λ m x. refl;
        gives = format_made (geometry g) (sizes counts) lent;
      }

-- Nothing but the counts is lent to be changed.
module _ (g : Numbers) (rec rec' : Bor Record) (chip spare directory cache : Bor (List ℕ)) (counts : MutBor (List ℕ))
    (chip' spare' directory' cache' : Bor (List ℕ)) (counts' : MutBor (List ℕ)) (r : Reply) where
  abbrev looked_at : State
  looked_at = state chip.now spare.now directory.now cache.now rec.now

  pub check_held : (κs : Lfts 6) →
      HeldTo check'.ended check_symbol.code (code_of check_symbol.name) check_contract κs
      (rec, (g, (chip, (spare, (directory, (cache, (counts, tt))))))) r
      (rec', (g, (chip', (spare', (directory', (cache', (counts', tt)))))))
      (ContractAllows (geometry g) (Check (sizes counts)) (by_number (reply r)) (AsNumbers looked_at counts.now looked_at counts'.now))
  check_held κs =
      record {
        meets = λ m. check_met.met m.𝓤 m.𝓛 m.𝓜 m.𝓡;
        asks_nothing = λ m x. refl;
        Told = Answers (check (geometry g) (sizes counts) looked_at) counts.now (reply r) looked_at counts'.now;
        tells_it = λ m x. refl;
        gives = check_made (geometry g) (sizes counts) looked_at;
      }
