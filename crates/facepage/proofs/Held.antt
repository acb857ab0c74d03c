-- Read and write for Rattle are held to the contracts of which the demands speak (crate contracts): the code of each meets a contract that asks
-- nothing of its caller, and what it tells is that the call was made as the demands have it. An `ensures` that says less, or a `requires`,
-- is refused here.
use mathlib.Core.Path.{refl}
use mathlib.Core.List.{List}
use Prim.Native.Nat.{ℕ}
use lib.ListN.{length}
use borrow.Fn.World.{World}
use contract.Lifetimes.{Lfts}
use denote.Ref.{Bor, MutBor}
use denote.Triple.Clauses.{Clauses}
use Rattle.lent.specs.declared.Geometry.{Geometry as Numbers}
use Rattle.lent.specs.declared.Record.{Record}
use Rattle.lent.specs.declared.reply.Reply.{Reply}
use Rattle.lent.specs.Model.{geometry, state}
use Rattle.lent.specs.Reply.{reply}
use Rattle.scope.specs.SmallRecord.{record_words}
use Rattle.scope.specs.Lent.{State}
use Rattle.scope.specs.Replies.{Size}
use Rattle.scope.specs.Requests.{replied}
use Rattle.scope.specs.Calls.{read, write}
use Rattle.scope.specs.Boundary.{call_sizes}
use Rattle.scope.specs.Holding.{Answers}
use Rattle.promises.specs.Call.{ReadPage, WritePage}
use Rattle.contracts.specs.Made.{Numbers as AsNumbers, ContractAllows}
use Rattle.contracts.specs.Ensured.{by_page, read_made, write_made}
use Rattle.held.specs.Held.{code_of, HeldTo}
use Rattle.facepage.specs.contracts.read as read'
use Rattle.facepage.proofs.read.Symbol as read_symbol
use Rattle.facepage.proofs.read.Met as read_met
use Rattle.facepage.specs.contracts.write as write'
use Rattle.facepage.proofs.write.Symbol as write_symbol
use Rattle.facepage.proofs.write.Met as write_met

-- Each contract, at a model of the prover's logic.
abbrev read_contract : (m : World) → Clauses m.𝓤 read'.ended
read_contract m = read'.clauses m.𝓛 m.𝓜.mem m.𝓡.returns

abbrev write_contract : (m : World) → Clauses m.𝓤 write'.ended
write_contract m = write'.clauses m.𝓛 m.𝓜.mem m.𝓡.returns

module _ (g : Numbers) (rec rec' : MutBor Record)
    (chip spare directory cache counts chip' spare' directory' cache' counts' : MutBor (List ℕ)) (r : Reply) (page : ℕ) where
  -- A record of numbers has all its words.
  abbrev sizes : List Size
  sizes = call_sizes record_words (length counts.now)

  abbrev lent : State
  lent = state chip.now spare.now directory.now cache.now rec.now

  abbrev left : State
  left = state chip'.now spare'.now directory'.now cache'.now rec'.now

  module _ (buffer buffer' : MutBor (List ℕ)) where
    pub read_held : (κs : Lfts 7) →
        HeldTo read'.ended read_symbol.code (code_of read_symbol.name) read_contract κs
        (rec, (g, (page, (chip, (spare, (directory, (cache, (buffer, (counts, tt))))))))) r
        (rec', (g, (page, (chip', (spare', (directory', (cache', (buffer', (counts', tt)))))))))
        (ContractAllows (geometry g) (ReadPage sizes page buffer.now) (by_page (replied buffer'.now (reply r))) (AsNumbers lent counts.now left counts'.now))
    read_held κs =
        record {
          meets = λ m. read_met.met m.𝓤 m.𝓛 m.𝓜 m.𝓡;
          asks_nothing = λ m x. refl;
          Told = Answers (read (geometry g) sizes page buffer.now lent) counts.now (replied buffer'.now (reply r)) left counts'.now;
          tells_it = λ m x. refl;
          gives = read_made (geometry g) sizes lent page buffer.now;
        }

  -- The page buffer is not lent to be changed.
  module _ (buffer buffer' : Bor (List ℕ)) where
    pub write_held : (κs : Lfts 7) →
        HeldTo write'.ended write_symbol.code (code_of write_symbol.name) write_contract κs
        (rec, (g, (page, (chip, (spare, (directory, (cache, (buffer, (counts, tt))))))))) r
        (rec', (g, (page, (chip', (spare', (directory', (cache', (buffer', (counts', tt)))))))))
        (ContractAllows (geometry g) (WritePage sizes page buffer.now) (by_page (replied buffer.now (reply r))) (AsNumbers lent counts.now left counts'.now))
    write_held κs =
        record {
          meets = λ m. write_met.met m.𝓤 m.𝓛 m.𝓜 m.𝓡;
          asks_nothing = λ m x. refl;
          Told = Answers (write (geometry g) sizes page buffer.now lent) counts.now (replied buffer.now (reply r)) left counts'.now;
          tells_it = λ m x. refl;
          gives = write_made (geometry g) sizes lent page buffer.now;
        }
