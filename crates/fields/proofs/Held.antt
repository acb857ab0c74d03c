-- The two calls for Rattle are held to what the settings record's promises (settings/Kept.antt) speak of: the code of each meets a contract
-- that asks nothing of its caller, and what it tells is that the call was made as those have it, the answer by 02's numbers.
use Prim.Native.Nat.{ℕ}
use mathlib.Core.Path.{◌≡◌, refl, sym, ◌∙◌}
use mathlib.Core.List.{List}
use borrow.Fn.World.{World}
use contract.Lifetimes.{Lfts}
use denote.Ref.{Bor}
use denote.MutBor.{MutBor}
use denote.Triple.Clauses.{Clauses}
use lib.ListN.{length}
use Rattle.std.specs.Prelude.{Result}
use Rattle.lent.specs.declared.Geometry.{Geometry}
use Rattle.lent.specs.Model.{geometry}
use Rattle.settings.specs.Settings.{versions, read as read_settings, numbers_words}
use Rattle.settings.proofs.Laws.Calls.{six_words_read}
use Rattle.settings.specs.Kept.{ReadMade, WriteMade}
use Rattle.held.specs.Held.{code_of, HeldTo}
use Rattle.fields.specs.declared.refusal.Refusal.{Refusal}
use Rattle.fields.specs.Model.{settings, writing}
use Rattle.fields.specs.contracts.read.read
use Rattle.fields.proofs.read.read.Symbol as read_symbol
use Rattle.fields.proofs.read.read.Met as read_met
use Rattle.fields.specs.contracts.write.write
use Rattle.fields.proofs.write.write.Symbol as write_symbol
use Rattle.fields.proofs.write.write.Met as write_met

-- Each contract, at a model of the prover's logic.
abbrev read_contract : (m : World) → Clauses m.𝓤 read.ended
read_contract m = read.clauses m.𝓛 m.𝓜.mem m.𝓡.returns

abbrev write_contract : (m : World) → Clauses m.𝓤 write.ended
write_contract m = write.clauses m.𝓛 m.𝓜.mem m.𝓡.returns

-- What is read by value is what the call for C gives in any six words.
pub read_held : (bytes bytes' : Bor (List ℕ)) (r : Result Geometry Refusal) (κs : Lfts 1) →
    HeldTo read.ended read_symbol.code (code_of read_symbol.name) read_contract κs (bytes, tt) r (bytes', tt)
    ((numbers : List ℕ) → length numbers ≡ numbers_words → ReadMade bytes.now numbers (settings r).answer (settings r).left)
read_held bytes bytes' r κs =
    record {
      meets = λ m. read_met.met m.𝓤 m.𝓛 m.𝓜 m.𝓡;
      asks_nothing = λ m x. refl;
      Told = settings r ≡ read_settings versions bytes.now;
      tells_it = λ m x. refl;
      gives = λ h numbers six. h ∙ sym (six_words_read bytes.now numbers six);
    }

pub write_held : (g : Geometry) (place place' : MutBor (List ℕ)) (r : Result (Unit {0}) Refusal) (κs : Lfts 1) →
    HeldTo write.ended write_symbol.code (code_of write_symbol.name) write_contract κs (g, (place, tt)) r (g, (place', tt))
    (WriteMade (geometry g) place.now (writing r) place'.now)
write_held g place place' r κs =
    record {
      meets = λ m. write_met.met m.𝓤 m.𝓛 m.𝓜 m.𝓡;
      asks_nothing = λ m x. refl;
      Told = WriteMade (geometry g) place.now (writing r) place'.now;
      tells_it = λ m x. refl;
      gives = λ h. h;
    }
