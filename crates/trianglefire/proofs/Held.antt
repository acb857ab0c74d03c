-- The exported functions are held to the contracts of which the demands speak (crate contracts): the code of each meets a contract that asks
-- nothing of its caller, and what it tells is that the call in words was made as the demands have it. An `ensures` that says less, or a
-- `requires`, is refused here. Numbers come first, then the slices, as at entry and as at exit.
use Prim.Native.Nat.{ℕ}
use mathlib.Core.Path.{refl}
use mathlib.Core.List.{List}
use borrow.Fn.World.{World}
use contract.Lifetimes.{Lfts}
use denote.Ref.{Bor, MutBor}
use denote.Triple.Clauses.{Clauses}
use Rattle.lent.specs.Model.{words}
use Rattle.scope.specs.Geometry.{Geometry}
use Rattle.scope.specs.Requests.{replied}
use Rattle.scope.specs.Calls.{run_replied}
use Rattle.scope.specs.Boundary.{Words, word_sizes, requests_of, tf_format, tf_check, tf_read, tf_write, tf_run}
use Rattle.scope.specs.Holding.{Gives}
use Rattle.promises.specs.Call.{Format, Check, ReadPage, WritePage, Run}
use Rattle.contracts.specs.Made.{AsWords, ContractAllows}
use Rattle.contracts.specs.Ensured.{by_number, by_page, by_run, run_word_sizes, tf_format_made, tf_check_made, tf_read_made, tf_write_made, tf_run_made}
use Rattle.held.specs.Held.{code_of, HeldTo}
use Rattle.trianglefire.specs.Numbers.{geometry_of}
use Rattle.settings.specs.Kept.{ReadMade, WriteMade}
use Rattle.trianglefire.specs.contracts.tf_format
use Rattle.trianglefire.proofs.tf_format.Symbol as format_symbol
use Rattle.trianglefire.proofs.tf_format.Met as format_met
use Rattle.trianglefire.specs.contracts.tf_check
use Rattle.trianglefire.proofs.tf_check.Symbol as check_symbol
use Rattle.trianglefire.proofs.tf_check.Met as check_met
use Rattle.trianglefire.specs.contracts.tf_read
use Rattle.trianglefire.proofs.tf_read.Symbol as read_symbol
use Rattle.trianglefire.proofs.tf_read.Met as read_met
use Rattle.trianglefire.specs.contracts.tf_write
use Rattle.trianglefire.proofs.tf_write.Symbol as write_symbol
use Rattle.trianglefire.proofs.tf_write.Met as write_met
use Rattle.trianglefire.specs.contracts.tf_run
use Rattle.trianglefire.proofs.tf_run.Symbol as run_symbol
use Rattle.trianglefire.proofs.tf_run.Met as run_met
use Rattle.trianglefire.specs.contracts.tf_settings_read
use Rattle.trianglefire.proofs.tf_settings_read.Symbol as settings_read_symbol
use Rattle.trianglefire.proofs.tf_settings_read.Met as settings_read_met
use Rattle.trianglefire.specs.contracts.tf_settings_write
use Rattle.trianglefire.proofs.tf_settings_write.Symbol as settings_write_symbol
use Rattle.trianglefire.proofs.tf_settings_write.Met as settings_write_met

-- Each contract, at a model of the prover's logic.
abbrev format_contract : (m : World) → Clauses m.𝓤 tf_format.ended
format_contract m = tf_format.clauses m.𝓛 m.𝓜.mem m.𝓡.returns

abbrev check_contract : (m : World) → Clauses m.𝓤 tf_check.ended
check_contract m = tf_check.clauses m.𝓛 m.𝓜.mem m.𝓡.returns

abbrev read_contract : (m : World) → Clauses m.𝓤 tf_read.ended
read_contract m = tf_read.clauses m.𝓛 m.𝓜.mem m.𝓡.returns

abbrev write_contract : (m : World) → Clauses m.𝓤 tf_write.ended
write_contract m = tf_write.clauses m.𝓛 m.𝓜.mem m.𝓡.returns

abbrev run_contract : (m : World) → Clauses m.𝓤 tf_run.ended
run_contract m = tf_run.clauses m.𝓛 m.𝓜.mem m.𝓡.returns

abbrev settings_read_contract : (m : World) → Clauses m.𝓤 tf_settings_read.ended
settings_read_contract m = tf_settings_read.clauses m.𝓛 m.𝓜.mem m.𝓡.returns

abbrev settings_write_contract : (m : World) → Clauses m.𝓤 tf_settings_write.ended
settings_write_contract m = tf_settings_write.clauses m.𝓛 m.𝓜.mem m.𝓡.returns

module _ (p w d t l c : ℕ) (chip spare directory cache small counts chip' spare' directory' cache' small' counts' : MutBor (List ℕ))
    (r : ℕ) where
  abbrev g : Geometry
  g = geometry_of p w d t l c

  -- What is lent to every call, at entry and at exit.
  abbrev lent : Words
  lent = words chip.now spare.now directory.now cache.now small.now counts.now

  abbrev left : Words
  left = words chip'.now spare'.now directory'.now cache'.now small'.now counts'.now

  pub tf_format_held : (κs : Lfts 6) →
      HeldTo tf_format.ended format_symbol.code (code_of format_symbol.name) format_contract κs
      (p, (w, (d, (t, (l, (c, (chip, (spare, (directory, (cache, (small, (counts, tt)))))))))))) r
      (p, (w, (d, (t, (l, (c, (chip', (spare', (directory', (cache', (small', (counts', tt))))))))))))
      (ContractAllows g (Format (word_sizes lent)) (by_number r) (AsWords lent left))
  tf_format_held κs =
      record {
        meets = λ m. format_met.met m.𝓤 m.𝓛 m.𝓜 m.𝓡;
        asks_nothing = λ m x. refl;
        Told = Gives (tf_format g lent) r left;
        tells_it = λ m x. refl;
        gives = tf_format_made g lent;
      }

  module _ (page : ℕ) (buffer buffer' : MutBor (List ℕ)) where
    pub tf_read_held : (κs : Lfts 7) →
        HeldTo tf_read.ended read_symbol.code (code_of read_symbol.name) read_contract κs
        (p, (w, (d, (t, (l, (c, (page, (chip, (spare, (directory, (cache, (small, (buffer, (counts, tt)))))))))))))) r
        (p, (w, (d, (t, (l, (c, (page, (chip', (spare', (directory', (cache', (small', (buffer', (counts', tt))))))))))))))
        (ContractAllows g (ReadPage (word_sizes lent) page buffer.now) (by_page (replied buffer'.now r)) (AsWords lent left))
    tf_read_held κs =
        record {
          meets = λ m. read_met.met m.𝓤 m.𝓛 m.𝓜 m.𝓡;
          asks_nothing = λ m x. refl;
          Told = Gives (tf_read g page lent buffer.now) (replied buffer'.now r) left;
          tells_it = λ m x. refl;
          gives = tf_read_made g lent page buffer.now;
        }

  -- The page buffer is not lent to be changed.
  module _ (page : ℕ) (buffer buffer' : Bor (List ℕ)) where
    pub tf_write_held : (κs : Lfts 7) →
        HeldTo tf_write.ended write_symbol.code (code_of write_symbol.name) write_contract κs
        (p, (w, (d, (t, (l, (c, (page, (chip, (spare, (directory, (cache, (small, (buffer, (counts, tt)))))))))))))) r
        (p, (w, (d, (t, (l, (c, (page, (chip', (spare', (directory', (cache', (small', (buffer', (counts', tt))))))))))))))
        (ContractAllows g (WritePage (word_sizes lent) page buffer.now) (by_page (replied buffer.now r)) (AsWords lent left))
    tf_write_held κs =
        record {
          meets = λ m. write_met.met m.𝓤 m.𝓛 m.𝓜 m.𝓡;
          asks_nothing = λ m x. refl;
          Told = Gives (tf_write g page lent buffer.now) (replied buffer.now r) left;
          tells_it = λ m x. refl;
          gives = tf_write_made g lent page buffer.now;
        }

  module _ (requests requests' : Bor (List ℕ)) (words₀ words₁ answers answers' : MutBor (List ℕ)) where
    pub tf_run_held : (κs : Lfts 9) →
        HeldTo tf_run.ended run_symbol.code (code_of run_symbol.name) run_contract κs
        (p, (w, (d, (t, (l, (c, (chip, (spare, (directory, (cache, (small, (requests, (words₀, (answers, (counts, tt))))))))))))))) r
        (p, (w, (d, (t, (l, (c, (chip', (spare', (directory', (cache', (small', (requests', (words₁, (answers', (counts', tt)))))))))))))))
        (ContractAllows g (Run (run_word_sizes lent requests.now) (requests_of requests.now) words₀.now answers.now)
        (by_run (run_replied words₁.now answers'.now r)) (AsWords lent left))
    tf_run_held κs =
        record {
          meets = λ m. run_met.met m.𝓤 m.𝓛 m.𝓜 m.𝓡;
          asks_nothing = λ m x. refl;
          Told = Gives (tf_run g lent requests.now words₀.now answers.now) (run_replied words₁.now answers'.now r) left;
          tells_it = λ m x. refl;
          gives = tf_run_made g lent requests.now words₀.now answers.now;
        }

-- Nothing but the counts is lent to be changed.
module _ (p w d t l c : ℕ) (chip spare directory cache small : Bor (List ℕ)) (counts : MutBor (List ℕ))
    (chip' spare' directory' cache' small' : Bor (List ℕ)) (counts' : MutBor (List ℕ)) (r : ℕ) where
  abbrev checked_at : Geometry
  checked_at = geometry_of p w d t l c

  abbrev looked_at : Words
  looked_at = words chip.now spare.now directory.now cache.now small.now counts.now

  abbrev left_counted : Words
  left_counted = words chip.now spare.now directory.now cache.now small.now counts'.now

  pub tf_check_held : (κs : Lfts 6) →
      HeldTo tf_check.ended check_symbol.code (code_of check_symbol.name) check_contract κs
      (p, (w, (d, (t, (l, (c, (chip, (spare, (directory, (cache, (small, (counts, tt)))))))))))) r
      (p, (w, (d, (t, (l, (c, (chip', (spare', (directory', (cache', (small', (counts', tt))))))))))))
      (ContractAllows checked_at (Check (word_sizes looked_at)) (by_number r) (AsWords looked_at left_counted))
  tf_check_held κs =
      record {
        meets = λ m. check_met.met m.𝓤 m.𝓛 m.𝓜 m.𝓡;
        asks_nothing = λ m x. refl;
        Told = Gives (tf_check checked_at looked_at) r left_counted;
        tells_it = λ m x. refl;
        gives = tf_check_made checked_at looked_at;
      }

-- The settings record: what its promises (settings/Kept.antt) speak of.
module _ (bytes bytes' : Bor (List ℕ)) (numbers numbers' : MutBor (List ℕ)) (r : ℕ) where
  pub tf_settings_read_held : (κs : Lfts 2) →
      HeldTo tf_settings_read.ended settings_read_symbol.code (code_of settings_read_symbol.name) settings_read_contract κs (bytes, (numbers, tt)) r (bytes', (numbers', tt))
      (ReadMade bytes.now numbers.now r numbers'.now)
  tf_settings_read_held κs =
      record {
        meets = λ m. settings_read_met.met m.𝓤 m.𝓛 m.𝓜 m.𝓡;
        asks_nothing = λ m x. refl;
        Told = ReadMade bytes.now numbers.now r numbers'.now;
        tells_it = λ m x. refl;
        gives = λ h. h;
      }

module _ (p w d t l c : ℕ) (place place' : MutBor (List ℕ)) (r : ℕ) where
  pub tf_settings_write_held : (κs : Lfts 1) →
      HeldTo tf_settings_write.ended settings_write_symbol.code (code_of settings_write_symbol.name) settings_write_contract κs
      (p, (w, (d, (t, (l, (c, (place, tt))))))) r (p, (w, (d, (t, (l, (c, (place', tt)))))))
      (WriteMade (geometry_of p w d t l c) place.now r place'.now)
  tf_settings_write_held κs =
      record {
        meets = λ m. settings_write_met.met m.𝓤 m.𝓛 m.𝓜 m.𝓡;
        asks_nothing = λ m x. refl;
        Told = WriteMade (geometry_of p w d t l c) place.now r place'.now;
        tells_it = λ m x. refl;
        gives = λ h. h;
      }
