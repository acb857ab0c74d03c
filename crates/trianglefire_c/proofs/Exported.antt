-- What the archive exports is held to the calls of crate trianglefire, whose contracts are those of which the demands speak (its Held.antt): the
-- code of each export meets a contract, and that is the call's. An `ensures` that says less, or a `requires`, is refused here.
use Rattle.std.specs.Prelude.{refl}
use Rattle.held.specs.Held.{code_of}
use Rattle.trianglefire_c.specs.Exports.{Exports}
use Rattle.trianglefire_c.specs.contracts.tf_format
use Rattle.trianglefire_c.proofs.tf_format.Symbol as format_symbol
use Rattle.trianglefire_c.proofs.tf_format.Met as format_met
use Rattle.trianglefire.specs.contracts.tf_format as call_format
use Rattle.trianglefire_c.specs.contracts.tf_check
use Rattle.trianglefire_c.proofs.tf_check.Symbol as check_symbol
use Rattle.trianglefire_c.proofs.tf_check.Met as check_met
use Rattle.trianglefire.specs.contracts.tf_check as call_check
use Rattle.trianglefire_c.specs.contracts.tf_read
use Rattle.trianglefire_c.proofs.tf_read.Symbol as read_symbol
use Rattle.trianglefire_c.proofs.tf_read.Met as read_met
use Rattle.trianglefire.specs.contracts.tf_read as call_read
use Rattle.trianglefire_c.specs.contracts.tf_write
use Rattle.trianglefire_c.proofs.tf_write.Symbol as write_symbol
use Rattle.trianglefire_c.proofs.tf_write.Met as write_met
use Rattle.trianglefire.specs.contracts.tf_write as call_write
use Rattle.trianglefire_c.specs.contracts.tf_run
use Rattle.trianglefire_c.proofs.tf_run.Symbol as run_symbol
use Rattle.trianglefire_c.proofs.tf_run.Met as run_met
use Rattle.trianglefire.specs.contracts.tf_run as call_run
use Rattle.trianglefire_c.specs.contracts.tf_settings_read
use Rattle.trianglefire_c.proofs.tf_settings_read.Symbol as settings_read_symbol
use Rattle.trianglefire_c.proofs.tf_settings_read.Met as settings_read_met
use Rattle.trianglefire.specs.contracts.tf_settings_read as call_settings_read
use Rattle.trianglefire_c.specs.contracts.tf_settings_write
use Rattle.trianglefire_c.proofs.tf_settings_write.Symbol as settings_write_symbol
use Rattle.trianglefire_c.proofs.tf_settings_write.Met as settings_write_met
use Rattle.trianglefire.specs.contracts.tf_settings_write as call_settings_write

pub tf_format_exported : Exports tf_format.ended format_symbol.code (code_of format_symbol.name)
    (λ m. tf_format.clauses m.𝓛 m.𝓜.mem m.𝓡.returns) (λ m. call_format.clauses m.𝓛 m.𝓜.mem m.𝓡.returns)
tf_format_exported = record { meets = λ m. format_met.met m.𝓤 m.𝓛 m.𝓜 m.𝓡; is_the_same = λ m. refl }

pub tf_check_exported : Exports tf_check.ended check_symbol.code (code_of check_symbol.name)
    (λ m. tf_check.clauses m.𝓛 m.𝓜.mem m.𝓡.returns) (λ m. call_check.clauses m.𝓛 m.𝓜.mem m.𝓡.returns)
tf_check_exported = record { meets = λ m. check_met.met m.𝓤 m.𝓛 m.𝓜 m.𝓡; is_the_same = λ m. refl }

pub tf_read_exported : Exports tf_read.ended read_symbol.code (code_of read_symbol.name)
    (λ m. tf_read.clauses m.𝓛 m.𝓜.mem m.𝓡.returns) (λ m. call_read.clauses m.𝓛 m.𝓜.mem m.𝓡.returns)
tf_read_exported = record { meets = λ m. read_met.met m.𝓤 m.𝓛 m.𝓜 m.𝓡; is_the_same = λ m. refl }

pub tf_write_exported : Exports tf_write.ended write_symbol.code (code_of write_symbol.name)
    (λ m. tf_write.clauses m.𝓛 m.𝓜.mem m.𝓡.returns) (λ m. call_write.clauses m.𝓛 m.𝓜.mem m.𝓡.returns)
tf_write_exported = record { meets = λ m. write_met.met m.𝓤 m.𝓛 m.𝓜 m.𝓡; is_the_same = λ m. refl }

pub tf_run_exported : Exports tf_run.ended run_symbol.code (code_of run_symbol.name)
    (λ m. tf_run.clauses m.𝓛 m.𝓜.mem m.𝓡.returns) (λ m. call_run.clauses m.𝓛 m.𝓜.mem m.𝓡.returns)
tf_run_exported = record { meets = λ m. run_met.met m.𝓤 m.𝓛 m.𝓜 m.𝓡; is_the_same = λ m. refl }

pub tf_settings_read_exported : Exports tf_settings_read.ended settings_read_symbol.code (code_of settings_read_symbol.name)
    (λ m. tf_settings_read.clauses m.𝓛 m.𝓜.mem m.𝓡.returns) (λ m. call_settings_read.clauses m.𝓛 m.𝓜.mem m.𝓡.returns)
tf_settings_read_exported = record { meets = λ m. settings_read_met.met m.𝓤 m.𝓛 m.𝓜 m.𝓡; is_the_same = λ m. refl }

pub tf_settings_write_exported : Exports tf_settings_write.ended settings_write_symbol.code (code_of settings_write_symbol.name)
    (λ m. tf_settings_write.clauses m.𝓛 m.𝓜.mem m.𝓡.returns) (λ m. call_settings_write.clauses m.𝓛 m.𝓜.mem m.𝓡.returns)
tf_settings_write_exported = record { meets = λ m. settings_write_met.met m.𝓤 m.𝓛 m.𝓜 m.𝓡; is_the_same = λ m. refl }
