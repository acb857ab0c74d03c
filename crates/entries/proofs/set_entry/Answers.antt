-- `entries::set_entry` meets its contract.
use Rattle.entries.specs.Entries.{set_entry_does}
use Rattle.entries.proofs.set_entry.Goals as goal

pub returns : goal.returns
returns c = λ w. set_entry_does c.args.i c.args.place c.store_two.ensures
