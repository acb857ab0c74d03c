-- `entries::forget` meets its contract.
use mathlib.Core.Path.{refl}
use Rattle.entries.specs.Entries.{forget_does}
use Rattle.entries.proofs.forget.Goals as goal

pub returns : goal.returns
returns c = forget_does refl c.args.i c.store_three.ensures refl
