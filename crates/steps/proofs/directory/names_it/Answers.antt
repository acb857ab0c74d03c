-- `steps::directory::names_it` meets its contract.
use mathlib.Core.Path.{refl}
use Rattle.steps.specs.Directory.{names_does}
use Rattle.steps.proofs.directory.names_it.Goals as goal

pub returns : goal.returns
returns c = λ w. names_does c.args.t c.args.p refl
