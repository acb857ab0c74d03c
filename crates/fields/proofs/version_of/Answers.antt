-- The one row has the number 1.
use Rattle.settings.specs.Settings.{version_of}
use Rattle.std.proofs.Common.{refl, ap, arith, ne_eqb}
use Rattle.std.proofs.Math.Option.{some}
use Rattle.fields.proofs.version_of.Goals as goal

pub returns-in-1 : goal.returns-in-1
unfolding version_of
returns-in-1 c = rw c.in-1.is (ap some c.version_1.ensures)

pub returns-in_default : goal.returns-in_default
unfolding version_of
returns-in_default c = rw (ne_eqb c.args.number 1 (λ e. absurd (omega (arith, e)))) refl
