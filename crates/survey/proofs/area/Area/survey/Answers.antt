-- `area::Area::survey` meets its contract.
use mathlib.Core.Bool.{not}
use mathlib.Core.Path.{ap, refl}
use Rattle.flash.specs.Cases.{clash}
use Rattle.flash.specs.Tests.{refused, passed}
use Rattle.survey.specs.Blocks.{rule_3}
use Rattle.survey.proofs.area.Area.survey.Goals as goal

pub returns-then-not-opens_at : goal.returns-then-not-opens_at
unfolding rule_3
returns-then-not-opens_at c = simp (refused c.opens_at.ensures (ap not c.if-not-opens_at.true)) (λ p. clash p refl)

pub returns : goal.returns
unfolding rule_3
returns c = simp (passed c.opens_at.ensures (ap not c.if-not-opens_at.false)) c.walk.ensures
