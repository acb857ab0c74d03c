-- `area::Area::pages_fit` meets its contract.
use Prim.Native.Nat.{◌+◌}
use Rattle.flash.specs.Tests.{PassedUpto}
use Rattle.survey.specs.Pages.{rule_1}
use Rattle.survey.proofs.area.Area.pages_fit.Given as goal

abbrev pub invariant-loop-i : goal.invariant-loop-i
invariant-loop-i l = PassedUpto l.i-end (λ j. rule_1 l.self.w l.self.limit l.self.chip.now l.self.spare.now (l.first + j)) l.i
