-- `area::Area::pages_fit` meets its contract.
use mathlib.Core.Bool.{not}
use mathlib.Core.Path.{ap}
use Prim.Native.Nat.{◌+◌}
use native.Mathlib.Omega.{arith}
use Rattle.flash.specs.Tests.{passed_stops}
use Rattle.geometry.specs.Sizes.{piece_inside}
use Rattle.survey.proofs.area.Area.pages_fit.Goals as goal

pub page_fits-requires : goal.page_fits-requires
page_fits-requires c = let a = c.args.self.now in
    omega (arith, piece_inside a.p (a.first + a.n) c.args.b c.requires)

pub returns-then-not-page_fits : goal.returns-then-not-page_fits
returns-then-not-page_fits c = passed_stops _ _ c.page_fits.result c.loop-i.invariant c.loop-i-test.true
    c.page_fits.ensures (ap not c.if-not-page_fits.true)
