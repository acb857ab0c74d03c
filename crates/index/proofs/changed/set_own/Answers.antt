-- `index::changed::set_own` meets its contract: those from rank k on have been looked at, and so many of the page are left.
use Rattle.steps.specs.Lies.{chip_still}
use Rattle.index.specs.OfPage.{counted_as}
use Rattle.index.specs.Changed.{one_less_left, none_own_left}
use Rattle.index.proofs.changed.set_own.Goals as goal

pub returns-then-left-eq0 : goal.returns-then-left-eq0
returns-then-left-eq0 c = none_own_left c.loop-k.invariant c.if-left-eq0.true

pub loop-k-preserved : goal.loop-k-preserved
loop-k-preserved c =
    let ready = c.requires.chip_lent in
    one_less_left c.loop-k.invariant c.loop-k-test.true (counted_as c.from-left.ensures c.of_page.ensures)
    (chip_still ready.0 c.loop-k.auto.chip) ready.1 c.set_if_changed.ensures
