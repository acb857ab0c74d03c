-- `index::touched::lowest` meets its contract: the lowest of those passed.
use Rattle.std.proofs.Common.{◌≡◌, min, ap, ◌∙◌, arith}
use Rattle.lent.specs.Model.{geometry}
use Rattle.copying.specs.Moves.{no_moves, one_more}
use Rattle.index.specs.Taking.{none_touched, one_touched}
use Rattle.index.proofs.touched.lowest.Goals as goal

pub loop-i-init : goal.loop-i-init
loop-i-init c = λ g _. rw (no_moves c.args.waiting.now) (none_touched (geometry g) c.args.m)

pub loop-i-preserved : goal.loop-i-preserved
loop-i-preserved c = λ g waits.
    let i = c.loop-i.i in
    rw (one_more c.args.waiting.now i)
    (one_touched (geometry g) c.args.m _ _ _ _ (c.loop-i.invariant g waits)
    (c.min-best.ensures ∙ ap (min c.loop-i.best) (waits.of_pages i c.loop-i-test.true)))

pub returns : goal.returns
returns c = λ g waits.
    let end : c.loop-i.i ≡ c.args.n = omega arith in
    rw end at c.loop-i.invariant g waits
