-- `index::changed::set_first` meets its contract: those from rank k on have been looked at.
use Rattle.std.proofs.Common.{◌≡◌, arith}
use Rattle.index.proofs.changed.set_first.Goals as goal

pub returns : goal.returns
returns c =
    let end : c.loop-k.k ≡ 0 = omega (arith, c.loop-k-test.false) in
    rw end at c.loop-k.invariant
