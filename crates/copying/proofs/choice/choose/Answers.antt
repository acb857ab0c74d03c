-- `copying::choice::choose` meets its contract: the code's tests are the definition's.
use Prim.Native.Nat.{◌≤◌}
use native.Mathlib.Omega.{arith}
use Rattle.scope.specs.SmallRecord.{next_offset}
use Rattle.lent.specs.Model.{geometry, region, small}
use Rattle.copying.specs.Choice.{room_chosen, open_chosen}
use Rattle.copying.proofs.choice.choose.Goals as goal

pub returns-then-next_offset-blocks : goal.returns-then-next_offset-blocks
returns-then-next_offset-blocks c = let a = c.args in
    room_chosen (geometry a.blocks.now.g) (region a.r) (omega (arith, c.if-next_offset-blocks.true, c.next_offset.ensures))

pub returns-then-erased_blocks-ge2 : goal.returns-then-erased_blocks-ge2
returns-then-erased_blocks-ge2 c = let a = c.args in
    let full : a.blocks.now.g.p ≤ next_offset (region a.r) (small a.work.now.rec) =
    omega (arith, c.if-next_offset-blocks.false, c.next_offset.ensures) in
    open_chosen (geometry a.blocks.now.g) (region a.r) full c.erased_blocks.ensures c.if-erased_blocks-ge2.true
    c.open_lowest.ensures
