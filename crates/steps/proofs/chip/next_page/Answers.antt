-- `steps::chip::next_page` meets its contract: no product wraps.
use Prim.Native.Nat.{ℕ, ◌*◌}
use mathlib.Core.Path.{ap}
use native.Mathlib.Omega.{arith}
use Rattle.steps.specs.Lies.{next_is, next_to}
use Rattle.lent.specs.Model.{geometry, region, small}
use Rattle.steps.proofs.chip.next_page.Goals as goal

pub overflow_mul-result : goal.overflow_mul-result
overflow_mul-result c = omega (arith, next_to c.requires.0 c.requires.1, ap (λ (b : ℕ). b * c.args.g.p) c.open_block.ensures)

pub overflow_add-result : goal.overflow_add-result
overflow_add-result c = let is = next_is (region c.args.r) (small c.args.rec) c.open_block.ensures c.next_offset.ensures in
    omega (arith, next_to c.requires.0 c.requires.1, is (geometry c.args.g))

pub returns : goal.returns
returns c = let a = c.args in
    next_is (region a.r) (small a.rec) c.open_block.ensures c.next_offset.ensures (geometry a.g)
