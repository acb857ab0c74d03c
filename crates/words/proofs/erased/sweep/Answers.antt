-- `erased::sweep` meets its contract. The loop's invariant: what is left are the bits that `bits` and the first i of the words have in
-- common.
use native.Mathlib.Omega.{arith}
use Prim.Native.Nat.{◌+◌}
use Rattle.words.specs.Erased.{swept_more, swept_all}
use Rattle.words.proofs.erased.sweep.Goals as goal

pub loop-i-preserved : goal.loop-i-preserved
loop-i-preserved c = let a = c.args in
    let turn = c.loop-i in
    swept_more a.words.now a.at a.bits turn.i turn.left (omega (arith, c.requires)) (omega (arith, c.type_inv.words (a.at + turn.i))) turn.invariant

pub returns : goal.returns
returns c = let a = c.args in
    let turn = c.loop-i in
    swept_all a.words.now a.at a.bits turn.i a.n turn.left (omega arith) (omega arith) turn.invariant
