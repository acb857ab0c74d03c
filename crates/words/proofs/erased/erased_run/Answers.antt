-- `erased::erased_run` meets its contract. The loop's invariant: the words of the first k steps are erased.
use native.Mathlib.Omega.{arith}
use mathlib.Core.Path.{◌≡◌, subst}
use Prim.Native.Nat.{◌+◌, ◌*◌}
use Rattle.words.specs.Erased.{ErasedRun, erased_run_more}
use Rattle.words.proofs.erased.erased_run.Goals as goal

pub loop-k-preserved : goal.loop-k-preserved
loop-k-preserved c = let a = c.args in
    let turn = c.loop-k in
    let next : a.at + turn.k * 16 + 16 ≡ a.at + (turn.k + 1) * 16 = omega arith in
    subst (ErasedRun a.words.now a.at) next
    (erased_run_more a.words.now a.at (a.at + turn.k * 16) 16 c.sweep.result (omega arith) turn.invariant c.if-sweep.false c.sweep.ensures)
