-- `words::states::count_state` meets its contract. The invariant: k pages of the first i have the state.
use Prim.Native.Nat.{ℕ, ◌+◌}
use mathlib.Core.Path.{◌≡◌, ap, ◌∙◌}
use mathlib.Core.Bool.{cond}
use native.Mathlib.Omega.{arith}
use lib.Dec.{eqb}
use Rattle.scope.specs.Lent.{state_of}
use Rattle.words.specs.States.{count_next}
use Rattle.flash.specs.Counting.{count_le, counts_one}
use Rattle.words.proofs.states.count_state.Goals as goal

pub overflow_add-k : goal.overflow_add-k
overflow_add-k c = let a = c.args in
    omega (arith, c.loop-i.invariant, count_le c.loop-i.i (λ j. eqb (state_of (a.first + j) a.spare.now) a.state), counts_one _ c.bit-k.ensures)

pub loop-i-preserved : goal.loop-i-preserved
loop-i-preserved c = let a = c.args in
    let page : c.state_at.result ≡ state_of (a.first + c.loop-i.i) a.spare.now = c.state_at.ensures in
    count_next (λ j. eqb (state_of (a.first + j) a.spare.now) a.state) c.loop-i.i _ _ c.loop-i.invariant
    (c.bit-k.ensures ∙ ap (λ (x : ℕ). cond (eqb x a.state) 1 0) page)
