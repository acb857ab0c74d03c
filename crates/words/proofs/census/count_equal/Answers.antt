-- `words::census::count_equal` meets its contract. The invariant: k of the first i numbers are x.
use Prim.Native.Nat.{ℕ, ◌+◌}
use mathlib.Core.Path.{◌≡◌, ap, ◌∙◌}
use mathlib.Core.Bool.{Bool}
use native.Mathlib.Omega.{arith}
use lib.Dec.{eqb}
use lib.ListN.{get_or}
use Rattle.scope.specs.Counting.{count}
use Rattle.flash.specs.Counting.{count_le, counts_one}
use Rattle.words.specs.States.{count_next}
use Rattle.words.proofs.census.count_equal.Goals as goal

pub overflow_add-k : goal.overflow_add-k
overflow_add-k c = let a = c.args in
    omega (arith, c.loop-i.invariant, count_le c.loop-i.i (λ j. eqb (get_or a.census.now (a.first + j) 0) a.x), counts_one _ c.bit-k.ensures)

pub loop-i-preserved : goal.loop-i-preserved
loop-i-preserved c = let a = c.args in
    count_next (λ j. eqb (get_or a.census.now (a.first + j) 0) a.x) c.loop-i.i _ _ c.loop-i.invariant c.bit-k.ensures

pub returns : goal.returns
returns c = let a = c.args in
    let f : ℕ → Bool = λ j. eqb (get_or a.census.now (a.first + j) 0) a.x in
    let end : c.loop-i.i ≡ a.n = omega arith in
    let is : c.loop-i.k ≡ count a.n f = c.loop-i.invariant ∙ ap (λ (m : ℕ). count m f) end in
    (omega (arith, is, count_le a.n f), is)
