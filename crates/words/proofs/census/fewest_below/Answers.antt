-- `words::census::fewest_below` meets its contract. The invariant: the best of the first i numbers.
use Prim.Native.Nat.{ℕ}
use mathlib.Core.Path.{◌≡◌, subst}
use native.Mathlib.Omega.{arith}
use lib.Dec.{ltb}
use Rattle.words.specs.Searches.{fewest_le, BestSoFar, best_of_more, best_of_all}
use Rattle.scope.specs.Counting.{fewest}
use Rattle.words.proofs.census.fewest_below.Invariants.{sizes}
use Rattle.words.proofs.census.fewest_below.Goals as goal

pub loop-i-preserved : goal.loop-i-preserved
loop-i-preserved c = let a = c.args in
    best_of_more (sizes a.census.now a.first) a.limit a.n c.loop-i.i c.loop-i.best.at c.loop-i.best.size _ _
    c.loop-i.invariant c.better-best.ensures.0 c.better-best.ensures.1

pub returns : goal.returns
returns c = let a = c.args in
    let size = sizes a.census.now a.first in
    let end : c.loop-i.i ≡ a.n = omega arith in
    let is : c.loop-i.best.at ≡ fewest a.n (λ i. ltb (size i) a.limit) size =
    best_of_all size a.limit a.n c.loop-i.best.at c.loop-i.best.size
    (subst (λ (k : ℕ). BestSoFar size a.limit a.n k c.loop-i.best.at c.loop-i.best.size) end c.loop-i.invariant) in
    (omega (arith, is, fewest_le a.n (λ i. ltb (size i) a.limit) size), is)
