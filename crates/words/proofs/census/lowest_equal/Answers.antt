-- `words::census::lowest_equal` meets its contract. The invariant: none of the first i numbers is x.
use Prim.Native.Nat.{◌+◌}
use mathlib.Core.Path.{sym}
use native.Mathlib.Omega.{arith}
use lib.Dec.{eqb}
use lib.ListN.{get_or}
use borrow.Author.Count.{below_more}
use borrow.Author.Tests.{eq-eqb, ne_eqb}
use Rattle.words.specs.Searches.{lowest_fails}
use Rattle.flash.specs.Searching.{lowest_unique}
use Rattle.words.proofs.census.lowest_equal.Goals as goal

pub returns-then-census-first : goal.returns-then-census-first
returns-then-census-first c = let a = c.args in (
  omega arith,
  sym (lowest_unique a.n (λ j. eqb (get_or a.census.now (a.first + j) 0) a.x) c.loop-i.i (record {
    below = omega arith;
    passes = eq-eqb _ _ c.if-census-first.true;
    least = c.loop-i.invariant;
  })),
)

pub loop-i-preserved : goal.loop-i-preserved
loop-i-preserved c = below_more _ _ c.loop-i.invariant (ne_eqb _ _ c.if-census-first.false)

pub returns : goal.returns
returns c = let a = c.args in
    (omega arith, sym (lowest_fails a.n (λ j. eqb (get_or a.census.now (a.first + j) 0) a.x) (λ i h. c.loop-i.invariant i (omega arith))))
