-- `words::entries::among_four` meets its contract. The loop's invariant: none of the first k entries has the logical page.
use Prim.Native.Nat.{◌+◌, ◌*◌}
use mathlib.Core.Path.{refl, sym}
use native.Mathlib.Omega.{arith}
use lib.Dec.{eqb}
use borrow.Author.Count.{below_more}
use Rattle.scope.specs.Lent.{entry_words, logical_at}
use Rattle.flash.specs.Searching.{lowest_unique}
use Rattle.words.specs.Searches.{lowest_fails}
use Rattle.words.specs.Entries.{entry_has, entry_differs}
use Rattle.words.proofs.entries.among_four.Goals as goal

pub returns-then-cache-i : goal.returns-then-cache-i
returns-then-cache-i c = let a = c.args in
    let k = c.loop-k.k in
    sym (lowest_unique 4 (λ j. eqb (logical_at (a.i + j) a.cache.now) a.l) k (record {
      below = omega arith;
      passes = entry_has a.cache.now a.l (a.i + k) ((a.i + k) * entry_words) refl (omega arith) c.if-cache-i.true;
      least = c.loop-k.invariant;
    }))

pub loop-k-preserved : goal.loop-k-preserved
loop-k-preserved c = let a = c.args in
    let k = c.loop-k.k in
    below_more _ _ c.loop-k.invariant (entry_differs a.cache.now a.l (a.i + k) ((a.i + k) * entry_words) refl (omega arith) c.if-cache-i.false)

pub returns : goal.returns
returns c = let a = c.args in
    sym (lowest_fails 4 (λ j. eqb (logical_at (a.i + j) a.cache.now) a.l) (λ j h. c.loop-k.invariant j (omega arith)))
