-- `words::entries::rank_of` meets its contract. Both loops' invariant: no entry before the rank matches.
use Prim.Native.Nat.{◌*◌}
use mathlib.Core.Path.{refl, sym}
use native.Mathlib.Omega.{arith}
use borrow.Author.Count.{below_more}
use Rattle.scope.specs.Lent.{entry_words}
use Rattle.words.specs.Entries.{entry_has, entry_differs, match_missed, first_match, match_further, none_further, no_match}
use Rattle.words.proofs.entries.rank_of.Goals as goal

pub returns-then-k-lt4 : goal.returns-then-k-lt4
returns-then-k-lt4 c = let a = c.args in (
  omega arith,
  match_further a.cache.now a.l c.loop-i.i 4 c.among_four-k.result c.among_four-k.ensures
      a.used c.loop-i.invariant.1 a.n c.if-k-lt4.true (omega arith) (omega arith),
)

pub loop-i-preserved : goal.loop-i-preserved
loop-i-preserved c = let a = c.args in (
  omega arith,
  none_further a.cache.now a.l c.loop-i.i 4 c.among_four-k.result c.among_four-k.ensures
      a.used c.loop-i.invariant.1 c.if-k-lt4.false,
)

pub returns-then-cache-rank : goal.returns-then-cache-rank
returns-then-cache-rank c = let a = c.args in
    let i = c.loop-rank.rank in (
      omega arith,
      first_match a.cache.now a.used a.l i a.n (omega arith) (omega arith)
          (entry_has a.cache.now a.l i (i * entry_words) refl (omega arith) c.if-cache-rank.true)
          c.loop-rank.invariant,
    )

pub loop-rank-preserved : goal.loop-rank-preserved
loop-rank-preserved c = let a = c.args in
    let i = c.loop-rank.rank in
    below_more _ _ c.loop-rank.invariant
    (match_missed a.cache.now a.used a.l i (entry_differs a.cache.now a.l i (i * entry_words) refl (omega arith) c.if-cache-rank.false))

pub returns : goal.returns
returns c = let a = c.args in
    (omega arith, sym (no_match a.cache.now a.used a.l a.n (λ i h. c.loop-rank.invariant i (omega (arith, c.loop-i.invariant.0)))))
