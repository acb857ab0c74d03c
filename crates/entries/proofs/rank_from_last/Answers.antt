-- `entries::rank_from_last` meets its contract. Both loops' invariant: no entry in use from those that are left on has the page.
use Prim.Native.Nat.{◌+◌, ◌-◌, ◌*◌, ◌%◌, ◌<◌}
use mathlib.Core.Path.{refl, sym, ap, ◌∙◌}
use native.Mathlib.Omega.{arith}
use lib.ListN.{length}
use borrow.Author.Tests.{eqb-true}
use Rattle.scope.specs.Lent.{entry_words}
use Rattle.words.specs.Bitmap.{has}
use Rattle.words.specs.Entries.{entry_has, found_among}
use Rattle.lent.specs.Model.{geometry}
use Rattle.entries.specs.Entries.{rank_only, rank_none}
use Rattle.entries.specs.Filter.{filter_misses}
use Rattle.entries.proofs.rank_from_last.Goals as goal

pub returns-then-not-has : goal.returns-then-not-has
returns-then-not-has c = let a = c.args in
    let clear = ap (has a.filter.now) (sym c.bit_of.ensures) ∙ sym c.has.ensures ∙ c.if-not-has.true in
    (omega arith, filter_misses c.requires.filter (geometry a.g) a.l clear)

pub returns-then-k-lt4 : goal.returns-then-k-lt4
returns-then-k-lt4 c = let a = c.args in
    let first = a.rec.used % 4 + (c.loop-turn.turn - 1) * 4 in
    let k = c.among_four-k.result in
    let in_use : first + k < a.rec.used = omega (arith, c.loop-turn.auto.turn, c.loop-turn-test.true, c.if-k-lt4.true) in (
      omega (arith, c.requires.cache_lent.used_to),
      rank_only (geometry a.g) a.cache.now a.l c.requires.cache_lent.used_to c.requires.different _ in_use
          (eqb-true _ _ (found_among a.cache.now a.l first 4 k c.among_four-k.ensures c.if-k-lt4.true)),
    )

pub returns-then-cache-i : goal.returns-then-cache-i
returns-then-cache-i c = let a = c.args in
    let i = c.loop-i.i - 1 in
    let in_use : i < a.rec.used = omega (arith, c.loop-i.auto.i, c.loop-i-test.true) in
    let lies : i * entry_words < length a.cache.now = omega (arith, c.requires.cache_lent.cache_fits, c.requires.cache_lent.used_to) in (
      omega (arith, c.requires.cache_lent.used_to),
      rank_only (geometry a.g) a.cache.now a.l c.requires.cache_lent.used_to c.requires.different _ in_use
          (eqb-true _ _ (entry_has a.cache.now a.l i (i * entry_words) refl lies c.if-cache-i.true)),
    )

pub returns : goal.returns
returns c = let a = c.args in (
  omega arith,
  rank_none (geometry a.g) a.cache.now a.l c.requires.cache_lent.used_to
      (λ k h. c.loop-i.invariant k (omega (arith, c.loop-i-test.false)) h),
)
