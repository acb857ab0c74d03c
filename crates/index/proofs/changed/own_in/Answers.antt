-- `index::changed::own_in` meets its contract: so many of the first k are of the page.
use Rattle.std.proofs.Common.{ℕ, ◌+◌, Bool, arith}
use Rattle.flash.specs.Counting.{count_le, counts_one}
use Rattle.lent.specs.Model.{geometry}
use Rattle.index.specs.OfPage.{of_page_at, counted_as}
use Rattle.index.proofs.changed.own_in.Goals as goal

pub overflow_add-own : goal.overflow_add-own
overflow_add-own c =
    let own : ℕ → Bool =
    λ j. of_page_at (geometry c.args.g) c.args.t c.args.cache.now (c.args.i + j) in
    omega (arith, c.loop-k.auto.k-end, count_le c.loop-k.k own, c.loop-k.invariant, counts_one (own c.loop-k.k) (counted_as c.from-own.ensures c.of_page.ensures))
