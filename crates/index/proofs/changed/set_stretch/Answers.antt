-- `index::changed::set_stretch` meets its contract: where none of the stretch is of the page it is passed by.
use Rattle.std.proofs.Common.{◌≡◌, ℕ, ◌+◌, Bool, sym, ◌∙◌, arith}
use Rattle.scope.specs.Counting.{count}
use Rattle.flash.specs.Counting.{count_le}
use Rattle.lent.specs.Model.{geometry}
use Rattle.index.specs.OfPage.{of_page_at, stretch}
use Rattle.index.specs.Changed.{looks_past}
use Rattle.index.proofs.changed.set_stretch.Goals as goal

pub returns-then-own-eq0-clause-looks_at : goal.returns-then-own-eq0-clause-looks_at
returns-then-own-eq0-clause-looks_at c =
    let own : ℕ → Bool =
    λ k. of_page_at (geometry c.args.g) c.args.t c.args.cache.now (c.args.i + k) in
    let none-met : count stretch own ≡ 0 = sym c.own_in-own.ensures ∙ c.if-own-eq0.true in
    looks_past stretch none-met

pub overflow_add-result : goal.overflow_add-result
overflow_add-result c =
    let own : ℕ → Bool =
    λ k. of_page_at (geometry c.args.g) c.args.t c.args.cache.now (c.args.i + k) in
    omega (arith, c.requires.i_bound.1, c.own_in-own.ensures, count_le stretch own)
