-- `index::changed::own_in` meets its contract: so many of the first k are of the page.
use Rattle.std.proofs.Common.{◌≡◌, ◌+◌}
use Rattle.scope.specs.Counting.{count}
use Rattle.lent.specs.Model.{geometry}
use Rattle.index.specs.OfPage.{of_page_at}
use Rattle.index.proofs.changed.own_in.Given as goal

abbrev pub invariant-loop-k : goal.invariant-loop-k
invariant-loop-k l = l.own ≡ count l.k (λ j. of_page_at (geometry l.g) l.t l.cache (l.i + j))
