-- `index::changed::set_own` meets its contract: those from rank k on have been looked at, and so many of the page are left.
use Rattle.lent.specs.Model.{geometry}
use Rattle.index.specs.OfPage.{stretch}
use Rattle.index.specs.Changed.{OwnLeft}
use Rattle.index.proofs.changed.set_own.Given as goal

abbrev pub invariant-loop-k : goal.invariant-loop-k
invariant-loop-k l = OwnLeft (geometry l.g) l.q l.t l.i stretch l.initial.cache l.initial.chip l.cache l.chip l.left l.k
