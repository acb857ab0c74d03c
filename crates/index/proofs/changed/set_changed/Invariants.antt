-- `index::changed::set_changed` meets its contract: the entries behind the first and k stretches have been looked at, and so many of the page
-- were met.
use Rattle.std.proofs.Common.{◌+◌, ◌*◌}
use Rattle.lent.specs.Model.{geometry}
use Rattle.index.specs.OfPage.{stretch}
use Rattle.index.specs.Changed.{SetFrom, MetFrom}
use Rattle.index.proofs.changed.set_changed.Given as goal

abbrev pub invariant-loop-k : goal.invariant-loop-k
invariant-loop-k l = SetFrom (geometry l.g) l.q l.t l.n (l.first + l.k * stretch) l.initial.cache l.initial.chip l.cache l.chip
    × MetFrom (geometry l.g) l.t l.n (l.first + l.k * stretch) l.initial.cache l.met
