-- `entries::used_fit` meets its contract: a walk over the entries in use, at each of which the filter has the pages so far.
use Rattle.flash.specs.Tests.{PassedUpto}
use Rattle.mapping.specs.Entries.{entry_fits}
use Rattle.mapping.specs.Seen.{seen, Seen}
use Rattle.mapping.proofs.entries.used_fit.Given as goal

abbrev pub invariant-loop-i : goal.invariant-loop-i
invariant-loop-i l = PassedUpto l.n (λ j. entry_fits (seen l.cache j) l.cache l.l j) l.i × Seen l.cache l.i l.filter
