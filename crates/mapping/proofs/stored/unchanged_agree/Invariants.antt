-- `stored::unchanged_agree` meets its contract: a walk over the entries in use.
use Rattle.flash.specs.Tests.{PassedUpto}
use Rattle.lent.specs.Model.{geometry}
use Rattle.mapping.specs.Stored.{agrees}
use Rattle.mapping.proofs.stored.unchanged_agree.Given as goal

abbrev pub invariant-loop-i : goal.invariant-loop-i
invariant-loop-i l = PassedUpto l.used (agrees (geometry l.fn.g) l.chip l.directory l.cache) l.i
