-- `index::changed::set_first` meets its contract: those from rank k on have been looked at.
use Rattle.lent.specs.Model.{geometry}
use Rattle.index.specs.Changed.{LooksAt}
use Rattle.index.proofs.changed.set_first.Given as goal

abbrev pub invariant-loop-k : goal.invariant-loop-k
invariant-loop-k l = LooksAt (geometry l.g) l.q l.t l.k l.n l.initial.cache l.initial.chip l.cache l.chip
