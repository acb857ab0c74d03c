-- `index::touched::take_words` meets its contract: the first i mappings are taken out or left.
use Rattle.lent.specs.Model.{geometry}
use Rattle.index.specs.Taking.{TakenUpto}
use Rattle.index.proofs.touched.take_words.Given as goal

abbrev pub invariant-loop-i : goal.invariant-loop-i
invariant-loop-i l = TakenUpto (geometry l.g) l.q l.t l.m l.i l.initial.waiting l.initial.chip l.left.n l.left.lowest l.waiting l.chip
