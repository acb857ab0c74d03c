-- `wordpage::write` meets its contract: the call by value, between the record loaded and the record stored.
use Rattle.scope.specs.Boundary.{tf_write}
use Rattle.wording.specs.Stored.{answers_in_words}
use Rattle.wordpage.proofs.write.Goals as goal

pub returns : goal.returns
unfolding tf_write
returns c = rw c.into.ensures (answers_in_words _ _ c.load-rec.ensures c.write-written.ensures c.store.ensures)
