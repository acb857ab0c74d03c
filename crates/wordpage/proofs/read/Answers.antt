-- `wordpage::read` meets its contract: the call by value, between the record loaded and the record stored.
use Rattle.scope.specs.Boundary.{tf_read}
use Rattle.wording.specs.Stored.{answers_in_words}
use Rattle.wordpage.proofs.read.Goals as goal

pub returns : goal.returns
unfolding tf_read
returns c = rw c.into.ensures (answers_in_words _ _ c.load-rec.ensures c.read-read.ensures c.store.ensures)
