-- `wordcalls::format` meets its contract: the call by value, between the record loaded and the record stored.
use Rattle.scope.specs.Boundary.{tf_format}
use Rattle.wording.specs.Stored.{answers_in_words}
use Rattle.wordcalls.proofs.format.Goals as goal

pub returns : goal.returns
unfolding tf_format
returns c = rw c.into.ensures (answers_in_words _ _ c.load-rec.ensures c.format-formatted.ensures c.store.ensures)
