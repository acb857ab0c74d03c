-- `wordcalls::check` meets its contract: the call by value, over the record loaded, which isn't stored as nothing changes it.
use Rattle.scope.specs.Boundary.{tf_check}
use Rattle.wording.specs.Stored.{answers_in_words, stored_back}
use Rattle.wordcalls.proofs.check.Goals as goal

pub returns : goal.returns
unfolding tf_check
returns c = rw c.into.ensures (answers_in_words _ _ c.load-rec.ensures c.check.ensures (stored_back _ c.load-rec.ensures))
