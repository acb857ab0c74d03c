-- `wordrun::run` meets its contract: the run over the request words, between the record loaded and the record stored.
use Rattle.scope.specs.Boundary.{tf_run}
use Rattle.wording.specs.Stored.{answers_in_words}
use Rattle.wordrun.proofs.run.Goals as goal

pub returns : goal.returns
unfolding tf_run
returns c = rw c.into.ensures (answers_in_words _ _ c.load-rec.ensures c.run_words-ran.ensures c.store.ensures)
