-- `serving::begin` meets its contract.
use mathlib.Core.Path.{refl}
use Rattle.lent.specs.Model.{geometry, state}
use Rattle.replies.specs.Sizes.{beside_run}
use Rattle.running.specs.Ends.{run_tested}
use Rattle.serving.proofs.begin.Goals as goal

pub returns : goal.returns
returns c = let a = c.args in
    record {
      tested = run_tested (geometry a.g) (state a.chip.now a.spare.now a.directory.now a.cache.now a.rec)
          a.n a.words a.answers (beside_run a.odd_words a.record_words a.counts)
          c.run_lengths_right-right.ensures c.test_state-answer.ensures.state_tested;
      uncounted = refl;
      kept = refl;
      noted = c.test_state-answer.ensures.noted;
    }
