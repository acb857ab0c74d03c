-- `wordrun::run_words` meets its contract: a run in its parts.
use mathlib.Core.Path.{refl}
use Rattle.running.specs.Ran.{begun_admits}
use Rattle.wordrun.specs.Run.{run_words_answers}
use Rattle.wordrun.proofs.run_words.Goals as goal

pub serve_words-last-requires : goal.serve_words-last-requires
serve_words-last-requires c = begun_admits c.begin-first.ensures

pub returns : goal.returns
returns c = run_words_answers _ _ refl c.begin-first.ensures c.serve_words-last.ensures.runs c.finish.ensures
