-- `steps::chip::begin_next` meets its contract, for a former page and for none.
use mathlib.Core.Path.{ap}
use native.Mathlib.Omega.{arith}
use Rattle.steps.specs.Lies.{next_words_lie, words_lie, pages_apart}
use Rattle.lent.specs.Model.{entry}
use Rattle.steps.proofs.chip.begin_next.Goals as goal

pub fill_erased-requires : goal.fill_erased-requires
fill_erased-requires c = omega (arith, next_words_lie c.requires.has_next.0 c.next_page-q.ensures c.requires.on_chip.0)

pub copy_within-requires : goal.copy_within-requires
copy_within-requires c = let from = words_lie c.requires.on_chip.0 _ (c.requires.on_chip.1 _ (ap entry c.in-Place.is)) in
    let to = next_words_lie c.requires.has_next.0 c.next_page-q.ensures c.requires.on_chip.0 in
    record {
      n_in_bounds = (from.words, to.words);
      fact = pages_apart c.args.g.w _ c.next_page-q.result;
    }
