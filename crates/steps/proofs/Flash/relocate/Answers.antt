-- `steps::Flash::relocate` meets its contract: a copy, a claim with the page's own owner, and a mark.
use mathlib.Core.Path.{refl, ◌∙◌}
use Rattle.steps.specs.Lies.{next_words_lie, words_lie, pages_apart}
use Rattle.steps.specs.Flash.{chip_lent, then_same}
use Rattle.steps.specs.Chip.{relocate_does}
use Rattle.steps.proofs.Flash.relocate.Goals as goal

pub copy_within-requires : goal.copy_within-requires
copy_within-requires c = record {
  n_in_bounds = (
    (words_lie (chip_lent c.args.self.now) c.args.p c.requires.on_chip).words,
    (next_words_lie c.requires.has_next.0 c.next_page-q.ensures (chip_lent c.args.self.now)).words,
  );
  fact = pages_apart c.args.self.now.g.w c.args.p c.next_page-q.result;
}

pub returns : goal.returns
returns c = let claimed = c.claim_next-page.ensures in
    let marked = c.mark.ensures in
    record {
      does = relocate_does c.args.p c.owner-owner.ensures c.next_page-q.ensures
          (marked.only_spare.words ∙ claimed.only_spare.words ∙ c.copy_within.ensures) refl c.add_read.ensures
          claimed.claimed marked.spare_after;
      same = then_same claimed.only_spare.same marked.only_spare.same;
    }
