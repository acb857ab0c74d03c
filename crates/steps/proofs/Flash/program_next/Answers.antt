-- `steps::Flash::program_next` meets its contract: the words are copied in, and the page is claimed.
use native.Mathlib.Omega.{arith}
use mathlib.Core.Path.{◌∙◌}
use Rattle.steps.specs.Lies.{next_words_lie}
use Rattle.steps.specs.Flash.{chip_lent}
use Rattle.steps.specs.Chip.{program_does}
use Rattle.steps.proofs.Flash.program_next.Goals as goal

pub copy_in-requires : goal.copy_in-requires
copy_in-requires c =
    omega (arith, next_words_lie c.requires.has_next.0 c.next_page-q.ensures (chip_lent c.args.self.now), c.requires.words_long)

pub returns : goal.returns
returns c = record {
  does = program_does c.args.words.now c.next_page-q.ensures (c.claim_next.ensures.only_spare.words ∙ c.copy_in.ensures)
      c.claim_next.ensures.claimed;
  same = c.claim_next.ensures.only_spare.same;
}
