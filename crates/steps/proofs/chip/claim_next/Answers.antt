-- `steps::chip::claim_next` meets its contract: the record names the page behind the claimed one.
use mathlib.Core.Path.{◌∙◌}
use Rattle.lent.specs.Model.{region, small}
use Rattle.steps.specs.Lies.{advanced_is}
use Rattle.steps.proofs.chip.claim_next.Goals as goal

pub returns-clause-claimed : goal.returns-clause-claimed
returns-clause-claimed c = let a = c.args in
    record {
      is_next = c.next_page-q.ensures;
      owned = c.claim_page.ensures.spare_after;
      moves_on = c.set_open.ensures
          ∙ advanced_is (region a.r) (small a.work.now.rec) c.open_block-b.ensures c.next_offset-offset.ensures;
      counting = c.add_program.ensures;
    }
