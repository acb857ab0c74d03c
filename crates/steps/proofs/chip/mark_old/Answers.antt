-- `steps::chip::mark_old` meets its contract, for a place and for none.
use mathlib.Core.Path.{sym, ap, ◌∙◌}
use native.Mathlib.Omega.{arith}
use Rattle.lent.specs.declared.Entry.{Entry}
use Rattle.lent.specs.Model.{entry}
use Rattle.steps.specs.Chip.{marked}
use Rattle.steps.proofs.chip.mark_old.Goals as goal

pub mark_page-requires : goal.mark_page-requires
mark_page-requires c =
    record {
      spare_lent = (c.requires.spare_lent.0, omega (arith, c.requires.spare_lent.1 _ (ap entry c.in-Place.is)));
      counted = c.requires.counted;
    }

pub returns-clause-spare_after : goal.returns-clause-spare_after
returns-clause-spare_after c =
    c.mark_page.ensures.spare_after ∙ sym (ap (λ (e : Entry). marked (entry e) c.args.spare.now) c.in-Place.is)
