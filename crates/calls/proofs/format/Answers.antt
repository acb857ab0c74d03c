-- `calls::format` meets its contract.
use mathlib.Core.Path.{sym, ap, ◌∙◌}
use Rattle.lent.specs.Model.{geometry, state, counts}
use Rattle.lent.specs.Reply.{tested, refused_not_done}
use Rattle.calls.specs.Format.{format_sized, format_refused, format_served}
use Rattle.calls.proofs.format.Goals as goal

pub returns-in-Err : goal.returns-in-Err
returns-in-Err c = let a = c.args in
    format_refused (geometry a.g) _ _
    c.lengths_right-right.ensures (sym (ap tested c.in-Err.is) ∙ c.test_sizes-sizes.ensures) (refused_not_done c.in-Err.refusal)
    c.put_none.ensures

pub format-fresh-requires : goal.format-fresh-requires
format-fresh-requires c = let a = c.args in
    format_sized (geometry a.g) (state a.chip.now a.spare.now a.directory.now a.cache.now a.rec) _
    c.lengths_right-right.ensures c.test_sizes-sizes.ensures (ap tested c.in_default.is)

pub returns : goal.returns
returns c = let a = c.args in
    format_served (geometry a.g) _ _
    c.lengths_right-right.ensures c.test_sizes-sizes.ensures (counts c.format-fresh.result.counts)
    (ap tested c.in_default.is) (c.format-fresh.ensures a.rec) c.put_counts.ensures
