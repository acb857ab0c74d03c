-- Row by row: where none refuses, the numbers of all are there.
use Rattle.std.proofs.Common.{ap, sym, ◌∙◌}
use Rattle.fields.specs.Model.{after_fields}
use Rattle.fields.specs.Rows.{before_next, refused_there, all_rows_read}
use Rattle.fields.proofs.Exits.{err_passed_on}
use Rattle.fields.proofs.rows.fields_at.Goals as goal

pub loop-i-preserved : goal.loop-i-preserved
loop-i-preserved c = before_next c.loop-i.invariant c.loop-i-test.true _ c.in_ok-number.ensures

pub returns-in_err-number : goal.returns-in_err-number
returns-in_err-number c =
    refused_there c.loop-i.invariant c.loop-i-test.true _ c.in_err-number.ensures ∙ ap after_fields (sym (err_passed_on _ c.from_residual.ensures.1))

pub returns : goal.returns
returns c = all_rows_read c.loop-i.invariant c.loop-i-test.false
