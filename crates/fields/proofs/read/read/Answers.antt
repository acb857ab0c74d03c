-- The tests in their order, each with what was read before it.
use Rattle.std.proofs.Common.{rules, sym, ap, ◌∙◌}
use Rattle.fields.specs.Model.{settings}
use Rattle.fields.specs.Judged.{row_follows, read_refused, unknown_refused, fields_refused, other_bytes_refused, geometry_refused, all_accepted}
use Rattle.fields.proofs.Exits.{err_passed_on}
use Rattle.fields.proofs.read.read.Goals as goal

pub returns-in_err-number : goal.returns-in_err-number
returns-in_err-number c = ap settings (err_passed_on _ c.from_residual.ensures.1) ∙ read_refused _ c.in_err-number.ensures

pub returns-in_err-table : goal.returns-in_err-table
returns-in_err-table c =
    ap settings (err_passed_on _ c.from_residual-in_err-table.ensures.1)
    ∙ unknown_refused _ c.in_ok-number.ensures _ _ c.version_of.ensures c.in_err-table.ensures.value

pub returns-in_err-numbers : goal.returns-in_err-numbers
returns-in_err-numbers c =
    ap settings (err_passed_on _ c.from_residual-in_err-numbers.ensures.1)
    ∙ fields_refused _ c.in_ok-number.ensures _ _ c.version_of.ensures c.in_ok-table.ensures.value _ c.in_err-numbers.ensures

pub returns-then-not-may_follow : goal.returns-then-not-may_follow
returns-then-not-may_follow c =
    other_bytes_refused _ c.in_ok-number.ensures _ _ c.version_of.ensures c.in_ok-table.ensures.value _ _ c.in_ok-numbers.ensures
    (sym (row_follows c.in_ok-table.table _ _ (search rules) c.may_follow.ensures) ∙ c.if-not-may_follow.true)

pub returns-then-not-accepts : goal.returns-then-not-accepts
returns-then-not-accepts c =
    geometry_refused _ c.in_ok-number.ensures _ _ c.version_of.ensures c.in_ok-table.ensures.value _ _ c.in_ok-numbers.ensures
    (sym (row_follows c.in_ok-table.table _ _ (search rules) c.may_follow.ensures) ∙ c.if-not-may_follow.false) _ c.geometry_from-g.ensures (sym c.accepts.ensures ∙ c.if-not-accepts.true)

pub returns : goal.returns
returns c =
    all_accepted _ c.in_ok-number.ensures _ _ c.version_of.ensures c.in_ok-table.ensures.value _ _ c.in_ok-numbers.ensures
    (sym (row_follows c.in_ok-table.table _ _ (search rules) c.may_follow.ensures) ∙ c.if-not-may_follow.false) _ c.geometry_from-g.ensures (sym c.accepts.ensures ∙ c.if-not-accepts.false)
