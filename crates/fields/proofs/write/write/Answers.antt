-- Each test that applies refuses, in their order; else the place is filled.
use Rattle.std.proofs.Common.{sym, ap, ◌∙◌}
use Rattle.lent.specs.Model.{geometry}
use Rattle.settings.specs.Settings.{Version, version_1, answered, record_bytes, written}
use Rattle.settings.proofs.Promises.{record_1_has_36_bytes}
use Rattle.settings.proofs.Laws.Calls.{geometry_not_written, place_not_written, record_written}
use Rattle.fields.proofs.write.write.Goals as goal

pub returns-then-not-accepts : goal.returns-then-not-accepts
returns-then-not-accepts c = let a = c.args in
    sym (geometry_not_written version_1 (geometry a.g) a.place.now (sym c.accepts.ensures ∙ c.if-not-accepts.true))

pub returns-then-place-ne-RECORD_BYTES : goal.returns-then-place-ne-RECORD_BYTES
returns-then-place-ne-RECORD_BYTES c = let a = c.args in
    sym
    (place_not_written version_1 (geometry a.g) a.place.now (sym c.accepts.ensures ∙ c.if-not-accepts.false)
    (λ e. c.if-place-ne-RECORD_BYTES.true (e ∙ record_1_has_36_bytes)))

pub put_record-requires : goal.put_record-requires
put_record-requires c = c.if-place-ne-RECORD_BYTES.false ∙ sym record_1_has_36_bytes ∙ ap record_bytes (sym c.version_1.ensures)

pub returns : goal.returns
returns c = let a = c.args in
    ap (answered 0) (c.put_record.ensures ∙ ap (λ (v : Version). written v (geometry a.g)) c.version_1.ensures)
    ∙ sym
    (record_written version_1 (geometry a.g) a.place.now (sym c.accepts.ensures ∙ c.if-not-accepts.false)
    (c.if-place-ne-RECORD_BYTES.false ∙ sym record_1_has_36_bytes))
