-- Row by row: where none refuses, the numbers of all are there.
use Rattle.fields.specs.Rows.{BeforeRow}
use Rattle.fields.proofs.rows.fields_at.Given as goal

abbrev pub invariant-loop-i : goal.invariant-loop-i
invariant-loop-i l = BeforeRow l.bytes l.f-items l.numbers l.rest l.i
