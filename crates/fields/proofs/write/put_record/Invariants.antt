-- The version, and then row by row: where the rows end, the place holds the whole record.
use Rattle.lent.specs.Model.{geometry}
use Rattle.settings.specs.Settings.{written}
use Rattle.fields.specs.Model.{version}
use Rattle.fields.specs.Written.{WrittenBefore}
use Rattle.fields.proofs.write.put_record.Given as goal

abbrev pub invariant-loop-i : goal.invariant-loop-i
invariant-loop-i l = WrittenBefore (written (version l.fn.table) (geometry l.fn.g)) l.place l.f-items l.numbers l.at l.i
