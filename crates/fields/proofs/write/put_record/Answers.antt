-- The version, and then row by row: where the rows end, the place holds the whole record.
use Rattle.std.proofs.Common.{rules, arith, ap, ℕ, List, ◌++◌, length, map}
use Rattle.lent.specs.Model.{geometry}
use Rattle.settings.specs.Fields.{bytes_of, fields_written}
use Rattle.settings.specs.Settings.{written, numbers_of}
use Rattle.fields.specs.Model.{field}
use Rattle.fields.specs.Written.{room_for_row, written_next, written_whole}
use Rattle.fields.proofs.write.put_record.Goals as goal

pub loop-i-init : goal.loop-i-init
unfolding written bytes_of
loop-i-init c = let a = c.args in
    record {
      rows = search rules;
      six = ap length c.numbers_of-numbers.ensures;
      fits = omega (arith, c.put_field.ensures.same, c.bytes-at.ensures, c.requires);
      is =
          rw (c.bytes-at.ensures, c.numbers_of-numbers.ensures)
          (ap (λ (l : List ℕ). l ++ fields_written (map field a.table.fields) (numbers_of (geometry a.g))) c.put_field.ensures.put);
    }

pub put_field-requires-in-loop-i : goal.put_field-requires-in-loop-i
put_field-requires-in-loop-i c = room_for_row c.loop-i.invariant c.loop-i-test.true _

pub loop-i-preserved : goal.loop-i-preserved
loop-i-preserved c = rw c.bytes.ensures (written_next c.loop-i.invariant c.loop-i-test.true _ c.put_field-in-loop-i.ensures)

pub returns : goal.returns
returns c = written_whole c.loop-i.invariant c.loop-i-test.false
