-- One byte, two, or four.
use Rattle.std.proofs.Common.{arith}
use Rattle.settings.specs.Fields.{number}
use Rattle.fields.proofs.next.number.Goals as goal

pub returns-in-One : goal.returns-in-One
unfolding number
returns-in-One c = rw c.in-One.is (omega arith)

pub returns-in-Four : goal.returns-in-Four
unfolding number
returns-in-Four c = rw c.in-Four.is (omega (arith, c.from_be_bytes.ensures))
