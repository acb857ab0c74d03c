-- `lines::print::put_number` meets its contract: a number's digits are those of a tenth of it, and the last.
use Rattle.lines.specs.Put.{puts_digits}
use Rattle.lines.proofs.print.+put_number.Goals as goal

pub returns : goal.returns
returns t c = puts_digits c.args.n c.if-n-lt10.false c.put_number-last.ensures c.put_byte-2.ensures
