-- `lines::print::put_line` meets its contract: a turn prints one number more, and the newline ends the line.
use Rattle.lines.proofs.Printing.{turn, done}
use Rattle.lines.proofs.print.put_line.Goals as goal

pub loop-i-preserved : goal.loop-i-preserved
loop-i-preserved c = turn c.loop-i.invariant c.loop-i-test.true (c.type_inv.numbers _).fits c.put_next-at.ensures

pub returns : goal.returns
returns c = done c.loop-i.invariant c.loop-i.auto.i-end c.loop-i-test.false c.requires c.put_byte.ensures
