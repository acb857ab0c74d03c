-- The loop of `lines::print::put_line` keeps a line half printed.
use Rattle.lines.proofs.Printing.{Printed}
use Rattle.lines.proofs.print.put_line.Given as goal

abbrev pub invariant-loop-i : goal.invariant-loop-i
invariant-loop-i l = Printed l.fn.out l.numbers l.out l.at l.i
