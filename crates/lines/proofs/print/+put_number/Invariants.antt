-- `lines::print::put_number` ends: a tenth of a number that is not one digit is smaller.
use Rattle.lines.proofs.print.+put_number.Given as goal

abbrev pub decreases-put_number : goal.decreases-put_number
decreases-put_number l = l.n
