-- `facepage::read` meets its contract: what it ensures is what the call by value does.
use Rattle.facepage.proofs.read.Goals as goal

pub returns : goal.returns
returns c = c.read-out.ensures
