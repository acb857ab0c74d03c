-- `facepage::write` meets its contract: what it ensures is what the call by value does.
use Rattle.facepage.proofs.write.Goals as goal

pub returns : goal.returns
returns c = c.write-out.ensures
