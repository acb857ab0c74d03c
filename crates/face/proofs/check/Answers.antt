-- `face::check` meets its contract: what it ensures is what the call by value does.
use Rattle.face.proofs.check.Goals as goal

pub returns : goal.returns
returns c = c.check.ensures
