-- `face::format` meets its contract: what it ensures is what the call by value does.
use Rattle.face.proofs.format.Goals as goal

pub returns : goal.returns
returns c = c.format-out.ensures
