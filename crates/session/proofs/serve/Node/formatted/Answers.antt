-- `session::serve::Node::formatted` meets its contract: the format leaves the state that 01's session begins from.
use Rattle.session.specs.Called.{format_begins}
use Rattle.session.proofs.serve.Node.formatted.Goals as goal

pub returns : goal.returns
returns c = format_begins _ _ c.tf_format.ensures
