-- `requests::node::Node::drop_if_full` meets its contract: the code's test is the definition's.
use Rattle.steps.specs.Flash.{same_lent}
use Rattle.requests.specs.Translating.{drop_none_does, drop_last_does}
use Rattle.requests.specs.Node.{under, same_lists}
use Rattle.requests.proofs.node.Node.drop_if_full.Goals as goal

pub returns-then-self : goal.returns-then-self
returns-then-self c = record {
  does = drop_none_does (under c.args.self.now) c.if-self.true;
  same = (same_lent, same_lists);
}

pub returns : goal.returns
returns c = record {
  does = drop_last_does (under c.args.self.now) c.if-self.false c.drop_entry.ensures.does;
  same = c.drop_entry.ensures.same;
}
