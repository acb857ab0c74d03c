-- `requests::node::Node::read_place` meets its contract, for a place and for none.
use mathlib.Core.Path.{ap}
use Rattle.lent.specs.Model.{entry}
use Rattle.words.specs.Filter.{filter_of, filtered_of}
use Rattle.steps.specs.Flash.{same_lent}
use Rattle.requests.specs.Answering.{read_place_does, read_nowhere_does}
use Rattle.requests.specs.Filtered.{filter_still, read_page_keeps_used}
use Rattle.requests.specs.Node.{under, held, same_lists}
use Rattle.requests.proofs.node.Node.read_place.Goals as goal

pub returns-in_default : goal.returns-in_default
returns-in_default c = let n = c.args.self.now in
    record {
      does = read_nowhere_does (under n) c.args.buffer.now (ap entry c.in_default.is) (held n);
      same = (same_lent, same_lists);
    }

pub invariant_of-self : goal.invariant_of-self
invariant_of-self c = let n = c.args.self.now in
    record { filtered = filtered_of (filter_still (read_page_keeps_used (under n) _ c.read_page.ensures) (filter_of n.filtered)) }

pub returns : goal.returns
returns c = let n = c.args.self.now in
    record {
      does = read_place_does (under n) c.args.buffer.now _ (ap entry c.in-Place.is) c.read_page.ensures (held n);
      same = (same_lent, same_lists);
    }
