-- `requests::node::Node::follow` meets its contract: the code's test is the definition's.
use Rattle.requests.specs.Following.{entry_follows, page_waits}
use Rattle.requests.specs.Filtered.{placed_filter, placed_different}
use Rattle.requests.specs.Node.{under}
use Rattle.words.specs.Filter.{filter_of, filtered_of}
use Rattle.requests.proofs.node.Node.follow.Goals as goal

pub invariant_of-self : goal.invariant_of-self
invariant_of-self c = let n = c.args.self.now in
    record {
      filtered = filtered_of (placed_filter {w = n.work.now} (filter_of n.filtered) c.rank_from_last-i.result c.args.page (c.set_entry.ensures n.work.now));
    }

pub returns-then-i-self-clause-does_waiting : goal.returns-then-i-self-clause-does_waiting
returns-then-i-self-clause-does_waiting c = let a = c.args in
    entry_follows (under a.self.now) a.l a.page c.rank_from_last-i.ensures.1 c.if-i-self.true (c.set_entry.ensures a.self.now.work.now)

pub returns-then-i-self-clause-different_after : goal.returns-then-i-self-clause-different_after
returns-then-i-self-clause-different_after c = let a = c.args in
    placed_different {w = a.self.now.work.now} c.requires.different c.rank_from_last-i.result a.page (c.set_entry.ensures a.self.now.work.now)

pub returns-clause-does_waiting : goal.returns-clause-does_waiting
returns-clause-does_waiting c = let a = c.args in
    page_waits (under a.self.now) a.l a.page c.rank_from_last-i.ensures.1 c.if-i-self.false c.wait.ensures.waiting_after
