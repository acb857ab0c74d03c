-- `requests::node::Node::follow_moves` meets its contract: the first i moves are followed, and those that wait stand in the words of these.
use Rattle.requests.specs.Node.{under, OnlyCache}
use Rattle.entries.specs.Entries.{Different}
use Rattle.index.specs.Moves.{WaitsIn}
use Rattle.requests.specs.Following.{FollowedUpto}
use Rattle.requests.proofs.node.Node.follow_moves.Given as goal

abbrev pub invariant-loop-i : goal.invariant-loop-i
invariant-loop-i l = FollowedUpto (under l.initial.self) l.n l.i l.waiting l.initial.self.cache.now l.initial.moves l.initial.self.work.now l.self.cache.now l.moves
    × OnlyCache l.initial.self l.self
    × Different l.self.cache.now l.initial.self.work.now.rec.used
    × WaitsIn (under l.initial.self) l.waiting l.moves
