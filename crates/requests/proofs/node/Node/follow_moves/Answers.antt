-- `requests::node::Node::follow_moves` meets its contract: the first i moves are followed, and those that wait stand in the words of these.
use Prim.Native.Nat.{ℕ}
use mathlib.Core.Path.{◌≡◌, subst}
use native.Mathlib.Omega.{arith}
use Rattle.index.specs.Moves.{none_wait_in}
use Rattle.requests.specs.Following.{FollowedUpto, none_followed, one_followed}
use Rattle.requests.specs.Node.{under, only_nothing, then_only}
use Rattle.requests.proofs.node.Node.follow_moves.Goals as goal

pub loop-i-init : goal.loop-i-init
loop-i-init c = (none_followed, only_nothing, c.requires.different, none_wait_in c.requires.moves_len)

pub loop-i-preserved : goal.loop-i-preserved
loop-i-preserved c =
    let inv = c.loop-i.invariant in
    let only = inv.1 in
    let followed = c.follow-waiting.ensures in
    let waiting = rw (only.same.0.geometry_kept, only.work_kept) at followed.does_waiting in
    let waits = rw only.same.0.geometry_kept at followed.waits_in_after in
    let different = rw only.work_kept at followed.different_after in (
      one_followed inv.0 (omega (arith, c.loop-i-test.true)) waiting followed.moves_ahead,
      then_only only followed.only_cache,
      different,
      waits,
    )

pub returns-clause-does_cache : goal.returns-clause-does_cache
returns-clause-does_cache c = let left = c.loop-i in
    let a = c.args in
    let n = a.self.now in
    let end : left.i ≡ a.n = omega (arith, left.invariant.0.upto) in
    (subst (λ (k : ℕ). FollowedUpto (under n) a.n k left.waiting n.cache.now a.moves.now n.work.now left.self.cache.now left.moves)
    end left.invariant.0).does
