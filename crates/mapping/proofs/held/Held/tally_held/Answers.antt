-- `held::Held::tally_held` meets its contract: the part that is lent has at most W words.
use native.Mathlib.Omega.{arith}
use Prim.Native.Nat.{◌+◌, ◌-◌, ◌≤◌}
use lib.ListN.{length, take, drop, length-take}
use Rattle.mapping.specs.Tally.{tallied_most}
use Rattle.mapping.proofs.held.Held.tally_held.Goals as goal

pub add-requires : goal.add-requires
add-requires c = let s = c.args.self.now in
    let room = c.requires.2 in
    let short : length (take (c.args.at + c.min-n.result - c.args.at) (drop c.args.at s.chip.now)) ≤ s.g.w =
    simp length-take (omega (arith, c.min-n.ensures)) in
    let most = tallied_most _ _ s.g.w _ _ c.tally.ensures short in
    (omega (arith, most.nones_most, room.nones_fit), omega (arith, most.good_most, room.good_fit))
