-- `held::Held::tally_stored` meets its contract.
use native.Mathlib.Omega.{arith}
use Prim.Native.Nat.{◌+◌}
use Rattle.scope.specs.Regions.{Data}
use Rattle.flash.specs.Bounded.{accepted_region, owners_few}
use Rattle.lent.specs.Model.{geometry}
use Rattle.mapping.specs.Tally.{nothing, room_enough, tallied_room, most_counted}
use Rattle.mapping.specs.Translated.{held_by, pages_more}
use Rattle.mapping.proofs.held.Held.tally_stored.Goals as goal

pub tally_from-t-requires : goal.tally_from-t-requires
tally_from-t-requires c = let s = c.args.self.now in
    let turn = c.loop-t in (
      omega (arith, s.directory_len),
      tallied_room nothing turn.sum (held_by (geometry s.g) turn.t) (s.g.l + s.g.w) most_counted _ _ turn.invariant.1 room_enough
          (omega (arith, owners_few (accepted_region s.accepted Data), s.accepted.W_to)),
    )

pub loop-t-preserved : goal.loop-t-preserved
loop-t-preserved c = let s = c.args.self.now in
    let turn = c.loop-t in
    let from = c.tally_from-t in (
      omega (arith, from.ensures.ends, s.directory_len),
      pages_more (geometry s.g) s.accepted s.chip.now s.spare.now s.directory.now turn.t from.result nothing turn.sum
          from.new.sum (omega (arith, s.directory_len)) from.ensures.goes_on turn.invariant.1 from.ensures.counted,
    )
