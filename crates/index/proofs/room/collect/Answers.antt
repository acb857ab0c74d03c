-- `index::room::collect` meets its contract: its parts are the definition's, each with what it asks for by the law of the part before.
use Rattle.std.proofs.Common.{arith}
use Rattle.lent.specs.Shapes.{less_room}
use Rattle.steps.specs.Flash.{then_same}
use Rattle.index.specs.Index.{flash_does}
use Rattle.index.specs.Collecting.{collected_does}
use Rattle.index.proofs.room.collect.Goals as goal

pub erase-requires : goal.erase-requires
erase-requires c = let ready = c.requires.0 in
    let after = c.start-n.ensures.started in
    rw c.start-n.ensures.does_flash.same.geometry_kept
    (after.on_chip, after.room 1 (less_room (omega (arith, ready.lent.accepted.P_from)) ready.counting))

pub returns : goal.returns
returns c =
    let starts = c.start-n.ensures.does_flash in
    let erased = rw starts.same.geometry_kept at c.erase.ensures.does in
    record {
      does = collected_does c.requires.0 c.requires.1 starts.does c.names_moved.ensures (flash_does _ erased);
      same = then_same starts.same c.erase.ensures.same;
    }
