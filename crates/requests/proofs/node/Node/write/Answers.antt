-- `requests::node::Node::write` meets its contract: translate leaves a sound state, and so does make room, with l's entry at its rank.
use Rattle.steps.specs.Flash.{then_same}
use Rattle.requests.specs.Answering.{write_begins, room_ready, writing_ready, write_does}
use Rattle.requests.specs.Node.{under, then_lists}
use Rattle.requests.proofs.node.Node.write.Goals as goal

pub translate-i-requires : goal.translate-i-requires
translate-i-requires c = write_begins c.requires.0

pub make_room-requires : goal.make_room-requires
make_room-requires c = let translated = c.translate-i.ensures in
    rw translated.same.0.geometry_kept (room_ready c.requires.0 translated.does)

pub place-requires : goal.place-requires
place-requires c = let translated = c.translate-i.ensures in
    let made = rw translated.same.0.geometry_kept at c.make_room.ensures.does.does in
    rw (c.make_room.ensures.does.same.0.geometry_kept, translated.same.0.geometry_kept)
    (writing_ready c.requires.0 translated.does made c.requires.1)

pub returns-clause-does : goal.returns-clause-does
returns-clause-does c = let n = c.args.self.now in
    let translated = c.translate-i.ensures in
    let kept = translated.same.0.geometry_kept in
    let made = rw kept at c.make_room.ensures.does.does in
    let places = rw (c.make_room.ensures.does.same.0.geometry_kept, kept) at c.place.ensures.does in
    let same₁ = c.make_room.ensures.does.same in
    let same₂ = c.place.ensures.same in
    record {
      does = write_does (under n) c.args.l c.args.buffer.now translated.does made places;
      same = (
        then_same translated.same.0 (then_same same₁.0 same₂.0),
        then_lists translated.same.1 (then_lists same₁.1 same₂.1),
      );
    }
