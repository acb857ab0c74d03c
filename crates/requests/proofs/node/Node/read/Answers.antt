-- `requests::node::Node::read` meets its contract: the entry at the rank that translate hands back says where l is.
use mathlib.Core.Path.{sym, ap, ◌∙◌}
use Rattle.scope.specs.Lent.{decode}
use Rattle.steps.specs.Flash.{then_same}
use Rattle.requests.specs.Answering.{read_begins, translated_lies, place_ready, read_does}
use Rattle.requests.specs.Node.{under, then_lists}
use Rattle.requests.proofs.node.Node.read.Goals as goal

pub translate-i-requires : goal.translate-i-requires
translate-i-requires c = read_begins c.requires.0

pub physical-requires : goal.physical-requires
physical-requires c = translated_lies c.requires.0 c.translate-i.ensures.does

pub read_place-requires : goal.read_place-requires
read_place-requires c = let translated = c.translate-i.ensures in
    rw translated.same.0.geometry_kept
    (place_ready c.requires.0 translated.does (c.decode-place.ensures ∙ ap decode c.physical.ensures) c.requires.1)

pub returns-clause-does : goal.returns-clause-does
returns-clause-does c = let n = c.args.self.now in
    let translated = c.translate-i.ensures in
    let is_place = ap decode (sym c.physical.ensures) ∙ sym c.decode-place.ensures in
    let reads = rw translated.same.0.geometry_kept at c.read_place.ensures.does in
    let same = c.read_place.ensures.same in
    record {
      does = read_does (under n) c.args.l c.args.buffer.now translated.does is_place reads;
      same = (then_same translated.same.0 same.0, then_lists translated.same.1 same.1);
    }
