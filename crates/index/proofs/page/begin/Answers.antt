-- `index::page::begin` meets its contract: room is made, and the law of room gives what the words' page asks for.
use Rattle.std.proofs.Common.{sym, ◌∙◌, arith}
use Rattle.flash.specs.Bounded.{accepted_bounded}
use Rattle.lent.specs.Shapes.{less_room}
use Rattle.steps.specs.Flash.{then_same}
use Rattle.steps.specs.Lies.{next_same}
use Rattle.index.specs.Writing.{roomy}
use Rattle.index.proofs.page.begin.Goals as goal

pub begin_next-requires : goal.begin_next-requires
begin_next-requires c =
    let kept = c.room.ensures.same.geometry_kept in
    let after = roomy c.requires c.room.ensures.does in
    rw kept
    (record {
      on_chip = λ p e. after.former p (sym c.named-former.ensures ∙ e);
      has_next = (after.next, less_room (omega arith) after.counting);
    })

pub next_page-requires : goal.next_page-requires
next_page-requires c =
    let kept = then_same c.room.ensures.same c.begin_next.ensures.only_chip.same in
    let begun = rw c.room.ensures.same.geometry_kept at c.begin_next.ensures.begun in
    rw kept.geometry_kept
    (accepted_bounded c.requires.lent.accepted, next_same begun.kept (roomy c.requires c.room.ensures.does).next)
