-- `calls::write` meets its contract.
use mathlib.Core.Path.{refl, ap}
use borrow.Author.Rules.{rules}
use Rattle.lent.specs.DoesLaws.{does_ends}
use Rattle.flash.specs.Bounded.{accepted_bounded}
use Rattle.requests.specs.Node.{held_is}
use Rattle.lent.specs.Model.{geometry}
use Rattle.lent.specs.Reply.{tested, refused_not_done}
use Rattle.promises.specs.Bounds.{write_bound}
use Rattle.scope.specs.Requests.{write_steps}
use Rattle.scope.specs.Calls.{write}
use Rattle.words.specs.Filter.{filtered_of}
use Rattle.admission.specs.Room.{write_few}
use Rattle.calls.specs.Single.{single_ready, single_refused, single_served}
use Rattle.calls.proofs.write.Goals as goal

pub returns-in-Err : goal.returns-in-Err
unfolding write
returns-in-Err c = let a = c.args in
    single_refused a.buffer.now (rw (c.into.ensures, c.in-Err.is) at c.test_single-tests.ensures) (write_steps (geometry a.g) a.page a.buffer.now)
    (refused_not_done c.in-Err.refusal) c.put_none.ensures

pub invariant_of-flash : goal.invariant_of-flash
invariant_of-flash c = let a = c.args in
    let (ready, noted) = single_ready a.buffer.now (rw c.into.ensures at c.test_single-tests.ensures) (write_bound (geometry a.g)) write_few (ap tested c.in_default.is) in
    record {
      bounded = accepted_bounded ready.0.ready.accepted;
      chip_fits = ready.0.ready.lengths.chip_fits;
      spare_fits = ready.0.ready.lengths.spare_fits;
      counted = noted.counted;
    }

pub invariant_of-node : goal.invariant_of-node
invariant_of-node c = let a = c.args in
    let ready = single_ready a.buffer.now (rw c.into.ensures at c.test_single-tests.ensures) (write_bound (geometry a.g)) write_few (ap tested c.in_default.is) in
    record { filtered = filtered_of ready.1.filtered }

pub write-answer-requires : goal.write-answer-requires
write-answer-requires c = let a = c.args in
    (single_ready a.buffer.now (rw c.into.ensures at c.test_single-tests.ensures) (write_bound (geometry a.g)) write_few (ap tested c.in_default.is)).0

pub returns : goal.returns
unfolding write
returns c = let a = c.args in
    let node = c.write-answer.new.self in
    single_served a.buffer.now (rw c.into.ensures at c.test_single-tests.ensures) (write_steps (geometry a.g) a.page a.buffer.now)
    _ (ap tested c.in_default.is)
    (does_ends c.write-answer.ensures.does.does
    (held_is node (search rules) (search rules) (search rules) (search rules) (refl {a = node.work.now.rec})) refl)
    c.put_counts.ensures
