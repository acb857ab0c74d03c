-- `requests::node::Node::make_room` meets its contract: room is there or was made by the choice, or is by a collection.
use mathlib.Core.Path.{subst}
use Rattle.std.specs.Prelude.{ℕ, Option}
use Rattle.scope.specs.Regions.{Data}
use Rattle.steps.specs.Flash.{same_lent}
use Rattle.words.specs.Filter.{filter_of, filtered_of}
use Rattle.copying.specs.Choice.{Chosen}
use Rattle.requests.specs.Collecting.{chosen_does}
use Rattle.requests.specs.Filtered.{filter_still, chosen_keeps_used}
use Rattle.requests.specs.Node.{under, same_lists}
use Rattle.requests.proofs.node.Node.make_room.Goals as goal

pub invariant_of-self : goal.invariant_of-self
invariant_of-self c = let n = c.args.self.now in
    let chosen = rw (c.blocks-2.ensures.same_geometry, c.blocks-2.ensures.same_spare) at c.choose.ensures in
    let used = chosen_keeps_used (under n) Data n.flash.now.spare.now n.work.now c.choose.new.work c.choose.result chosen in
    record { filtered = filtered_of (filter_still used (filter_of n.filtered)) }

pub returns-in_default-clause-does : goal.returns-in_default-clause-does
returns-in_default-clause-does c = let n = c.args.self.now in
    let chosen = subst (λ (o : Option ℕ). Chosen (under n) Data n.flash.now.spare.now n.work.now o c.choose.new.work) c.in_default.is (rw (c.blocks-2.ensures.same_geometry, c.blocks-2.ensures.same_spare) at c.choose.ensures) in
    record { does = chosen_does c.requires.ready chosen; same = (same_lent, same_lists) }

pub collect-requires : goal.collect-requires
collect-requires c = let n = c.args.self.now in
    let chosen = subst (λ (o : Option ℕ). Chosen (under n) Data n.flash.now.spare.now n.work.now o c.choose.new.work) c.in-Some.is (rw (c.blocks-2.ensures.same_geometry, c.blocks-2.ensures.same_spare) at c.choose.ensures) in
    rw chosen.1 (c.requires, chosen.0)

pub returns-in-Some-clause-filter_kept : goal.returns-in-Some-clause-filter_kept
returns-in-Some-clause-filter_kept c = c.collect.ensures.filter_kept

pub returns-in-Some-clause-does : goal.returns-in-Some-clause-does
returns-in-Some-clause-does c = let n = c.args.self.now in
    let chosen = subst (λ (o : Option ℕ). Chosen (under n) Data n.flash.now.spare.now n.work.now o c.choose.new.work) c.in-Some.is (rw (c.blocks-2.ensures.same_geometry, c.blocks-2.ensures.same_spare) at c.choose.ensures) in
    let collects = rw chosen.1 at c.collect.ensures.does.does in
    record { does = collects; same = c.collect.ensures.does.same }
