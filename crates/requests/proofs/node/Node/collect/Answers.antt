-- `requests::node::Node::collect` meets its contract: each part asks for what the law of the parts before it gives.
use mathlib.Core.Path.{sym, ap, ◌∙◌}
use Rattle.flash.specs.Lengths.{some_state}
use Rattle.scope.specs.Regions.{Data}
use Rattle.lent.specs.declared.Work.{Work}
use Rattle.lent.specs.Model.{geometry}
use Rattle.words.specs.Filter.{filter_of, filtered_of}
use Rattle.steps.specs.Flash.{then_same}
use Rattle.copying.specs.Choice.{start_keeps_used}
use Rattle.index.specs.Index.{flash_does}
use Rattle.requests.specs.Collecting.{start_ready, settle_ready, settled_keeps_used, erase_ready, collected_does}
use Rattle.requests.specs.Filtered.{filter_still, different_still, erase_keeps_used}
use Rattle.requests.specs.Node.{under}
use Rattle.requests.proofs.node.Node.collect.Goals as goal

pub start-n-requires-clause-collect_ready : goal.start-n-requires-clause-collect_ready
start-n-requires-clause-collect_ready c = start_ready c.requires.0 c.requires.1

pub invariant_of-self : goal.invariant_of-self
invariant_of-self c = let n = c.args.self.now in
    let used = start_keeps_used (under n) Data c.args.v c.start-n.ensures.does_flash.does in
    record { filtered = filtered_of (filter_still used (filter_of n.filtered)) }

pub follow_moves-waiting-requires-clause-different : goal.follow_moves-waiting-requires-clause-different
follow_moves-waiting-requires-clause-different c = let n = c.args.self.now in
    let used = start_keeps_used (under n) Data c.args.v c.start-n.ensures.does_flash.does in
    different_still n.cache.now used c.requires.0.ready.sound.rule_5.different

pub settle-requires-clause-index_ready : goal.settle-requires-clause-index_ready
settle-requires-clause-index_ready c =
    let n = c.args.self.now in
    let (ready, chosen) = c.requires in
    let starts = c.start-n.ensures.does_flash in
    let only = c.follow_moves-waiting.ensures.only_cache in
    let follows = rw starts.same.geometry_kept at c.follow_moves-waiting.ensures.does_cache in
    rw (only.same.0.geometry_kept, starts.same.geometry_kept, only.chip_kept, only.spare_kept, only.directory_kept, only.work_kept)
    (settle_ready ready chosen starts.does follows)

pub erase-requires : goal.erase-requires
erase-requires c =
    let n = c.args.self.now in
    let (ready, chosen) = c.requires in
    let starts = c.start-n.ensures.does_flash in
    let only = c.follow_moves-waiting.ensures.only_cache in
    let follows = rw starts.same.geometry_kept at c.follow_moves-waiting.ensures.does_cache in
    let settles = rw (only.same.0.geometry_kept, starts.same.geometry_kept, only.chip_kept, only.spare_kept, only.directory_kept, only.work_kept)
    at c.settle.ensures.does in
    rw (c.settle.ensures.same.geometry_kept, only.same.0.geometry_kept, starts.same.geometry_kept)
    (c.start-n.ensures.started.on_chip, (erase_ready ready chosen starts.does follows settles).1)

pub invariant_of-self-2 : goal.invariant_of-self-2
invariant_of-self-2 c =
    let n = c.args.self.now in
    let (ready, chosen) = c.requires in
    let starts = c.start-n.ensures.does_flash in
    let only = c.follow_moves-waiting.ensures.only_cache in
    let follows = rw starts.same.geometry_kept at c.follow_moves-waiting.ensures.does_cache in
    let settles = rw (only.same.0.geometry_kept, starts.same.geometry_kept, only.chip_kept, only.spare_kept, only.directory_kept, only.work_kept)
    at c.settle.ensures.does in
    let erased = erase_keeps_used (geometry c.settle.new.flash.g) c.args.v (c.erase.ensures.does some_state) in
    let used = erased ∙ settled_keeps_used ready chosen starts.does follows settles
    ∙ sym (ap (λ (w : Work). w.rec.used) only.work_kept) in
    record { filtered = filtered_of (filter_still used (filter_of c.follow_moves-waiting.new.self.filtered)) }

pub returns-clause-does : goal.returns-clause-does
returns-clause-does c =
    let n = c.args.self.now in
    let (ready, chosen) = c.requires in
    let starts = c.start-n.ensures.does_flash in
    let only = c.follow_moves-waiting.ensures.only_cache in
    let follows = rw starts.same.geometry_kept at c.follow_moves-waiting.ensures.does_cache in
    let settles = rw (only.same.0.geometry_kept, starts.same.geometry_kept, only.chip_kept, only.spare_kept, only.directory_kept, only.work_kept)
    at c.settle.ensures.does in
    let erased = rw (c.settle.ensures.same.geometry_kept, only.same.0.geometry_kept, starts.same.geometry_kept) at c.erase.ensures.does in
    record {
      does = collected_does ready chosen starts.does follows settles (flash_does _ erased);
      same = (
        then_same starts.same (then_same only.same.0 (then_same c.settle.ensures.same c.erase.ensures.same)),
        only.same.1,
      );
    }

pub returns-clause-filter_kept : goal.returns-clause-filter_kept
returns-clause-filter_kept c = c.follow_moves-waiting.ensures.only_cache.filter_kept
