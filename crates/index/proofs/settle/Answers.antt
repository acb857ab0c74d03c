-- `index::settle` meets its contract: what is left waits for the translation pages from the lowest of them on.
use Rattle.std.proofs.Common.{refl}
use Rattle.steps.specs.Flash.{same_lent, then_same}
use Rattle.index.specs.Settling.{settle_starts, settle_next, settle_goes_on, settle_ends}
use Rattle.index.proofs.settle.Goals as goal

pub loop-left-init : goal.loop-left-init
loop-left-init c = (
  settle_starts c.requires.index_ready refl (c.lowest-t.ensures c.args.flash.now.g c.requires.waits_in),
  c.requires.waits_in,
  same_lent,
)

pub update_page-left-requires : goal.update_page-left-requires
update_page-left-requires c = let inv = c.loop-left.invariant in
    rw inv.2.geometry_kept
    (record {
      page_ready = settle_next c.requires.index_ready inv.0 c.loop-left-test.true;
      waits_in = inv.1;
    })

pub loop-left-preserved : goal.loop-left-preserved
loop-left-preserved c = let inv = c.loop-left.invariant in
    let left = rw inv.2.geometry_kept at c.update_page-left.ensures.left_after in
    let updated = rw inv.2.geometry_kept at c.update_page-left.ensures.does_index.does in (
      settle_goes_on c.requires.index_ready inv.0 c.loop-left-test.true updated left.rest left.low,
      left.waits,
      then_same inv.2 c.update_page-left.ensures.does_index.same,
    )

pub returns : goal.returns
returns c = let inv = c.loop-left.invariant in
    record { does = settle_ends c.requires.index_ready inv.0 c.loop-left-test.false; same = inv.2 }
