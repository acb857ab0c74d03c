-- `index::changed::set_changed` meets its contract: the entries behind the first and k stretches have been looked at, and so many of the page
-- were met.
use Rattle.std.proofs.Common.{◌≡◌, ◌+◌, ◌*◌, ◌/◌, ◌%◌, refl, arith}
use Rattle.flash.specs.Counting.{count_le}
use Rattle.lent.specs.Model.{geometry}
use Rattle.index.specs.OfPage.{of_page_at, stretch}
use Rattle.index.specs.Changed.{all_left, none_left, stretch_passed, all_met}
use Rattle.index.proofs.changed.set_changed.Goals as goal

pub loop-k-init : goal.loop-k-init
loop-k-init c =
    let pre = c.requires.chip_lent in
    let all : c.args.n % 20 + c.args.n / 20 * stretch ≡ c.args.n = omega arith in
    rw all (all_left pre.0 pre.1, record { so_far = omega arith })

pub set_stretch-met-requires-clause-i_bound : goal.set_stretch-met-requires-clause-i_bound
set_stretch-met-requires-clause-i_bound c =
    let a = c.args in
    let inv = c.loop-k.invariant in (
      omega (arith, inv.0.upto, c.requires.entries_lent.1),
      omega (arith, inv.1.so_far, count_le a.n (of_page_at (geometry a.g) a.t a.cache.now), c.requires.entries_lent.1),
    )

pub returns-then-w-met : goal.returns-then-w-met
returns-then-w-met c =
    let looked = c.set_stretch-met.ensures in
    let passed = stretch_passed _ stretch (omega (arith, c.loop-k-test.true)) c.loop-k.invariant looked.looks_at looked.value in
    let set = none_left passed.0 (all_met c.requires.entries_lent.0 passed.1 c.if-w-met.true) in
    record {
      chip_after = set.0;
      cache_after = set.1;
    }

pub loop-k-preserved : goal.loop-k-preserved
loop-k-preserved c =
    let looked = c.set_stretch-met.ensures in
    stretch_passed _ stretch (omega (arith, c.loop-k-test.true)) c.loop-k.invariant looked.looks_at looked.value

pub returns : goal.returns
returns c =
    let end : c.args.n % 20 + c.loop-k.k * stretch ≡ c.args.n % 20 = omega (arith, c.loop-k-test.false) in
    let from = rw end at c.loop-k.invariant.0 in
    let set = none_left (c.set_first.ensures _ _ _ from) refl in
    record {
      chip_after = set.0;
      cache_after = set.1;
    }
