-- `part::Part::run_of_places` meets its contract.
use native.Mathlib.Omega.{arith}
use lib.ListN.{length, get_or}
use Rattle.scope.specs.Lent.{none}
use Rattle.flash.specs.Counting.{counts_one}
use Rattle.words.specs.Runs.{get_d_any}
use Rattle.mapping.specs.Named.{place_some}
use Rattle.mapping.specs.Part.{good}
use Rattle.mapping.specs.Tally.{run_more, run_most}
use Rattle.mapping.proofs.part.Part.run_of_places.Goals as goal

pub overflow_add-found : goal.overflow_add-found
overflow_add-found c = let s = c.args.self.now in
    omega (arith, s.few, run_most c.loop-at.invariant, counts_one (good s c.loop-at.at) c.good_at-found.ensures)

pub loop-at-preserved : goal.loop-at-preserved
loop-at-preserved c = let s = c.args.self.now in
    let inside = c.loop-at-test.true in
    run_more c.args.i c.loop-at.at c.loop-at.found c.good_at-found.result (length s.words.now) _ _ c.loop-at.invariant inside
    (place_some s.owners.first s.owners.n (get_or s.words.now c.loop-at.at none) s.owners.few
    (omega (arith, get_d_any s.words.now c.loop-at.at 0 none inside, c.if-end-self.false)))
    c.good_at-found.ensures
