-- `part::Part::run_of_fours` meets its contract.
use native.Mathlib.Omega.{arith}
use Prim.Native.Nat.{◌+◌}
use lib.ListN.{length, get_or}
use Rattle.scope.specs.Lent.{none}
use Rattle.flash.specs.Counting.{count_le}
use Rattle.mapping.specs.Named.{place_some}
use Rattle.mapping.specs.Part.{good}
use Rattle.mapping.specs.Tally.{run_by, run_most}
use Rattle.mapping.proofs.part.Part.run_of_fours.Goals as goal

pub overflow_add-found : goal.overflow_add-found
overflow_add-found c = let s = c.args.self.now in
    omega (arith, s.few, run_most c.loop-at.invariant, c.four_good-found.ensures, count_le 4 (λ j. good s (c.loop-at.at + j)))

pub loop-at-preserved : goal.loop-at-preserved
loop-at-preserved c = let s = c.args.self.now in
    run_by 4 c.args.i c.loop-at.at c.loop-at.found c.four_good-found.result (length s.words.now) _ _ c.loop-at.invariant c.loop-at-test.true
    (λ j h. place_some s.owners.first s.owners.n (get_or s.words.now (c.loop-at.at + j) none) s.owners.few
    (c.four_places.ensures c.if-four_places.true j h))
    c.four_good-found.ensures
