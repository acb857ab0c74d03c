-- `part::Part::tally` meets its contract.
use native.Mathlib.Omega.{arith}
use mathlib.Core.Path.{refl}
use Prim.Native.Nat.{ℕ, ◌+◌, ◌≤◌}
use lib.ListN.{length, get_or}
use Rattle.scope.specs.Lent.{none}
use Rattle.mapping.specs.Part.{past, good}
use Rattle.mapping.specs.Tally.{nothing, Tallied, RunCounted, NonesRun, word_none, nones_counted, tallied_run, tallied_most}
use Rattle.mapping.specs.declared.part.Part.{Part}
use Rattle.mapping.specs.declared.part.Run.{Run}
use Rattle.mapping.specs.declared.tally.Tally.{Tally}
use Rattle.mapping.proofs.part.Part.tally.Goals as goal

module _ (part : Part) where
  abbrev Up-to : Tally → ℕ → Type 0
  Up-to s at = Tallied nothing s at (word_none part.words.now) (good part)

  to-run : (s : Tally) (i : ℕ) (run : Run) → Up-to s i
      → RunCounted i run.at (length part.words.now) (word_none part.words.now) 0 (good part) run.found
      → Up-to (record s { good = s.good + run.found }) run.at
  to-run s i run before counted = tallied_run _ _ _ i run.at _ 0 run.found _ _ before counted (omega arith) refl

  to-rest : (s : Tally) (run rest : Run) → Up-to s run.at → past part ≤ get_or part.words.now run.at none
      → NonesRun part.words.now run.at rest → Up-to (record s { nones = s.nones + rest.found }) rest.at
  to-rest s run rest before beyond counted =
      tallied_run _ _ _ run.at rest.at _ rest.found 0 _ _ before
      (nones_counted part.words.now run.at rest part.from part.owners.spare.now part.owners.first part.owners.n part.owners.few beyond counted)
      refl (omega arith)

pub overflow_add-sum : goal.overflow_add-sum
overflow_add-sum c = let s = c.args.self.now in
    let run = c.run_of_places-run in
    let most =
    tallied_most _ run.result.at (length s.words.now) _ _
    (to-run s c.loop-i.sum c.loop-i.i run.result c.loop-i.invariant.1 run.ensures.counted) run.ensures.counted.ends in
    omega (arith, s.few, most.good_most)

pub overflow_add-sum-then-i-part : goal.overflow_add-sum-then-i-part
overflow_add-sum-then-i-part c = let s = c.args.self.now in
    let run = c.run_of_places-run in
    let rest = c.run_of_nones-rest in
    let most =
    tallied_most _ rest.result.at (length s.words.now) _ _
    (to-rest s _ run.result rest.result
    (to-run s c.loop-i.sum c.loop-i.i run.result c.loop-i.invariant.1 run.ensures.counted)
    (run.ensures.stops (omega arith)) rest.ensures)
    rest.ensures.behind.ends in
    omega (arith, s.few, most.nones_most)

pub loop-i-preserved-then-i-part : goal.loop-i-preserved-then-i-part
loop-i-preserved-then-i-part c = let s = c.args.self.now in
    let run = c.run_of_places-run in
    let rest = c.run_of_nones-rest in (
      rest.ensures.behind.ends,
      to-rest s _ run.result rest.result
          (to-run s c.loop-i.sum c.loop-i.i run.result c.loop-i.invariant.1 run.ensures.counted)
          (run.ensures.stops (omega arith)) rest.ensures,
    )
