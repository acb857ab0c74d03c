-- `index::settle` meets its contract: what is left waits for the translation pages from the lowest of them on.
use Rattle.std.proofs.Common.{◌-◌}
use Rattle.lent.specs.Model.{geometry}
use Rattle.steps.specs.Flash.{SameFlash}
use Rattle.copying.specs.Moves.{first_moves}
use Rattle.index.specs.Index.{indexed}
use Rattle.index.specs.Moves.{WaitsIn}
use Rattle.index.specs.Settling.{Settling}
use Rattle.index.proofs.settle.Given as goal

abbrev pub invariant-loop-left : goal.invariant-loop-left
invariant-loop-left l = Settling (geometry l.initial.flash.g) (first_moves l.fn.n l.initial.waiting) (first_moves l.left.n l.waiting)
    (indexed l.initial.flash l.initial.directory) l.initial.work l.m l.left.lowest (indexed l.flash l.directory) l.work
    × WaitsIn (geometry l.initial.flash.g) l.left.n l.waiting
    × SameFlash l.initial.flash l.flash

abbrev pub decreases-loop-left : goal.decreases-loop-left
decreases-loop-left l = l.m - l.left.lowest
