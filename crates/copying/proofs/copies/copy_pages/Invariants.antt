-- `copying::copies::copy_pages` meets its contract. The invariant: the first i pages have been copied, and the law of the definition says of
-- them what the next turn asks for.
use mathlib.Core.Path.{◌≡◌}
use lib.ListN.{length}
use Rattle.lent.specs.Model.{geometry, region}
use Rattle.steps.specs.Flash.{SameFlash}
use Rattle.copying.specs.Moves.{moves_words, first_moves}
use Rattle.copying.specs.Copies.{CopiedUpto}
use Rattle.copying.proofs.copies.copy_pages.Given as goal

abbrev pub invariant-loop-i : goal.invariant-loop-i
invariant-loop-i l = CopiedUpto (geometry l.initial.flash.g) (region l.r) l.v l.i l.initial.flash.chip.now l.initial.flash.spare.now l.initial.work
    (first_moves l.n l.moves) l.flash.chip.now l.flash.spare.now l.work
    × SameFlash l.initial.flash l.flash
    × (length l.moves ≡ moves_words)
