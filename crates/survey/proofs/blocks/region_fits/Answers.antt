-- `blocks::region_fits` meets its contract.
use mathlib.Core.Path.{◌≡◌, refl}
use Rattle.scope.specs.Regions.{first_block, region_blocks, owners}
use Rattle.scope.specs.SmallRecord.{open_block, next_offset}
use Rattle.lent.specs.Model.{geometry, small, region}
use Rattle.survey.specs.Survey.{surveyed_region}
use Rattle.survey.proofs.blocks.region_fits.Goals as goal
use Rattle.survey.proofs.blocks.region_fits.Goals.{in-Data, in-Translation}

pub returns : goal.returns
returns c = let a = c.args in
    let g = geometry a.g in
    let r = region a.r in
    let s = small a.small in
    let is : c.match-r.first ≡ (first_block g r, region_blocks g r, owners g r, open_block r s, next_offset r s) = elim c.match-r.branch [
      | in-Data w ↦ rw w.in-Data.is w.first-is
      | in-Translation w ↦ rw (w.in-Translation.is, ← w.translation_pages.ensures) w.first-is
    ] in
    surveyed_region g r a.chip.now a.spare.now s c.survey.result (owners g r) _ refl (rw is at c.survey.ensures)
