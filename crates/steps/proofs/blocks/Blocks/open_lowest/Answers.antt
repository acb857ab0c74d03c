-- `steps::blocks::Blocks::open_lowest` meets its contract: the block that the search found is opened.
use mathlib.Core.Path.{refl}
use Rattle.steps.specs.Chip.{open_does}
use Rattle.lent.specs.Model.{geometry, region}
use Rattle.steps.proofs.blocks.Blocks.open_lowest.Goals as goal

pub returns : goal.returns
returns c = let a = c.args in
    λ s. open_does (geometry a.self.now.g) (region a.r) (c.lowest_erased-b.ensures _ refl) c.set_open.ensures
