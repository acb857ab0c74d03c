-- `steps::blocks::Blocks::erased_blocks` meets its contract: the erased blocks have the number of P erased pages.
use Rattle.lent.specs.Model.{region}
use Rattle.steps.specs.Census.{erased_counted}
use Rattle.steps.proofs.blocks.Blocks.erased_blocks.Goals as goal

pub returns : goal.returns
returns c = let b = c.args.self.now in
    λ s lent. erased_counted b.bounded b.counted (region c.args.r) c.first_block-first.ensures c.region_blocks-n.ensures s lent c.count_equal.ensures.1
