-- `steps::blocks::Blocks::lowest_erased` meets its contract: the erased blocks have the number of P erased pages.
use Rattle.lent.specs.Model.{region}
use Rattle.steps.specs.Census.{lowest_found}
use Rattle.steps.proofs.blocks.Blocks.lowest_erased.Goals as goal

pub returns : goal.returns
returns c = let b = c.args.self.now in
    λ s lent. lowest_found b.bounded b.counted (region c.args.r) c.first_block-first.ensures c.region_blocks-n.ensures s lent c.lowest_equal.ensures.1
