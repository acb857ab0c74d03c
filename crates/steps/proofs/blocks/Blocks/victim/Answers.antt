-- `steps::blocks::Blocks::victim` meets its contract: a block with no erased page has a number below that of one.
use Rattle.lent.specs.Model.{region}
use Rattle.steps.specs.Census.{victim_found}
use Rattle.steps.proofs.blocks.Blocks.victim.Goals as goal

pub returns : goal.returns
returns c = let b = c.args.self.now in
    λ s lent. victim_found b.bounded b.counted (region c.args.r) c.first_block-first.ensures c.region_blocks-n.ensures s lent c.fewest_below.ensures.1
