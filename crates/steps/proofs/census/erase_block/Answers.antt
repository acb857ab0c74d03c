-- `steps::census::erase_block` meets its contract: the block's spare words are filled, and its number is that of erased pages.
use Rattle.steps.specs.Lies.{block_spares}
use Rattle.steps.specs.Census.{census_erased}
use Rattle.steps.proofs.census.erase_block.Goals as goal

pub returns : goal.returns
returns c = record {
  spare_after = c.erase_pages.ensures;
  counted_after = census_erased c.requires.counted c.args.b c.requires.spare_lent.1
      (block_spares c.requires.spare_lent.0 c.args.b c.requires.spare_lent.1).spares c.erase_pages.ensures;
}
