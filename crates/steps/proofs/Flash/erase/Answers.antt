-- `steps::Flash::erase` meets its contract: the block's words and states are filled, and an erase is counted.
use native.Mathlib.Omega.{arith}
use mathlib.Core.Path.{refl}
use Rattle.steps.specs.Lies.{block_lies}
use Rattle.steps.specs.Flash.{same_lent, chip_lent, spare_lent}
use Rattle.steps.specs.Chip.{erase_does}
use Rattle.lent.specs.Model.{geometry}
use Rattle.steps.proofs.Flash.erase.Goals as goal

pub fill_erased-requires : goal.fill_erased-requires
fill_erased-requires c = let f = c.args.self.now in omega (arith, block_lies (chip_lent f) (spare_lent f) c.args.b c.requires.0)

pub returns : goal.returns
returns c = record {
  does = erase_does (geometry c.args.self.now.g) c.args.b c.fill_erased.ensures c.erase_block.ensures.spare_after
      refl c.add_erase.ensures;
  same = same_lent;
}
