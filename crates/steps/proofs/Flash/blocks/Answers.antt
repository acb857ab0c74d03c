-- `steps::Flash::blocks` meets its contract: what is true of a flash is true of its blocks.
use Rattle.steps.proofs.Flash.blocks.Goals as goal

pub invariant_of-result : goal.invariant_of-result
invariant_of-result c = let f = c.args.self.now in record { bounded = f.bounded; counted = f.counted }
