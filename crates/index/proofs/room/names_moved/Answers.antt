-- `index::room::names_moved` meets its contract: the first i moves are followed.
use Rattle.index.specs.Collecting.{none_named, one_named}
use Rattle.index.proofs.room.names_moved.Goals as goal

pub loop-i-init : goal.loop-i-init
loop-i-init c = none_named _

pub loop-i-preserved : goal.loop-i-preserved
loop-i-preserved c = one_named c.args.moves.now c.loop-i.i c.loop-i.invariant c.names_it.ensures
