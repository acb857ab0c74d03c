-- `index::room::names_moved` meets its contract: the first i moves are followed.
use Rattle.index.specs.Collecting.{NamedUpto}
use Rattle.index.proofs.room.names_moved.Given as goal

abbrev pub invariant-loop-i : goal.invariant-loop-i
invariant-loop-i l = NamedUpto l.moves l.i l.initial.directory l.directory
