-- `words::runs::copy_within` meets its contract. The invariant: the first i words are stored. What is still to be read has not been
-- written over, since the runs lie apart or the words move towards the front.
use Prim.Native.Nat.{◌-◌}
use lib.ListN.{take, drop}
use Rattle.words.specs.Runs.{StoredUpto}
use Rattle.words.proofs.runs.copy_within.Given as goal

abbrev pub invariant-loop-i : goal.invariant-loop-i
invariant-loop-i l = StoredUpto l.initial.s l.to (take l.n (drop l.from l.initial.s)) l.s l.i

abbrev pub decreases-loop-i : goal.decreases-loop-i
decreases-loop-i l = l.n - l.i
