-- `words::runs::copy_out` meets its contract. The invariant: the first i words are stored.
use Prim.Native.Nat.{◌-◌}
use lib.ListN.{length, take, drop}
use Rattle.words.specs.Runs.{StoredUpto}
use Rattle.words.proofs.runs.copy_out.Given as goal

abbrev pub invariant-loop-i : goal.invariant-loop-i
invariant-loop-i l = StoredUpto l.initial.dst 0 (take (length l.initial.dst) (drop l.from l.src)) l.dst l.i

abbrev pub decreases-loop-i : goal.decreases-loop-i
decreases-loop-i l = length l.initial.dst - l.i
