-- `erased::erased_run` meets its contract. The loop's invariant: the words of the first k steps are erased.
use Prim.Native.Nat.{◌+◌, ◌*◌}
use Rattle.words.specs.Erased.{ErasedRun}
use Rattle.words.proofs.erased.erased_run.Given as goal

abbrev pub invariant-loop-k : goal.invariant-loop-k
invariant-loop-k l = ErasedRun l.words l.at (l.at + l.k * 16)
