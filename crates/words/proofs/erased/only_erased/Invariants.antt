-- `erased::only_erased` meets its contract. The loop's invariant: the bits tell whether the words of the first k stretches are erased.
use mathlib.Core.Path.{◌≡◌}
use Prim.Native.Nat.{◌*◌}
use lib.Dec.{eqb}
use Rattle.scope.specs.Counting.{all}
use Rattle.scope.specs.Lent.{erased}
use Rattle.words.specs.Erased.{is_erased_word}
use Rattle.words.proofs.erased.only_erased.Given as goal

abbrev pub invariant-loop-k : goal.invariant-loop-k
invariant-loop-k l = eqb l.bits erased ≡ all (l.k * 256) (is_erased_word l.words)
