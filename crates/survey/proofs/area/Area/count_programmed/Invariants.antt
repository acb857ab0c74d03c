-- `area::Area::count_programmed` meets its contract. The invariant: both counts are those of the first i pages.
use Prim.Native.Nat.{◌+◌}
use mathlib.Core.Path.{◌≡◌}
use Rattle.scope.specs.Counting.{count}
use Rattle.scope.specs.Lent.{is_valid}
use Rattle.survey.specs.Pages.{programmed_at}
use Rattle.survey.proofs.area.Area.count_programmed.Given as goal

abbrev pub invariant-loop-i : goal.invariant-loop-i
invariant-loop-i l = record {
  fit : l.fit ≡ count l.i (λ j. programmed_at l.self.limit l.self.spare.now (l.first + j));
  valid : l.valid ≡ count l.i (λ j. is_valid (l.first + j) l.self.spare.now);
}
