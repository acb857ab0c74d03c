-- `geometry::accepts` meets its contract.
use Rattle.std.proofs.Common.{arith}
use Rattle.std.proofs.lemmas.Grind.{common_steps}
use Rattle.scope.specs.Geometry.{accepted}
use Rattle.geometry.proofs.accepts.Goals as goal

pub returns-then-words_within : goal.returns-then-words_within
unfolding accepted
returns-then-words_within c = grind (arith, common_steps)

pub returns-else-words_within : goal.returns-else-words_within
unfolding accepted
returns-else-words_within c = grind (arith, common_steps)
