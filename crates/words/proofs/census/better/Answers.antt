-- `words::census::better` meets its contract.
use mathlib.Core.Path.{refl}
use borrow.Author.Tests.{lt-ltb, le-ltb}
use Rattle.words.proofs.census.better.Goals as goal

pub returns-then-size-best : goal.returns-then-size-best
returns-then-size-best c = rw (lt-ltb _ _ c.if-size-best.true) (refl, refl)

pub returns-else-size-best : goal.returns-else-size-best
returns-else-size-best c = rw (le-ltb _ _ c.if-size-best.false) (refl, refl)
