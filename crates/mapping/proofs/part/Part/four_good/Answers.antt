-- `part::Part::four_good` meets its contract: a word counts 1 or 0, and the definition counts the four. The check finds this alone; given, it
-- says at which words another sum fails.
use native.Mathlib.Nat.{add-zero}
use native.Mathlib.Omega.{arith}
use Rattle.mapping.proofs.part.Part.four_good.Goals as goal

pub returns : goal.returns
returns c = rw add-zero (omega (arith, c.good_at-a.ensures, c.good_at-b.ensures, c.good_at-c.ensures, c.good_at-d.ensures))
