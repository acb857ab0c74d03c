-- `sound::cache_sound` meets its contract: rules 5 to 7, each with what the earlier ones give.
use Rattle.std.proofs.Common.{arith}
use Rattle.std.proofs.lemmas.Grind.{common_steps}
use Rattle.soundness.proofs.sound.cache_sound.Goals as goal

pub returns-then-places_hold-clause-decides : goal.returns-then-places_hold-clause-decides
returns-then-places_hold-clause-decides c = grind (arith, common_steps)
