-- `entries::is_changed` meets its contract.
use Prim.Native.Nat.{ℕ, ◌+◌, ◌*◌}
use mathlib.Core.Path.{ap}
use native.Mathlib.Omega.{arith}
use lib.Dec.{eqb}
use Rattle.scope.specs.Lent.{none, entry_words}
use Rattle.words.specs.Runs.{get_d_any}
use Rattle.entries.proofs.is_changed.Goals as goal

pub returns : goal.returns
returns c = ap (λ (x : ℕ). eqb x 1) (get_d_any c.args.cache.now (c.args.i * entry_words + 2) 0 none (omega arith))
