-- `entries::touch` meets its contract.
use Prim.Native.Nat.{ℕ}
use mathlib.Core.Path.{refl, ap}
use Rattle.scope.specs.SmallRecord.{with_protected}
use Rattle.lent.specs.Model.{geometry, small}
use Rattle.entries.specs.Entries.{touch_does}
use Rattle.entries.proofs.touch.Goals as goal

pub returns : goal.returns
returns c = let a = c.args in
    touch_does refl (geometry a.g) a.i c.to_front.ensures
    (ap (λ (n : ℕ). with_protected n (small a.work.now.rec)) c.protected_after-work.ensures)
