-- Operations that led from one state to another, each allowed at its moment: what a law says of the operations of a step.
use Rattle.std.specs.Prelude.{ℕ, List, [], ◌∷◌, ◌++◌}
use Rattle.scope.specs.Geometry.{Geometry}
use Rattle.scope.specs.Lent.{State}
use Rattle.scope.specs.Operations.{Operation, Read, apply, apply_all}
use Rattle.scope.specs.Laws.Applied.{SameFlash, flash_refl, flash_trans, apply_all_same, apply_all_append}
use Rattle.flash.specs.Moments.{Allows, Allowed}
use Rattle.flash.specs.Listed.{allowed_++, allowed_same}

pub record Done (g : Geometry) (s : State) (ops : List Operation) (s' : State) : Type 0 where
  pub flash : SameFlash s' (apply_all g ops s)
  pub allowed : Allowed g ops s

-- Nothing was done to the flash.
pub done_none : (g : Geometry) {s s' : State} → SameFlash s' s → Done g s [] s'
unfolding apply_all
done_none g h = record { flash = h; allowed = tt }

-- One operation.
pub done_one : (g : Geometry) {s : State} (o : Operation) → Allows g o s.chip s.spare → Done g s (o ∷ []) (apply g o s)
unfolding apply_all
done_one g o h = record { flash = flash_refl; allowed = (h, tt) }

pub done_read : (g : Geometry) {s : State} (p : ℕ) → Done g s (Read p ∷ []) s
unfolding apply apply_all
done_read g p = record { flash = flash_refl; allowed = (tt, tt) }

-- One after the other.
pub done_then : {g : Geometry} {s s' s'' : State} {a b : List Operation} → Done g s a s' → Done g s' b s'' → Done g s (a ++ b) s''
done_then {g} {s} {s'} {s''} {a} {b} h k =
    record {
      flash = flash_trans k.flash (rw apply_all_append (apply_all_same g b h.flash));
      allowed = allowed_++ g a b s h.allowed (allowed_same g b h.flash k.allowed);
    }
