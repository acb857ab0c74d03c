-- Lists of operations: what they cost, and that each is allowed at its moment, "in their order": "only erased pages are programmed".
use Rattle.std.specs.Prelude.{◌+◌, ◌≡◌, refl, List, [], ◌∷◌, ◌++◌}
use Rattle.std.proofs.Common.{ap, ◌∙◌, arith}
use Rattle.scope.specs.Geometry.{Geometry}
use Rattle.scope.specs.Lent.{State}
use Rattle.scope.specs.Operations.{Operation, apply, apply_all, Counts, counts_add, counts_of, counted}
use Rattle.scope.specs.Laws.Applied.{SameFlash, apply_same}
use Rattle.flash.specs.Moments.{total, cost, Allowed}

-- ---- cost

pub cost_none : cost [] ≡ 0
unfolding counted
cost_none = refl

pub cost_first : (o : Operation) (os : List Operation) → cost (o ∷ os) ≡ total (counts_of o) + cost os
unfolding counted
cost_first o os = omega arith

-- Counts are equal by their three numbers.
pub counts_same : {a b : Counts} → a.reads ≡ b.reads → a.programs ≡ b.programs → a.erases ≡ b.erases → a ≡ b
counts_same p q r = λ i. record { reads = p i; programs = q i; erases = r i }

pub counted_++ : (a b : List Operation) → counted (a ++ b) ≡ counts_add (counted a) (counted b)
unfolding counted
counted_++ [] b = counts_same (omega arith) (omega arith) (omega arith)
counted_++ (o ∷ a) b =
    ap (counts_add (counts_of o)) (counted_++ a b) ∙ counts_same (omega arith) (omega arith) (omega arith)

pub cost_++ : (a b : List Operation) → cost (a ++ b) ≡ cost a + cost b
cost_++ a b = ap total (counted_++ a b) ∙ omega arith

-- ---- allowed

pub allowed_++ : (g : Geometry) (a b : List Operation) (s : State)
    → Allowed g a s → Allowed g b (apply_all g a s) → Allowed g (a ++ b) s
unfolding apply_all
allowed_++ g [] b s h k = k
allowed_++ g (o ∷ a) b s h k = (h.0, allowed_++ g a b (apply g o s) h.1 k)

-- Only chip and spare matter.
pub allowed_same : (g : Geometry) (os : List Operation) {s t : State} → SameFlash s t → Allowed g os s → Allowed g os t
allowed_same g [] same h = tt
allowed_same g (o ∷ os) same h = ((rw (same.chip, same.spare) at h).0, allowed_same g os (apply_same g o same) h.1)
