-- `area::Area::wholly_erased` meets its contract: the block's words are one piece of the spare, and one of the chip; the first of them tells
-- where the block is none.
use Prim.Native.Nat.{ℕ, ◌+◌, ◌*◌, ◌≤◌, ◌<◌}
use mathlib.Core.Path.{◌∙◌}
use native.Mathlib.Omega.{arith}
use borrow.Author.Tests.{ne_eqb}
use Rattle.scope.specs.Lent.{spare_words}
use Rattle.flash.specs.Cases.{clash}
use Rattle.survey.specs.Pages.{first_marked, block_words, block_piece}
use Rattle.survey.proofs.area.Area.wholly_erased.Goals as goal
use Rattle.survey.proofs.area.Area.wholly_erased.Goals.{then-state_at, else-state_at}

-- Its words lie in the spare and on the chip.
in_both : (p w m b spare chip : ℕ) → b < m → m * p * spare_words ≤ spare → m * p * w ≤ chip
    → (b * (p * spare_words) + p * spare_words ≤ spare) × (b * (p * w) + p * w ≤ chip)
in_both p w m b spare chip h in_spare in_chip = (omega (arith, block_piece p spare_words m b h), omega (arith, block_piece p w m b h))

pub is_blank-requires : goal.is_blank-requires
is_blank-requires c = let a = c.args.self.now in
    omega (arith, in_both a.p a.w (a.first + a.n) c.args.b _ _ c.requires a.in_spare a.in_chip)

pub is_blank-requires-then-is_blank : goal.is_blank-requires-then-is_blank
is_blank-requires-then-is_blank c = let a = c.args.self.now in
    omega (arith, in_both a.p a.w (a.first + a.n) c.args.b _ _ c.requires a.in_spare a.in_chip)

pub returns-then-is_blank : goal.returns-then-is_blank
returns-then-is_blank c = let a = c.args.self.now in
    elim c.if-state_at.branch [
      | then-state_at w ↦ rw (← w.is_blank.ensures, ← w.value-is, c.if-is_blank.true) c.is_blank-then-is_blank.ensures
      | else-state_at w ↦ clash c.if-is_blank.true (w.value-is ∙ ne_eqb _ _ w.if-state_at.false)
    ]

pub returns-else-is_blank : goal.returns-else-is_blank
returns-else-is_blank c = let a = c.args.self.now in
    elim c.if-state_at.branch [
      | then-state_at w ↦ rw (← w.is_blank.ensures, ← w.value-is, c.if-is_blank.false)
      | else-state_at w ↦
          rw (first_marked c.args.b a.p a.spare.now a.some_pages (λ e. w.if-state_at.false (c.state_at.ensures ∙ e))) c.if-is_blank.false
    ]

pub state_at-requires : goal.state_at-requires
state_at-requires c = let a = c.args.self.now in
    omega (arith, block_words a.p spare_words (a.first + a.n) c.args.b c.requires, a.in_spare, a.some_pages)
