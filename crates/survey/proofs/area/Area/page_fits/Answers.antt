-- `area::Area::page_fits` meets its contract.
use Prim.Native.Nat.{ℕ, ◌+◌, ◌*◌, ◌≤◌, ◌<◌}
use mathlib.Core.List.{List}
use mathlib.Core.Bool.{Bool}
use mathlib.Core.Path.{◌≡◌, sym, ◌∙◌}
use native.Mathlib.Omega.{arith}
use lib.ListN.{length, get_or}
use borrow.Author.Tests.{eq-eqb}
use Rattle.scope.specs.Lent.{spare_words}
use Rattle.geometry.specs.Sizes.{piece_inside}
use Rattle.survey.specs.Pages.{clear, rule_1, rule_1_words, rule_1_read, rule_1_programmed}
use Rattle.survey.proofs.area.Area.page_fits.Goals as goal

-- What the state and the owner that were read say is what the rule says.
by_words : (w limit : ℕ) (chip spare : List ℕ) (p m : ℕ) (b : Bool) → p < m → m * spare_words ≤ length spare
    → b ≡ rule_1_words limit (get_or spare (p * spare_words) 0) (get_or spare (p * spare_words + 1) 0) (clear w chip spare p)
    → b ≡ rule_1 w limit chip spare p
by_words w limit chip spare p m b h in_spare e = e ∙ rule_1_read w limit chip spare p (omega arith)

pub is_blank-requires-then-is_blank : goal.is_blank-requires-then-is_blank
is_blank-requires-then-is_blank c = let a = c.args.self.now in
    omega (arith, piece_inside a.w ((a.first + a.n) * a.p) c.args.page c.requires, a.in_chip)

pub returns-then-is_blank : goal.returns-then-is_blank
returns-then-is_blank c = let a = c.args.self.now in
    by_words a.w a.limit a.chip.now a.spare.now c.args.page _ _ c.requires a.in_spare
    (simp (eq-eqb _ _ c.if-state.true) (rw (← c.is_blank.ensures, c.if-is_blank.true) c.is_blank-then-is_blank.ensures))

pub returns-else-is_blank : goal.returns-else-is_blank
returns-else-is_blank c = let a = c.args.self.now in
    by_words a.w a.limit a.chip.now a.spare.now c.args.page _ _ c.requires a.in_spare
    (simp (eq-eqb _ _ c.if-state.true) (rw (← c.is_blank.ensures, c.if-is_blank.false)))

pub returns : goal.returns
returns c = let a = c.args.self.now in
    let state = get_or a.spare.now (c.args.page * spare_words) 0 in
    let owner = get_or a.spare.now (c.args.page * spare_words + 1) 0 in
    by_words a.w a.limit a.chip.now a.spare.now c.args.page _ _ c.requires a.in_spare
    (c.fits_programmed.ensures ∙ sym (rule_1_programmed a.limit state owner (clear a.w a.chip.now a.spare.now c.args.page) c.if-state.false))
