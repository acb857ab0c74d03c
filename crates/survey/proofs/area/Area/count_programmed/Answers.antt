-- `area::Area::count_programmed` meets its contract. The invariant: both counts are those of the first i pages.
use Prim.Native.Nat.{ℕ, ◌+◌, ◌*◌, ◌≤◌, ◌<◌}
use mathlib.Core.Path.{◌≡◌, ◌∙◌}
use native.Mathlib.Omega.{arith}
use Rattle.scope.specs.Counting.{count}
use Rattle.scope.specs.Lent.{valid, is_valid, spare_words}
use Rattle.flash.specs.Counting.{count_le}
use Rattle.words.specs.States.{count_more}
use Rattle.survey.specs.Pages.{bit, block_words, programmed_at, programmed_more}
use Rattle.survey.proofs.area.Area.count_programmed.Goals as goal
use Rattle.survey.proofs.area.Area.count_programmed.Goals.{After-from-fit, After-from-valid}

-- Page i's words lie in the spare.
inside : (first n b p i len : ℕ) → b < first + n → i < p → (first + n) * p * spare_words ≤ len → (b * p + i) * spare_words + spare_words ≤ len
inside first n b p i len h k in_spare = omega (arith, block_words p spare_words (first + n) b h)

-- The counts with it.
fit_more : (c : After-from-fit)
    → let a = c.args.self.now in
    c.loop-i.fit + c.from-fit.result ≡ count (c.loop-i.i + 1) (λ j. programmed_at a.limit a.spare.now (c.args.b * a.p + j))
fit_more c = let a = c.args.self.now in
    let turn = c.loop-i in
    programmed_more a.limit a.spare.now (c.args.b * a.p) turn.i turn.fit c.from-fit.result
    (inside a.first a.n c.args.b a.p turn.i _ c.requires c.loop-i-test.true a.in_spare)
    turn.invariant.fit (rw (← c.fits_programmed.ensures) (c.from-fit.ensures ∙ bit _))

valid_more : (c : After-from-valid)
    → let a = c.args.self.now in
    c.loop-i.valid + c.from-valid.result ≡ count (c.loop-i.i + 1) (λ j. is_valid (c.args.b * a.p + j) a.spare.now)
valid_more c = let a = c.args.self.now in
    let turn = c.loop-i in
    count_more a.spare.now (λ j. c.args.b * a.p + j) valid turn.i turn.valid c.from-valid.result
    (omega (arith, inside a.first a.n c.args.b a.p turn.i _ c.requires c.loop-i-test.true a.in_spare))
    turn.invariant.valid (c.from-valid.ensures ∙ bit _)

pub bounds-self-first : goal.bounds-self-first
bounds-self-first c = let a = c.args.self.now in
    omega (arith, inside a.first a.n c.args.b a.p c.loop-i.i _ c.requires c.loop-i-test.true a.in_spare)

pub bounds-self-first-in-loop-i : goal.bounds-self-first-in-loop-i
bounds-self-first-in-loop-i c = let a = c.args.self.now in
    omega (arith, inside a.first a.n c.args.b a.p c.loop-i.i _ c.requires c.loop-i-test.true a.in_spare)

pub overflow_add-fit : goal.overflow_add-fit
overflow_add-fit c = let a = c.args.self.now in
    let next = c.loop-i.i + 1 in
    omega (arith, fit_more (goal.at.overflow_add-fit c).After-from-fit, count_le next (λ j. programmed_at a.limit a.spare.now (c.args.b * a.p + j)), a.few_pages)

pub overflow_add-valid : goal.overflow_add-valid
overflow_add-valid c = let a = c.args.self.now in
    let next = c.loop-i.i + 1 in
    omega (arith, valid_more (goal.at.overflow_add-valid c).After-from-valid, count_le next (λ j. is_valid (c.args.b * a.p + j) a.spare.now), a.few_pages)

pub loop-i-preserved : goal.loop-i-preserved
loop-i-preserved c = record {
  fit = fit_more (goal.at.loop-i-preserved c).After-from-fit;
  valid = valid_more (goal.at.loop-i-preserved c).After-from-valid;
}
