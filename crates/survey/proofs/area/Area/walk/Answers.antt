-- `area::Area::walk` meets its contract. The invariant: rules 1 and 3 hold of the blocks before i, whose valid pages are counted, and which
-- have their numbers.
use Prim.Native.Nat.{ℕ, ◌+◌, ◌*◌, ◌≤◌, ◌<◌}
use mathlib.Core.Bool.{true, ◌||◌}
use mathlib.Core.Path.{◌≡◌, sym}
use native.Mathlib.Nat.{mul-le-mul_right}
use native.Mathlib.Omega.{arith}
use lib.Dec.{eqb}
use borrow.Author.Tests.{eq-eqb, ne_eqb}
use Rattle.std.proofs.Common.{◌⊎◌, inl, inr, ⊎_elim, ◌≢◌, refl}
use Rattle.flash.specs.Cases.{or_right}
use Rattle.survey.specs.Blocks.{added}
use Rattle.survey.specs.Census.{taken_none, taken_more, few_found}
use Rattle.survey.specs.Survey.{walked_none, walked_more, pages_stop, blocks_stop, few_valid}
use Rattle.survey.proofs.area.Area.walk.Goals as goal
use Rattle.survey.proofs.area.Area.walk.Goals.{then-b-opened, else-b-opened}

none_or_all : (e p : ℕ) → ((e ≢ p) × (e ≡ 0)) ⊎ (e ≡ p) → eqb e p || eqb e 0 ≡ true
none_or_all e p = ⊎_elim (λ h. or_right (eqb e p) (eq-eqb e 0 h.1)) (λ h. rw (eq-eqb e p h) refl)

-- So many pages are in the slices.
few : (first n p i : ℕ) → i < n → (i + 1) * p ≤ (first + n) * p
few first n p i h = mul-le-mul_right p (omega arith)

pub loop-i-init : goal.loop-i-init
loop-i-init c = record { walked = walked_none _ _ _ _ _ _ _; taken = taken_none _ _ _ _ }

pub returns-in_default : goal.returns-in_default
returns-in_default c = let a = c.args.self.now in
    pages_stop a.w a.limit a.p a.first a.chip.now a.spare.now c.args.opened c.loop-i.i a.n c.loop-i-test.true (sym c.in_default.ensures.fit)

pub returns-then-erased-ne0 : goal.returns-then-erased-ne0
returns-then-erased-ne0 c = let a = c.args.self.now in
    let e = c.if-b-opened.erased in
    let is = added a.p a.first a.spare.now c.args.opened c.loop-i.i c.in-Ok.block.erased e c.in-Ok.ensures.erased_are
    (elim c.if-b-opened.branch [
      | then-b-opened w ↦ inl (w.if-b-opened.true, w.erased-is)
      | else-b-opened w ↦ inr (w.if-b-opened.false, w.erased-is)
    ]) in
    blocks_stop a.w a.limit a.p a.first a.chip.now a.spare.now c.args.opened c.loop-i.i a.n e c.loop-i-test.true is
    (rw (ne_eqb _ _ c.if-erased-self.true, ne_eqb _ _ c.if-erased-ne0.true))

pub overflow_add-valid : goal.overflow_add-valid
overflow_add-valid c = let a = c.args.self.now in
    omega (
      arith,
      few_valid _ _ _ _ _ _ _ _ _ _ c.loop-i.invariant.walked,
      few_found c.in-Ok.ensures,
      few a.first a.n a.p c.loop-i.i c.loop-i-test.true,
      a.in_spare,
    )

pub number-requires : goal.number-requires
number-requires c =
    let found = few_found c.in-Ok.ensures in
    let most = c.requires.few_pages in
    (omega (arith, found.0, most), omega (arith, found.1, most))

pub loop-i-preserved : goal.loop-i-preserved
loop-i-preserved c = let a = c.args.self.now in
    let t = c.loop-i in
    let e = c.if-b-opened.erased in
    let is = added a.p a.first a.spare.now c.args.opened t.i c.in-Ok.block.erased e c.in-Ok.ensures.erased_are
    (elim c.if-b-opened.branch [
      | then-b-opened w ↦ inl (w.if-b-opened.true, w.erased-is)
      | else-b-opened w ↦ inr (w.if-b-opened.false, w.erased-is)
    ]) in
    record {
      walked = walked_more a.w a.limit a.p a.first a.chip.now a.spare.now c.args.opened t.i t.total t.valid e c.in-Ok.block
          a.some_pages t.invariant.walked c.in-Ok.ensures is (none_or_all e a.p c.else-erased-self.either);
      taken = taken_more a.p a.first a.spare.now c.args.census.now a.w a.limit a.chip.now t.i c.number.result t.census
          c.in-Ok.block t.invariant.taken (omega (arith, c.loop-i-test.true, c.requires.in_census))
          c.in-Ok.ensures c.number.ensures;
    }
