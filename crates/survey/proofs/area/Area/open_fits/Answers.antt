-- `area::Area::open_fits` meets its contract.
use Prim.Native.Nat.{◌+◌}
use native.Mathlib.Omega.{arith}
use borrow.Author.Tests.{eq-eqb, ne_eqb}
use Rattle.scope.specs.Lent.{spare_words}
use Rattle.survey.specs.Blocks.{open_counted}
use Rattle.survey.specs.Pages.{block_words}
use Rattle.survey.proofs.area.Area.open_fits.Goals as goal

pub count_state-requires : goal.count_state-requires
count_state-requires c = let a = c.args.self.now in
    omega (arith, block_words a.p spare_words (a.first + a.n) c.args.opened c.requires.opened_inside, a.in_spare)

pub count_state-requires-then-count_state-eq0 : goal.count_state-requires-then-count_state-eq0
count_state-requires-then-count_state-eq0 c = let a = c.args.self.now in
    omega (arith, block_words a.p spare_words (a.first + a.n) c.args.opened c.requires.opened_inside, a.in_spare)

pub returns-then-count_state-eq0 : goal.returns-then-count_state-eq0
returns-then-count_state-eq0 c = let a = c.args.self.now in
    rw (
      open_counted a.p a.spare.now c.args.opened c.args.offset c.requires.offset_inside,
      ← c.count_state.ensures,
      eq-eqb _ _ c.if-count_state-eq0.true,
      ← c.count_state-then-count_state-eq0.ensures,
    )

pub returns-else-count_state-eq0 : goal.returns-else-count_state-eq0
returns-else-count_state-eq0 c = let a = c.args.self.now in
    rw (open_counted a.p a.spare.now c.args.opened c.args.offset c.requires.offset_inside, ← c.count_state.ensures, ne_eqb _ _ c.if-count_state-eq0.false)
