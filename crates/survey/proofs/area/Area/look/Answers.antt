-- `area::Area::look` meets its contract: where the block is wholly erased its words tell, where all pages are programmed as the rule asks the
-- counts do, else each page does.
use mathlib.Core.Path.{sym, ◌∙◌}
use Prim.Native.Nat.{◌+◌}
use native.Mathlib.Omega.{arith}
use Rattle.scope.specs.Lent.{spare_words}
use Rattle.flash.specs.Cases.{and_true}
use Rattle.survey.specs.Pages.{all_programmed, none_erased, all_blank, all_erased, none_valid, block_words}
use Rattle.survey.proofs.area.Area.look.Goals as goal

pub returns-then-wholly_erased : goal.returns-then-wholly_erased
returns-then-wholly_erased c = let a = c.args.self.now in
    let both = and_true _ _ (sym c.wholly_erased.ensures ∙ c.if-wholly_erased.true) in
    record {
      fit = all_blank a.w a.limit c.args.b a.p a.chip.now a.spare.now both.0 both.1;
      erased_are = all_erased a.w a.limit c.args.b a.p a.chip.now a.spare.now both.0 both.1;
      valid_are = none_valid a.w a.limit c.args.b a.p a.chip.now a.spare.now both.0 both.1;
    }

pub returns-then-counts-self : goal.returns-then-counts-self
returns-then-counts-self c = let a = c.args.self.now in
    let whole = sym c.count_programmed-counts.ensures.0 ∙ c.if-counts-self.true in
    record {
      fit = all_programmed a.w a.limit _ a.p a.chip.now a.spare.now whole;
      erased_are = none_erased a.w a.limit _ a.p a.chip.now a.spare.now whole;
      valid_are = c.count_programmed-counts.ensures.1;
    }

pub returns-then-not-pages_fit : goal.returns-then-not-pages_fit
returns-then-not-pages_fit c = record {
  fit = sym c.if-not-pages_fit.true ∙ c.pages_fit.ensures;
  erased_are = c.count_state-erased.ensures;
  valid_are = c.count_programmed-counts.ensures.1;
}

pub count_state-erased-requires : goal.count_state-erased-requires
count_state-erased-requires c = let a = c.args.self.now in
    omega (arith, block_words a.p spare_words (a.first + a.n) c.args.b c.requires, a.in_spare)
