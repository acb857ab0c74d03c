-- `entries::used_fit` meets its contract: a walk over the entries in use, at each of which the filter has the pages so far.
use mathlib.Core.Path.{sym, subst, ◌∙◌}
use Rattle.flash.specs.Tests.{passed_none, passed_more, passed_stops}
use Rattle.flash.specs.Cases.{not_of_false, not_of_true}
use Rattle.mapping.specs.Entries.{fits_seen, fits_noted}
use Rattle.mapping.specs.Seen.{Seen, seen_none}
use Rattle.mapping.proofs.entries.used_fit.Goals as goal

pub loop-i-init : goal.loop-i-init
loop-i-init c = let a = c.args in
    (passed_none _ _, subst (Seen a.cache.now 0) (sym c.clear.ensures) (seen_none a.cache.now))

pub returns-then-not-entry_fits-clause-value : goal.returns-then-not-entry_fits-clause-value
returns-then-not-entry_fits-clause-value c = let turn = c.loop-i in
    passed_stops _ _ c.entry_fits.result turn.invariant.0 c.loop-i-test.true
    (c.entry_fits.ensures.value ∙ fits_seen c.args.cache.now c.args.l turn.i turn.filter turn.invariant.1)
    (not_of_false c.if-not-entry_fits.true)

pub loop-i-preserved : goal.loop-i-preserved
loop-i-preserved c = let a = c.args in
    let turn = c.loop-i in
    let passes = c.if-not-entry_fits.false in (
      passed_more _ _ c.entry_fits.result turn.invariant.0 c.loop-i-test.true
          (c.entry_fits.ensures.value ∙ fits_seen a.cache.now a.l turn.i turn.filter turn.invariant.1) (not_of_true passes),
      fits_noted a.cache.now a.l turn.i turn.filter turn.invariant.1 _ c.requires.1
          (sym c.entry_fits.ensures.value ∙ passes) (c.entry_fits.ensures.filter_after passes),
    )
