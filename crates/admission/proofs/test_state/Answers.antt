-- `test_state` meets its contract.
use mathlib.Core.Path.{◌∙◌}
use native.Mathlib.Omega.{arith}
use Rattle.lent.specs.Model.{geometry, state}
use Rattle.lent.specs.Reply.{refused_not_done, handed_on}
use Rattle.flash.specs.Tests.{refused, passed}
use Rattle.geometry.specs.Bounds.{census_enough}
use Rattle.admission.specs.Tested.{SizesPass, size_applies, sizes_pass, geometry_passes, lengths_pass, damaged, undamaged}
use Rattle.flash.specs.Cases.{not_of_false, not_of_true}
use Rattle.admission.proofs.test_state.Goals as goal

pub returns-in_err-test_sizes-clause-state_tested : goal.returns-in_err-test_sizes-clause-state_tested
returns-in_err-test_sizes-clause-state_tested c =
    let a = c.args in
    let s = state a.chip.now a.spare.now a.directory.now a.cache.now a.rec in
    handed_on _ _ c.from_residual.ensures.1
    ∙ size_applies (geometry a.g) s a.others c.in_err-test_sizes.ensures (refused_not_done c.in_err-test_sizes.field-0.0)

pub is_sound-requires : goal.is_sound-requires
is_sound-requires c =
    let a = c.args in
    let s = state a.chip.now a.spare.now a.directory.now a.cache.now a.rec in
    let pass : SizesPass (geometry a.g) s a.others = sizes_pass (geometry a.g) s a.others c.in_ok-test_sizes.ensures in
    let ok = geometry_passes (geometry a.g) s a.others pass in
    record {
      accepted = ok;
      lengths_fit = lengths_pass (geometry a.g) s a.others pass;
      g_in_bounds = omega (arith, census_enough ok, c.requires);
    }

pub returns-then-not-is_sound-clause-state_tested : goal.returns-then-not-is_sound-clause-state_tested
returns-then-not-is_sound-clause-state_tested c =
    let a = c.args in
    let s = state a.chip.now a.spare.now a.directory.now a.cache.now a.rec in
    damaged (geometry a.g) s a.others (sizes_pass (geometry a.g) s a.others c.in_ok-test_sizes.ensures)
    (refused (c.is_sound.ensures.value s) (not_of_false c.if-not-is_sound.true))

pub returns-clause-state_tested : goal.returns-clause-state_tested
returns-clause-state_tested c =
    let a = c.args in
    let s = state a.chip.now a.spare.now a.directory.now a.cache.now a.rec in
    undamaged (geometry a.g) s a.others (sizes_pass (geometry a.g) s a.others c.in_ok-test_sizes.ensures)
    (passed (c.is_sound.ensures.value s) (not_of_true c.if-not-is_sound.false))
