-- `test_for_check` meets its contract.
use mathlib.Core.Path.{sym, ◌∙◌}
use Rattle.lent.specs.Model.{geometry, state}
use Rattle.lent.specs.Reply.{refused_not_done, handed_on}
use Rattle.geometry.specs.Bounds.{census_enough}
use Rattle.admission.specs.Tested.{SizesPass, size_applies, sizes_pass, geometry_passes, lengths_pass, damaged, undamaged}
use Rattle.admission.proofs.test_for_check.Goals as goal

pub returns-in_err-test_sizes : goal.returns-in_err-test_sizes
returns-in_err-test_sizes c =
    let a = c.args in
    let s = state a.chip.now a.spare.now a.directory.now a.cache.now a.rec in
    handed_on _ _ c.from_residual.ensures.1
    ∙ size_applies (geometry a.g) s a.others c.in_err-test_sizes.ensures (refused_not_done c.in_err-test_sizes.field-0.0)

pub is_sound-sound-requires : goal.is_sound-sound-requires
is_sound-sound-requires c =
    let a = c.args in
    let s = state a.chip.now a.spare.now a.directory.now a.cache.now a.rec in
    let pass : SizesPass (geometry a.g) s a.others = sizes_pass (geometry a.g) s a.others c.in_ok-test_sizes.ensures in
    let ok = geometry_passes (geometry a.g) s a.others pass in
    record {
      accepted = ok;
      lengths_fit = lengths_pass (geometry a.g) s a.others pass;
      g_in_bounds = census_enough ok;
    }

pub returns-then-sound : goal.returns-then-sound
returns-then-sound c =
    let a = c.args in
    let s = state a.chip.now a.spare.now a.directory.now a.cache.now a.rec in
    undamaged (geometry a.g) s a.others (sizes_pass (geometry a.g) s a.others c.in_ok-test_sizes.ensures)
    (sym (c.is_sound-sound.ensures.value s) ∙ c.if-sound.true)

pub returns-else-sound : goal.returns-else-sound
returns-else-sound c =
    let a = c.args in
    let s = state a.chip.now a.spare.now a.directory.now a.cache.now a.rec in
    damaged (geometry a.g) s a.others (sizes_pass (geometry a.g) s a.others c.in_ok-test_sizes.ensures)
    (sym (c.is_sound-sound.ensures.value s) ∙ c.if-sound.false)
