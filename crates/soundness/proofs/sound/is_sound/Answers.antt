-- `sound::is_sound` meets its contract: all seven rules.
use Rattle.scope.proofs.Decided.{sound_decided}
use Rattle.scope.specs.Laws.Decides.{by_same}
use Rattle.flash.specs.Tests.{decided_same}
use Rattle.lent.specs.Model.{geometry}
use Rattle.soundness.specs.Whole.{flash_of_sound, cache_of_sound, sound_of_both}
use Rattle.soundness.proofs.sound.is_sound.Goals as goal

pub returns-in_default-clause-value : goal.returns-in_default-clause-value
returns-in_default-clause-value c = let g = geometry c.args.g in
    λ s. decided_same (record { holds = λ p. cc; passes = λ h. absurd (c.in_default.ensures (flash_of_sound g _ h)) }) (sound_decided g _)

pub returns-clause-value : goal.returns-clause-value
returns-clause-value c = let g = geometry c.args.g in
    λ s. decided_same
    (by_same (sound_of_both g _ c.in-Some.ensures.rules) (cache_of_sound g _) c.cache_sound.ensures.decides)
    (sound_decided g _)
