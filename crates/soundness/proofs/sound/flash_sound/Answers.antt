-- `sound::flash_sound` meets its contract: rules 1 to 4, each with what the earlier ones give.
use Rattle.std.proofs.Common.{ℕ, ◌≡◌, refl, Bool, true, false}
use Rattle.std.specs.Bool.{then_some}
use Rattle.scope.specs.Laws.Decides.{Decides}
use Rattle.flash.specs.Cases.{clash}
use Rattle.survey.specs.Census.{both_taken}
use Rattle.survey.specs.Survey.{Surveyed}
use Rattle.lent.specs.Model.{geometry}
use Rattle.soundness.proofs.sound.flash_sound.Goals as goal

-- What the last test decides is all of the whole that is not known yet.
last_decides : (b : Bool) (valid count : ℕ) {Part Whole Numbered : Type 0} → Decides b Part → (Part → Whole) → (Whole → Part) → valid ≡ count
    → Numbered → Surveyed (then_some b valid) Whole count Numbered
last_decides true valid count d to from is numbers = record { rules = to (d.holds refl); counts = is; numbers = numbers }
last_decides false valid count d to from is numbers = λ w. clash (d.passes (from w)) refl

pub returns : goal.returns
returns c = let own = c.in_ok-valid.ensures in
    let translation = c.in_ok-translations.ensures in
    rw c.then_some.ensures (last_decides c.directory_names.result c.in_ok-valid.valid _ c.directory_names.ensures
    (λ x. record { in_data = own.rules; in_translation = translation.rules; differ = x.0; names = x.1 })
    (λ f. (f.differ, f.names))
    own.counts (both_taken (geometry c.args.g) c.requires.g_in_bounds own.numbers translation.numbers))
