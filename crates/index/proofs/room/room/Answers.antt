-- `index::room::room` meets its contract: room is there or was made by the choice, or is by a collection.
use Rattle.std.proofs.Common.{subst}
use Rattle.std.specs.Prelude.{ℕ, Option}
use Rattle.scope.specs.Regions.{Translation}
use Rattle.lent.specs.Model.{geometry}
use Rattle.steps.specs.Flash.{same_lent}
use Rattle.copying.specs.Choice.{Chosen}
use Rattle.index.specs.Collecting.{chosen_does}
use Rattle.index.proofs.room.room.Goals as goal

pub returns-in_default : goal.returns-in_default
returns-in_default c =
    let a = c.args in
    let chosen = subst (λ (o : Option ℕ). Chosen (geometry a.flash.now.g) Translation a.flash.now.spare.now a.work.now o c.choose.new.work)
    c.in_default.is (rw (c.blocks-2.ensures.same_geometry, c.blocks-2.ensures.same_spare) at c.choose.ensures) in
    record { does = chosen_does chosen; same = same_lent }
