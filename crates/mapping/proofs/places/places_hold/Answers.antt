-- `places::places_hold` meets its contract: the two halves of rule 6.
use Rattle.lent.specs.Model.{geometry}
use Rattle.mapping.specs.Places.{first_fails, second_tells}
use Rattle.mapping.specs.Stored.{parts}
use Rattle.mapping.proofs.places.places_hold.Goals as goal

pub returns-then-current_places : goal.returns-then-current_places
returns-then-current_places c = let a = c.args in
    second_tells (geometry a.g) (parts a.chip.now a.spare.now a.directory.now a.cache.now a.used)
    c.current_places.ensures c.if-current_places.true c.none_past.ensures

pub returns-else-current_places : goal.returns-else-current_places
returns-else-current_places c = let a = c.args in
    first_fails (geometry a.g) (parts a.chip.now a.spare.now a.directory.now a.cache.now a.used)
    c.current_places.ensures c.if-current_places.false
