-- `directory::directory_names` meets its contract: the comparisons are the ones that decide rule 4.
use Rattle.scope.specs.Regions.{Translation}
use Rattle.flash.specs.Tests.{decides_by}
use Rattle.lent.specs.Model.{geometry}
use Rattle.mapping.specs.Maps.{map_decided}
use Rattle.mapping.proofs.directory.directory_names.Goals as goal

pub returns : goal.returns
returns c = let a = c.args in
    decides_by c.map_names.ensures
    (map_decided (geometry a.g) Translation a.spare.now a.directory.now c.requires.accepted c.requires.owners_fit c.requires.directory_len
    a.valid c.requires.valid_value)
