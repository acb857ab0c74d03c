-- `directory::map_names` meets its contract: the counts are those of the whole map.
use native.Mathlib.Omega.{arith}
use Rattle.scope.specs.Geometry.{most_pages}
use Rattle.mapping.specs.Tally.{tallied_most}
use Rattle.mapping.proofs.directory.map_names.Goals as goal

pub overflow_add-sum : goal.overflow_add-sum
overflow_add-sum c = let most = tallied_most _ _ most_pages _ _ c.tally-sum.ensures c.requires.map_len_bound in
    omega (arith, most.nones_most, most.good_most)
