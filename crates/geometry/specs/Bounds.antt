-- What a call keeps on its stack is large enough for any accepted geometry, and the pages of its data region are few.
use Rattle.std.specs.Prelude.{◌+◌, ◌*◌, ◌≤◌}
use Rattle.std.proofs.Common.{arith}
use Rattle.scope.specs.Geometry.{Geometry, Accepted, blocks, most_pages}
use Rattle.scope.specs.Regions.{Data}
use Rattle.flash.specs.Bounded.{accepted_bounded, accepted_region, region_few, owners_few}
use Rattle.lent.specs.Notes.{census_words, filter_bits}

-- The data region's pages have numbers far below *none*.
pub data_few : {g : Geometry} → Accepted g → 0 + g.D * g.P ≤ most_pages
data_few ok = omega (arith, region_few (accepted_bounded ok) Data)

-- The census has a word for each block of any chip, and the filter a bit of its own for each logical page.
pub census_enough : {g : Geometry} → Accepted g → blocks g ≤ census_words
census_enough ok = omega (arith, ok.D+T_to)

pub filter_enough : {g : Geometry} → Accepted g → g.L ≤ filter_bits
filter_enough ok = omega (arith, owners_few (accepted_region ok Data))
