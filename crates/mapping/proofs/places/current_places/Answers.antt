-- `places::current_places` meets its contract: its four counts are the ones that decide the first half of rule 6.
use native.Mathlib.Omega.{arith}
use Prim.Native.Nat.{◌+◌}
use Rattle.scope.specs.Geometry.{most_pages}
use Rattle.scope.specs.Lent.{is_valid}
use Rattle.scope.specs.Regions.{Data, first_page, region_pages}
use Rattle.flash.specs.Bounded.{accepted_bounded, accepted_region, region_few, owners_few}
use Rattle.flash.specs.Counting.{count_le}
use Rattle.flash.specs.Tests.{decides_by}
use Rattle.lent.specs.Model.{geometry}
use Rattle.mapping.specs.Places.{places_by_sums}
use Rattle.mapping.specs.Stored.{parts}
use Rattle.mapping.specs.Tally.{tallied_most}
use Rattle.mapping.proofs.places.current_places.Goals as goal

pub sums_agree-requires : goal.sums_agree-requires
sums_agree-requires c = let s = c.args.held.now in
    let g = geometry s.g in
    let valid-most = count_le (region_pages g Data) (λ i. is_valid (first_page g Data + i) s.spare.now) in (
      (
        tallied_most _ _ most_pages _ _ c.tally_stored-stored.ensures (owners_few (accepted_region s.accepted Data)),
        tallied_most _ _ most_pages _ _ c.tally_cached-has.ensures (omega (arith, c.requires.entries_fit.at_most, s.accepted.C_to)),
        tallied_most _ _ most_pages _ _ c.tally_hidden-hides.ensures (omega (arith, c.requires.entries_fit.at_most, s.accepted.C_to)),
      ),
      owners_few (accepted_region s.accepted Data),
      omega (arith, c.requires.valid_value, valid-most, region_few (accepted_bounded s.accepted) Data),
    )

pub returns : goal.returns
returns c = let s = c.args.held.now in
    let stored = c.tally_stored-stored in
    let has = c.tally_cached-has in
    let hides = c.tally_hidden-hides in
    decides_by c.sums_agree.ensures
    (places_by_sums (geometry s.g) (parts s.chip.now s.spare.now s.directory.now c.args.cache.now c.args.used) s.accepted
    c.requires.owners_fit c.requires.entries_fit stored.result has.result hides.result c.args.valid stored.ensures has.ensures hides.ensures
    c.requires.valid_value)
