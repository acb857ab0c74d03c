-- The lengths that the lent slices have, beside the sizes that a geometry gives them.
use Rattle.std.specs.Prelude.{ℕ, ◌+◌, ◌*◌, ◌≤◌, ◌<◌, ◌≡◌, true, List, [], ◌∷◌, eqb, length}
use Rattle.std.proofs.Common.{suc-mul, mul-le-mul_right, arith, eqb-true}
use Rattle.scope.specs.Geometry.{Geometry}
use Rattle.scope.specs.Lent.{State, chip_size, spare_size, directory_size, cache_size}
use Rattle.scope.specs.Replies.{Size, right_sizes}
use Rattle.scope.specs.Calls.{state_sizes}
use Rattle.flash.specs.Cases.{and_true}
use Rattle.flash.specs.Lengths.{Lengths}

-- Four lengths and the sizes that they should be: scope's `state_sizes` of any state with lists of these lengths.
abbrev pub sizes : Geometry → ℕ → ℕ → ℕ → ℕ → List Size
sizes g chip spare directory cache =
    record { has = chip; should = chip_size g }
    ∷ record { has = spare; should = spare_size g }
    ∷ record { has = directory; should = directory_size g }
    ∷ record { has = cache; should = cache_size g }
    ∷ []

-- Where a state's are right, its lists have 01's sizes.
pub sizes_fit : (g : Geometry) (s : State) → right_sizes (state_sizes g s) ≡ true → Lengths g s
unfolding right_sizes
sizes_fit g s h =
    let c = and_true (eqb (length s.chip) (chip_size g)) _ h in
    let p = and_true (eqb (length s.spare) (spare_size g)) _ c.1 in
    let d = and_true (eqb (length s.directory) (directory_size g)) _ p.1 in
    let e = and_true (eqb (length s.cache) (cache_size g)) _ d.1 in
    record {
      chip_fits = eqb-true (length s.chip) (chip_size g) c.0;
      spare_fits = eqb-true (length s.spare) (spare_size g) p.0;
      directory_fits = eqb-true (length s.directory) (directory_size g) d.0;
      cache_fits = eqb-true (length s.cache) (cache_size g) e.0;
    }

-- Of m pieces of w words one after the other, piece p lies within.
pub piece_inside : (w m p : ℕ) → p < m → p * w + w ≤ m * w
piece_inside w m p h = omega (arith, mul-le-mul_right w h, suc-mul p w)
