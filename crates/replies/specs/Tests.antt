-- GEOMETRY and LENGTH, each where the tests before it pass.
use Rattle.std.specs.Prelude.{◌≡◌, Bool, true, false, ◌&&◌}
use Rattle.scope.specs.Geometry.{Geometry, accepted}
use Rattle.scope.specs.Replies.{DONE, GEOMETRY, LENGTH, first_applying}
use Rattle.scope.specs.Calls.{size_tests}

-- `right`: the state's lengths; `others`: those beside them.
module _ (g : Geometry) (right others : Bool) where
  pub geometry_refused : accepted g ≡ false → GEOMETRY ≡ first_applying (size_tests g (right && others))
  unfolding first_applying
  geometry_refused a = rw a

  pub length_refused : accepted g ≡ true → right ≡ false → LENGTH ≡ first_applying (size_tests g (right && others))
  unfolding first_applying
  length_refused a r = rw (a, r)

  pub other_refused : accepted g ≡ true → right ≡ true → others ≡ false → LENGTH ≡ first_applying (size_tests g (right && others))
  unfolding first_applying
  other_refused a r o = rw (a, r, o)

  pub size_admitted : accepted g ≡ true → right ≡ true → others ≡ true → DONE ≡ first_applying (size_tests g (right && others))
  unfolding first_applying
  size_admitted a r o = rw (a, r, o)
