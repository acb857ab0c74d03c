-- The tests of a single request, and the notes that are taken on the way.
use Rattle.std.specs.Prelude.{ℕ, ◌≡◌, Bool, ◌&&◌, List, ◌++◌}
use Rattle.scope.specs.Geometry.{Geometry}
use Rattle.scope.specs.Lent.{State, Request}
use Rattle.scope.specs.Replies.{DONE, Size, first_applying, right_sizes}
use Rattle.scope.specs.Calls.{state_sizes, state_tests, request_tests}
use Rattle.replies.specs.Sizes.{buffer_right}
use Rattle.words.specs.Noted.{Noted}

-- n is the answer of the tests, where the page buffer has `buffer` words; the notes are taken where none applies.
pub record SingleTested (g : Geometry) (others : List Size) (q : Request) (buffer : ℕ) (s : State) (n : ℕ) (census filter : List ℕ) :
    Type 0 where
  pub tested : n
      ≡ first_applying (state_tests g (right_sizes (state_sizes g s) && buffer_right g buffer others) s ++ request_tests g s.small q)
  pub noted : n ≡ DONE → Noted g s census filter

-- The code tests with `right`, its own name for whether the lengths beside the state's are right.
pub single_tested : {g : Geometry} {others : List Size} {right : Bool} {q : Request} {buffer : ℕ} {s : State} {n : ℕ} {census filter : List ℕ}
    → right ≡ buffer_right g buffer others
    → n ≡ first_applying (state_tests g (right_sizes (state_sizes g s) && right) s ++ request_tests g s.small q)
    → (n ≡ DONE → Noted g s census filter)
    → SingleTested g others q buffer s n census filter
single_tested named tested noted = record { tested = rw named at tested; noted = noted }
