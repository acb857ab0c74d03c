-- The notes of a state: the census of its blocks and the filter of its cached pages.
use Rattle.std.specs.Prelude.{ℕ, List}
use Rattle.scope.specs.Geometry.{Geometry}
use Rattle.scope.specs.Lent.{State}
use Rattle.words.specs.Census.{Census}
use Rattle.words.specs.Filter.{Filter}

pub record Noted (g : Geometry) (s : State) (census filter : List ℕ) : Type 0 where
  pub counted : Census g s.spare census
  pub filtered : Filter s.cache s.small.used filter
