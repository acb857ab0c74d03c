-- What a collection asks of that which follows a moved page (scope's Following): the laws that the collection's own law rests on,
-- whatever the region. `view` says where each owner's page is, given what waits; `Inv` is all that the follower needs and keeps
-- outside of the region. Where the directory follows nothing waits (DirectoryFollows.antt); where the cache follows, an owner that
-- waits is where its last waiting entry says, and settling updates translation pages.
use Rattle.std.specs.Prelude.{ℕ, ◌+◌, ◌*◌, ◌-◌, ◌≤◌, ◌<◌, ◌≡◌, List, [], ◌++◌, length}
use Rattle.scope.specs.Geometry.{Geometry}
use Rattle.scope.specs.Regions.{Region, owners, HasPage}
use Rattle.scope.specs.SmallRecord.{open_block, next_offset}
use Rattle.scope.specs.Lent.{State, Mapping, decode}
use Rattle.scope.specs.Operations.{Outcome}
use Rattle.scope.specs.Room.{Following}
use Rattle.scope.specs.Laws.Applied.{SameFlash}
use Rattle.flash.specs.Lengths.{Lengths}
use Rattle.flash.specs.Heads.{SameHead}
use Rattle.flash.specs.SamePages.{SamePages}
use Rattle.flash.specs.Moments.{cost}
use Rattle.region.specs.Elsewhere.{SameElsewhere}
use Rattle.region.specs.Holds.{Holds, Renames, contents}
use Rattle.region.specs.Done.{Done}

-- Where the owners' pages are, with what waits, and what is kept outside of the region.
abbrev pub View : Type 0
View = List Mapping → State → ℕ → ℕ

abbrev pub Invariant : Type 1
Invariant = List Mapping → State → Type 0

-- After page q has become that of owner k, while w waits: flash and the region's head as before, and at most one entry more that waits.
pub record AfterMoved (g : Geometry) (r : Region) (view : View) (Inv : Invariant) (w : List Mapping) (k q : ℕ) (s : State)
    (o : Outcome (List Mapping)) : Type 0 where
  pub no_operation : o.did ≡ []
  pub flash : SameFlash o.after s
  pub head : SameHead r s.small o.after.small
  pub lengths : Lengths g o.after
  pub at_most_one : length o.value ≤ 1
  pub inv : Inv (w ++ o.value) o.after
  pub renames : Renames (owners g r) k q (view w s) (view (w ++ o.value) o.after)

-- After all that waits has been settled: nothing of region r has changed, and the owners are where they were.
pub record AfterSettled (g : Geometry) (r : Region) (settling : ℕ) (view : View) (Inv : Invariant) (w : List Mapping) (s : State)
    (o : Outcome (Unit {0})) : Type 0 where
  pub pages : SamePages g r s o.after
  pub opened : open_block r o.after.small ≡ open_block r s.small
  pub offset : next_offset r o.after.small ≡ next_offset r s.small
  pub lengths : Lengths g o.after
  pub inv : Inv [] o.after
  pub views : (k : ℕ) → k < owners g r → view [] o.after k ≡ view w s k
  pub done : Done g s o.did o.after
  pub costs : cost o.did ≤ settling * length w

-- The laws that the copies rest on. Neither view nor invariant rests on the region's own pages, open block or offset.
pub record Mover (g : Geometry) (r : Region) (follow : Following) (view : View) (Inv : Invariant) : Type 0 where
  pub moved : (w : List Mapping) (k q : ℕ) (s : State) → Lengths g s → Inv w s → k < owners g r → HasPage g r q
      → AfterMoved g r view Inv w k q s (follow.moved k q s)
  pub kept : (w : List Mapping) (s s' : State) → Lengths g s → Lengths g s' → SameElsewhere g r s s' → Inv w s → Inv w s'
  pub seen : (w : List Mapping) (s s' : State) → Lengths g s → Lengths g s' → SameElsewhere g r s s' → Inv w s
      → (k : ℕ) → k < owners g r → view w s' k ≡ view w s k

-- All laws. `settling` bounds what settling costs for each entry that waits.
pub record Follower (g : Geometry) (r : Region) (follow : Following) (settling : ℕ) (view : View) (Inv : Invariant) : Type 0 where
  pub mover : Mover g r follow view Inv
  pub settled : (w : List Mapping) (s : State) → Lengths g s → Inv w s
      → AfterSettled g r settling view Inv w s (follow.settled w s)

-- What make room promises (MakeRoom.antt): rules 1 to 3 and the map of the region hold again, its open block has room, each owner's
-- words are as they were, and the follower's own invariant holds: all that is known of what is elsewhere, for make room itself leaves
-- that alone. At most P - 1 pages are moved.
pub record RoomMade (g : Geometry) (r : Region) (settling : ℕ) (view : View) (Inv : Invariant) (s : State)
    (o : Outcome (Unit {0})) : Type 0 where
  pub holds : Holds g r o.after (view [] o.after)
  pub room : next_offset r o.after.small < g.P
  pub keeps : (k : ℕ) → k < owners g r
      → contents g o.after.chip (decode (view [] o.after k)) ≡ contents g s.chip (decode (view [] s k))
  pub inv : Inv [] o.after
  pub lengths : Lengths g o.after
  pub done : Done g s o.did o.after
  pub costs : cost o.did ≤ 2 * (g.P - 1) + settling * (g.P - 1) + 1
