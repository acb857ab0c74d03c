-- Make room: nothing where the open block has room; else the lowest of two or more erased blocks is opened; else a collection.
-- One law for both regions and for whatever follows a moved page.
use Rattle.std.specs.Prelude.{ℕ, ◌≤◌, ◌<◌, ◌≡◌, refl, [], leb}
use Rattle.std.proofs.Common.{sym, subst, arith, leb-true, leb-false, lt-ltb, le-ltb}
use Rattle.scope.specs.Geometry.{Geometry}
use Rattle.scope.specs.Regions.{Region}
use Rattle.scope.specs.SmallRecord.{next_offset}
use Rattle.scope.specs.Lent.{State}
use Rattle.scope.specs.Operations.{Outcome, give, look, set_small, ◌>>=◌}
use Rattle.scope.specs.Room.{Following, erased_blocks, lowest_erased, open_lowest, open_or_collect, make_room}
use Rattle.scope.specs.Laws.Applied.{flash_refl, flash_as}
use Rattle.flash.specs.Bounded.{RegionBounded}
use Rattle.flash.specs.Cases.{on, below?}
use Rattle.flash.specs.Lengths.{Lengths}
use Rattle.flash.specs.Listed.{cost_none}
use Rattle.region.specs.Holds.{Besides, Holds}
use Rattle.region.specs.Room.{lowest_is_erased, two_erased}
use Rattle.region.specs.Elsewhere.{open_with, offset_with}
use Rattle.region.specs.Done.{done_none}
use Rattle.region.specs.Follower.{View, Invariant, Follower, RoomMade}
use Rattle.region.specs.Starts.{opened_lowest, open_lowest_keeps}
use Rattle.region.specs.Collect.{collect_law}

-- "If the open block's offset is below P, nothing."
pub make_room_idle : (g : Geometry) (r : Region) (follow : Following) (s : State) → next_offset r s.small < g.P
    → ◌≡◌ {A = Outcome (Unit {0})} (make_room g r follow s) (record { value = tt; after = s; did = [] })
unfolding make_room ◌>>=◌ look give
make_room_idle g r follow s h = rw (lt-ltb (next_offset r s.small) g.P h)

make_room_full : (g : Geometry) (r : Region) (follow : Following) (s : State) → g.P ≤ next_offset r s.small
    → make_room g r follow s ≡ open_or_collect g r follow s
unfolding make_room ◌>>=◌ look
make_room_full g r follow s h = rw (le-ltb (next_offset r s.small) g.P h)

open_lowest_is : (g : Geometry) (r : Region) (s : State)
    → ◌≡◌ {A = Outcome (Unit {0})} (open_lowest g r s) (record { value = tt; after = opened_lowest g r s; did = [] })
unfolding open_lowest ◌>>=◌ look set_small
open_lowest_is g r s = refl

module _ {g : Geometry} {r : Region} {follow : Following} {settling : ℕ} {view : View} {Inv : Invariant}
    (F : Follower g r follow settling view Inv) (bounds : RegionBounded g r) (s : State) (lengths : Lengths g s)
    (holds : Holds g r s (view [] s)) (inv : Inv [] s) where
  idle_law : next_offset r s.small < g.P → RoomMade g r settling view Inv s (record { value = tt; after = s; did = [] })
  idle_law room =
      record {
        holds = holds;
        room = room;
        keeps = λ k h. refl;
        inv = inv;
        lengths = lengths;
        done = done_none g flash_refl;
        costs = omega (arith, cost_none);
      }

  -- "If two or more blocks are wholly erased, open the lowest": another one is besides it.
  open_lowest_law : g.P ≤ next_offset r s.small → 2 ≤ erased_blocks g r s
      → RoomMade g r settling view Inv s (record { value = tt; after = opened_lowest g r s; did = [] })
  open_lowest_law full two =
      let (b, here, _, empty) = holds.besides in
      let (in_region, is_empty) = lowest_is_erased g r s b here empty in
      let (copying, keeps) = open_lowest_keeps F.mover s (record { fits = holds.fits; maps = holds.maps; inv = inv; lengths = lengths })
      full in_region is_empty in
      record {
        holds = record {
          fits = copying.fits;
          besides = subst (Besides g r s.spare) (sym (open_with r (lowest_erased g r s) 0 s.small)) (two_erased g r s two _);
          maps = copying.maps;
        };
        room = subst (λ n. n < g.P) (sym (offset_with r (lowest_erased g r s) 0 s.small)) bounds.bounded.P_from;
        keeps = keeps;
        inv = copying.inv;
        lengths = copying.lengths;
        done = done_none g (flash_as refl);
        costs = omega (arith, cost_none);
      }

  open_or_collect_law : g.P ≤ next_offset r s.small → RoomMade g r settling view Inv s (open_or_collect g r follow s)
  unfolding open_or_collect ◌>>=◌ look
  open_or_collect_law full =
      on (leb 2 (erased_blocks g r s))
      (λ e. rw (e, open_lowest_is) (open_lowest_law full (leb-true 2 _ e)))
      (λ e. rw e (collect_law F s bounds lengths holds inv full (leb-false 2 _ e)))

  pub make_room_law : RoomMade g r settling view Inv s (make_room g r follow s)
  make_room_law =
      below? (next_offset r s.small) g.P
      (λ room. rw (make_room_idle g r follow s room) (idle_law room))
      (λ full. rw (make_room_full g r follow s full) (open_or_collect_law full))
