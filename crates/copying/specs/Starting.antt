-- The start of a collection: what it asks for, from a region that holds, and what it leaves for the collection to go on with.
use Rattle.std.specs.Prelude.{ℕ, ◌+◌, ◌*◌, ◌-◌, ◌<◌, ◌≡◌, refl, List, [], length, get_or}
use Rattle.std.proofs.Common.{subst₂, arith}
use Rattle.scope.specs.Geometry.{Geometry, blocks}
use Rattle.scope.specs.Regions.{Region, owners}
use Rattle.scope.specs.SmallRecord.{open_block, next_offset}
use Rattle.scope.specs.Lent.{State, with_flash, chip_size, spare_size}
use Rattle.scope.specs.Operations.{Counts, counts_add, counted, look, set_small, ◌>>=◌}
use Rattle.scope.specs.Room.{open_lowest, move_pages}
use Rattle.flash.specs.Bounded.{RegionBounded}
use Rattle.flash.specs.Listed.{cost_none}
use Rattle.flash.specs.Places.{block_on_chip}
use Rattle.flash.specs.Lengths.{Lengths, lengths_with_flash, blank, blank_lengths}
use Rattle.region.specs.Holds.{RegionHolds}
use Rattle.region.specs.Apart.{waits_all}
use Rattle.region.specs.Starts.{Starts, opened_lowest, collection_starts}
use Rattle.lent.specs.declared.Work.{Work}
use Rattle.lent.specs.Model.{small}
use Rattle.lent.specs.Does.{Does}
use Rattle.lent.specs.DoesLaws.{does_bind}
use Rattle.lent.specs.Shapes.{DoesFlash, DoesBySpare, RoomToCount, room_after, less_room}
use Rattle.steps.specs.Lies.{ChipLent, SpareLent}
use Rattle.copying.specs.Moves.{move_words, first_moves, moves_counted, owner_waits}
use Rattle.copying.specs.Choice.{ToCollect, start_collect}
use Rattle.copying.specs.Copies.{noted_view, NotedOwners, noting, flash_state, CopyReady, CopiedUpto}
use Rattle.copying.specs.Copies.{copied_chip, copied_spare, copied_few, copied_owned, copied_room}

-- What opening a block leaves, and that it counts nothing.
module _ (g : Geometry) (r : Region) {s s' : State} {c c' : Counts} (d : Does (open_lowest g r) s c tt s' c') where
  opened_is : opened_lowest g r s ≡ s'
  unfolding open_lowest look set_small ◌>>=◌
  opened_is = d.after

  opening_counts : counts_add c (counted []) ≡ c'
  unfolding open_lowest look set_small ◌>>=◌
  opening_counts = d.counting

-- Block v is to be collected, in a region that holds with some map of its owners, and the counts have room for the copies.
pub record CollectReady (g : Geometry) (r : Region) (v : ℕ) (chip spare : List ℕ) (w : Work) : Type 0 where
  pub bounds : RegionBounded g r
  pub chip_fits : length chip ≡ chip_size g
  pub spare_fits : length spare ≡ spare_size g
  pub places : ℕ → ℕ
  pub holds : RegionHolds g r chip spare (open_block r (small w.rec)) (next_offset r (small w.rec)) places
  pub chosen : ToCollect g r spare w v
  pub countable : RoomToCount (2 * (g.P - 1)) w.counts

-- All is copied, with n moves: the lists have their sizes, each owner is one of the region's, and the victim is there to be erased.
pub record Started (g : Geometry) (r : Region) (v n : ℕ) (moves chip spare : List ℕ) (w w' : Work) : Type 0 where
  pub chip_lent : ChipLent g chip
  pub spare_lent : SpareLent g spare
  pub on_chip : v < blocks g
  pub few : n < g.P
  pub owned : (i : ℕ) → i < n → get_or moves (i * move_words) 0 < owners g r
  pub room : (m : ℕ) → RoomToCount (m + 2 * (g.P - 1)) w.counts → RoomToCount m w'.counts

module _ {g : Geometry} {r : Region} {v : ℕ} {chip spare : List ℕ} {w w₁ : Work} (ready : CollectReady g r v chip spare w)
    (opened : DoesBySpare (open_lowest g r) spare w tt w₁) where
  abbrev s : State
  s = flash_state g chip spare w

  abbrev s₁ : State
  s₁ = flash_state g chip spare w₁

  lengths : Lengths g s
  lengths = lengths_with_flash (blank g) (blank_lengths g) ready.chip_fits ready.spare_fits

  -- Opening leaves the counts as they are.
  room_still : (m : ℕ) → RoomToCount m w.counts → RoomToCount m w₁.counts
  room_still m counts =
      room_after m 0 w.counts w₁.counts [] (less_room (omega arith) counts) (omega (arith, cost_none))
      (opening_counts g r (opened s))

  pub copy_ready : CopyReady g r v chip spare w₁
  copy_ready =
      record {
        bounds = ready.bounds;
        places = ready.places;
        starts = subst₂ (Starts g r (noted_view ready.places) (NotedOwners g r)) (ready.chosen.found s refl)
            (opened_is g r (opened s))
            (collection_starts (noting g r ready.places) s ready.bounds lengths ready.holds (λ k z. absurd z)
            ready.chosen.full (ready.chosen.few s refl)).0;
        countable = room_still (2 * (g.P - 1)) ready.countable;
      }

  module _ (n : ℕ) (moves : List ℕ) {chip₂ spare₂ : List ℕ} {w₂ : Work}
      (copies : DoesFlash (move_pages g r waits_all v g.P) chip spare w₁ (first_moves n moves) chip₂ spare₂ w₂) where
    pub started_does : DoesFlash (start_collect g r waits_all v) chip spare w (first_moves n moves) chip₂ spare₂ w₂
    unfolding start_collect
    started_does t = does_bind _ (opened (with_flash chip spare t)) (copies t)

    all : CopiedUpto g r v g.P chip spare w₁ (first_moves n moves) chip₂ spare₂ w₂
    all = record { upto = omega arith; does = copies }

    pub started : Started g r v n moves chip₂ spare₂ w w₂
    started =
        record {
          chip_lent = copied_chip all copy_ready;
          spare_lent = copied_spare all copy_ready;
          on_chip = block_on_chip g r v copy_ready.starts.in_region;
          few = omega (arith, copied_few all copy_ready, moves_counted moves n);
          owned = λ i h. copied_owned all copy_ready (get_or moves (i * move_words) 0) (owner_waits moves n i h);
          room = λ m counts. copied_room all copy_ready m (room_still _ counts);
        }
