-- The copies of a collection, once for both regions: the victim's valid pages move to the open block in their order, and their moves are
-- noted. What lets them begin, what holds before each page, and what they leave, all from the law of the definition.
use Rattle.std.specs.Prelude.{ℕ, suc, ◌+◌, ◌*◌, ◌-◌, ◌≤◌, ◌<◌, ◌≡◌, refl, true, false, eqb, length}
use Rattle.std.proofs.Common.{sym, ap, subst, subst₂, ◌∙◌, ⊎_elim, arith}
use mathlib.Core.List.{List, [], ◌∷◌, ◌++◌}
use Rattle.std.proofs.Math.Numerals.{add-one}
use Rattle.scope.specs.Counting.{count}
use Rattle.scope.specs.Geometry.{most_pages_in_block, Geometry, pages}
use Rattle.scope.specs.Regions.{Region, owners, page_in}
use Rattle.scope.specs.SmallRecord.{next_offset}
use Rattle.scope.specs.Lent.{valid, State, Mapping, with_flash, is_valid}
use Rattle.scope.specs.Operations.{Operation, Step, give}
use Rattle.scope.specs.Room.{move_if_valid, move_pages}
use Rattle.flash.specs.Bounded.{RegionBounded}
use Rattle.scope.specs.Laws.Applied.{flash_as}
use Rattle.flash.specs.Lengths.{blank}
use Rattle.flash.specs.Heads.{head_same}
use Rattle.flash.specs.Counting.{count_upto}
use Rattle.flash.specs.Places.{page_on_chip, page_in_region}
use Rattle.cache.specs.Waiting.{Waits, latest, latest_here, latest_elsewhere, waits_append}
use Rattle.region.specs.Follower.{View, Invariant, Mover}
use Rattle.region.specs.Apart.{waits_all}
use Rattle.region.specs.Copied.{Copied, few_moved}
use Rattle.region.specs.Starts.{Starts, copied_since}
use Rattle.lent.specs.declared.Work.{Work}
use Rattle.lent.specs.Model.{small, with_rec}
use Rattle.lent.specs.DoesLaws.{does_give, does_look_at, does_bind, does_value}
use Rattle.lent.specs.Shapes.{DoesFlash, RoomToCount, less_room, room_after}
use Rattle.steps.specs.Lies.{ChipLent, SpareLent, HasNext}
use Rattle.steps.specs.Chip.{relocate, move_does}

-- ---- the law of the copies, for moves that are noted

-- Where the owners' pages are: the last move of an owner says so, and the map from before where it has none.
abbrev pub noted_view : (ℕ → ℕ) → View
noted_view places w s k = latest w k (places k)

-- The owners of what moved are the region's.
abbrev pub NotedOwners : Geometry → Region → Invariant
NotedOwners g r w s = (k : ℕ) → Waits w k → k < owners g r

pub noting : (g : Geometry) (r : Region) (places : ℕ → ℕ) → Mover g r waits_all (noted_view places) (NotedOwners g r)
unfolding give
noting g r places =
    record {
      moved = λ w k q s lengths inv owned here. record {
        no_operation = refl;
        flash = flash_as refl;
        head = head_same r refl;
        lengths = lengths;
        at_most_one = omega arith;
        inv = λ j waits. ⊎_elim (inv j) (⊎_elim (λ e. subst (λ (x : ℕ). x < owners g r) e owned) (λ z. absurd z)) (waits_append w _ j waits);
        renames = record {
          there = latest_here w k q (places k);
          elsewhere = λ j h apart. latest_elsewhere w k q j (places j) apart;
        };
      };
      kept = λ w s s' lengths lengths' same inv. inv;
      seen = λ w s s' lengths lengths' same inv k h. refl;
    }

-- The state that the law is asked of: the other lists are *none* throughout, since no copy looks at them.
abbrev pub flash_state : Geometry → List ℕ → List ℕ → Work → State
flash_state g chip spare w = with_flash chip spare (with_rec w.rec (blank g))

-- ---- one page

-- Page p may be copied, if it is valid, with n moves noted.
pub record PageToCopy (g : Geometry) (r : Region) (p : ℕ) (chip spare : List ℕ) (w : Work) (n : ℕ) : Type 0 where
  pub chip_lent : ChipLent g chip
  pub spare_lent : SpareLent g spare
  pub on_chip : p < pages g
  pub next : HasNext g r (small w.rec)
  pub few : n < most_pages_in_block
  pub countable : is_valid p spare ≡ true → RoomToCount 2 w.counts

module _ (g : Geometry) (r : Region) (p : ℕ) {chip spare : List ℕ} {w : Work} where
  -- A valid page moves, and its move is handed back.
  pub valid_copied : {chip' spare' : List ℕ} {w' : Work} {m : Mapping} → is_valid p spare ≡ true
      → DoesFlash (relocate g r p) chip spare w m chip' spare' w'
      → DoesFlash (move_if_valid g r waits_all p) chip spare w (m ∷ []) chip' spare' w'
  unfolding move_if_valid
  valid_copied told relocated s =
      does_bind _ (does_look_at _ told) (move_does g r waits_all p (relocated s) (does_give _))

  -- Another is passed over.
  pub other_passed : is_valid p spare ≡ false → DoesFlash (move_if_valid g r waits_all p) chip spare w [] chip spare w
  unfolding move_if_valid
  other_passed told s = does_bind _ (does_look_at _ told) (does_give [])

-- What it does, with its move behind those noted before.
pub record DoesNoting (m : Step (List Mapping)) (chip spare : List ℕ) (w : Work) (moves moves' : List Mapping) (chip' spare' : List ℕ) (w' : Work)
    : Type 0 where
  pub more : List Mapping
  pub does : DoesFlash m chip spare w more chip' spare' w'
  pub noted : moves' ≡ moves ++ more

-- ---- all pages

-- The copies of block v's pages may begin, with the erased block opened.
pub record CopyReady (g : Geometry) (r : Region) (v : ℕ) (chip spare : List ℕ) (w : Work) : Type 0 where
  pub bounds : RegionBounded g r
  pub places : ℕ → ℕ
  pub starts : Starts g r (noted_view places) (NotedOwners g r) v (flash_state g chip spare w)
  pub countable : RoomToCount (2 * (g.P - 1)) w.counts

-- The first n pages of block v are copied.
pub record CopiedUpto (g : Geometry) (r : Region) (v n : ℕ) (chip₀ spare₀ : List ℕ) (w₀ : Work) (moves : List Mapping)
    (chip spare : List ℕ) (w : Work) : Type 0 where
  pub upto : n ≤ g.P
  pub does : DoesFlash (move_pages g r waits_all v n) chip₀ spare₀ w₀ moves chip spare w

module _ {g : Geometry} {r : Region} {v : ℕ} {chip₀ spare₀ : List ℕ} {w₀ : Work} where
  pub none_copied : CopiedUpto g r v 0 chip₀ spare₀ w₀ [] chip₀ spare₀ w₀
  unfolding move_pages
  none_copied = record { upto = omega arith; does = λ s. does_give [] }

  module _ {n : ℕ} {chip spare : List ℕ} {moves : List Mapping} {w : Work} (so_far : CopiedUpto g r v n chip₀ spare₀ w₀ moves chip spare w) where
    pub one_copied : {chip' spare' : List ℕ} {moves' : List Mapping} {w' : Work} → n < g.P
        → DoesNoting (move_if_valid g r waits_all (page_in g v n)) chip spare w moves moves' chip' spare' w'
        → CopiedUpto g r v (n + 1) chip₀ spare₀ w₀ moves' chip' spare' w'
    unfolding move_pages
    one_copied h copies =
        record {
          upto = omega arith;
          does = λ s. rw add-one
              (does_value (does_bind _ (so_far.does s) (does_bind _ (copies.does s) (does_give _)))
              (sym copies.noted));
        }

    module _ (ready : CopyReady g r v chip₀ spare₀ w₀) where
      abbrev s₀ : State
      s₀ = flash_state g chip₀ spare₀ w₀

      abbrev s : State
      s = flash_state g chip spare w

      abbrev did : List Operation
      did = (move_pages g r waits_all v n s₀).did

      -- The law, of what the code has left.
      so : Copied g r (noted_view ready.places) (NotedOwners g r) v n s₀ (record { value = moves; after = s; did = did })
      so =
          let does = so_far.does (blank g) in
          subst₂ (λ (x : List Mapping) (y : State). Copied g r (noted_view ready.places) (NotedOwners g r) v n s₀
          (record { value = x; after = y; did = did })) does.value does.after
          (copied_since (noting g r ready.places) ready.bounds ready.starts n so_far.upto)

      room : next_offset r (small w.rec) < g.P
      room = few_moved so_far.upto ready.starts.some_invalid so

      -- Room in the counts is left, but for two operations for each page moved.
      room_left : (m k : ℕ) → 2 * next_offset r (small w.rec) ≤ k → RoomToCount (m + k) w₀.counts → RoomToCount m w.counts
      room_left m k h counts =
          room_after m k w₀.counts w.counts did counts (omega (arith, so.costs))
          (so_far.does (blank g)).counting

      pub copied_chip : ChipLent g chip
      copied_chip = record { bounded = ready.bounds.bounded; chip_fits = so.copying.lengths.chip_fits }

      pub copied_spare : SpareLent g spare
      copied_spare = record { bounded = ready.bounds.bounded; spare_fits = so.copying.lengths.spare_fits }

      pub copied_few : length moves < g.P
      copied_few = omega (arith, so.waiting, room)

      pub copied_owned : (k : ℕ) → Waits moves k → k < owners g r
      copied_owned = so.copying.inv

      pub copied_room : (m : ℕ) → RoomToCount (m + 2 * (g.P - 1)) w₀.counts → RoomToCount m w.counts
      copied_room m = room_left m (2 * (g.P - 1)) (omega (arith, room))

      -- A valid page that comes next is one of fewer than P.
      not_last : n < g.P → is_valid (page_in g v n) spare ≡ true → next_offset r (small w.rec) + 1 < g.P
      not_last h e =
          omega (
            arith,
            so.offset,
            one_more,
            count_upto (suc n) g.P (λ i. is_valid (page_in g v i) spare₀) h,
            ready.starts.some_invalid,
          )
        where
          one_more : count (suc n) (λ i. is_valid (page_in g v i) spare₀) ≡ count n (λ i. is_valid (page_in g v i) spare₀) + 1
          one_more = rw (ap (λ (x : ℕ). eqb x valid) (sym (so.ahead n (omega arith) h)) ∙ e) refl

      pub page_ready : n < g.P → PageToCopy g r (page_in g v n) chip spare w (length moves)
      page_ready h =
          record {
            chip_lent = copied_chip;
            spare_lent = copied_spare;
            on_chip = page_on_chip g r (page_in g v n) (page_in_region g r v n ready.starts.in_region h);
            next = record { in_region = so.copying.fits.in_region; room = room };
            few = omega (arith, copied_few, ready.bounds.bounded.P_to);
            countable = λ e. room_left 2 (2 * next_offset r (small w.rec)) (omega arith)
                (less_room (omega (arith, not_last h e)) ready.countable);
          }
