-- The index, chip, spare and directory, as the steps of this crate are lent it: they do their definitions whatever else the state holds.
-- The laws of the theory are of whole states, so they are asked of one that has nothing else in it.
use Rattle.std.specs.Prelude.{◌≡◌, ℕ, ◌*◌, ◌<◌, List, length}
use Rattle.scope.specs.Geometry.{Geometry, Accepted}
use Rattle.scope.specs.Regions.{Translation}
use Rattle.scope.specs.Lent.{State, Mapping, with_flash, with_directory, chip_size, spare_size, directory_size}
use Rattle.scope.specs.Operations.{Step}
use Rattle.flash.specs.Bounded.{accepted_bounded}
use Rattle.flash.specs.Lengths.{Lengths, lengths_with_flash, lengths_with_directory, blank, blank_lengths}
use Rattle.region.specs.Holds.{RegionHolds}
use Rattle.region.specs.DirectoryFollows.{in_directory}
use Rattle.cache.specs.Waiting.{Waits}
use Rattle.promises.specs.Parts.{IndexHolds}
use Rattle.promises.specs.Update.{update_bound}
use Rattle.lent.specs.declared.Work.{Work}
use Rattle.lent.specs.Model.{Lists, with_rec, counts}
use Rattle.lent.specs.Does.{Does}
use Rattle.lent.specs.Shapes.{DoesFlash, RoomToCount}
use Rattle.steps.specs.declared.Flash.{Flash}
use Rattle.steps.specs.Flash.{SameFlash}
use Rattle.steps.specs.Lies.{ChipLent, SpareLent}

-- The three lists.
pub record Index : Type 0 where
  pub chip : List ℕ
  pub spare : List ℕ
  pub directory : List ℕ

abbrev pub lists : List ℕ → List ℕ → List ℕ → Index
lists chip spare directory = record { chip = chip; spare = spare; directory = directory }

-- As contracts write them.
abbrev pub index : List ℕ → List ℕ → List ℕ → Index
index chip spare directory = lists chip spare directory

-- Those of flash and a directory.
abbrev pub indexed : Flash → List ℕ → Index
indexed f directory = lists f.chip.now f.spare.now directory

-- Those among all that is lent.
abbrev pub index_in : Lists → Index
index_in x = lists x.chip x.spare x.directory

-- Another chip and spare, another directory; the index in the place of a state's own.
abbrev pub with_pages : List ℕ → List ℕ → Index → Index
with_pages chip spare x = record { chip = chip; spare = spare; directory = x.directory }

abbrev pub with_chip : List ℕ → Index → Index
with_chip chip x = with_pages chip x.spare x

abbrev pub with_names : List ℕ → Index → Index
with_names directory x = record { chip = x.chip; spare = x.spare; directory = directory }

abbrev pub with_index : Index → Work → State → State
with_index x w s = with_directory x.directory (with_flash x.chip x.spare (with_rec w.rec s))

-- The index, and what travels by value.
abbrev pub DoesIndex : {A : Type 0} → Step A → Index → Work → A → Index → Work → Type 0
DoesIndex m x w y x' w' = (s : State) → Does m (with_index x w s) (counts w.counts) y (with_index x' w' s) (counts w'.counts)

-- A step of 01 is done on flash and directory.
pub record IndexDoes {A : Type 0} (m : Step A) (f : Flash) (directory : List ℕ) (w : Work) (y : A) (f' : Flash) (directory' : List ℕ) (w' : Work)
    : Type 0 where
  pub does : DoesIndex m (indexed f directory) w y (indexed f' directory') w'
  pub same : SameFlash f f'

-- What is done to chip and spare, whatever else the state holds, is done to the index.
pub flash_does : {A : Type 0} {m : Step A} (x : Index) {chip spare : List ℕ} {w w' : Work} {y : A}
    → DoesFlash m x.chip x.spare w y chip spare w' → DoesIndex m x w y (with_pages chip spare x) w'
flash_does x {w = w} does s = does (with_index x w s)

-- The state that the laws are asked of.
abbrev pub index_state : Geometry → Index → Work → State
index_state g x w = with_index x w (blank g)

-- ---- what is asked for

-- The lists have their sizes.
pub record IndexLent (g : Geometry) (x : Index) : Type 0 where
  pub accepted : Accepted g
  pub chip_fits : length x.chip ≡ chip_size g
  pub spare_fits : length x.spare ≡ spare_size g
  pub directory_fits : length x.directory ≡ directory_size g

pub chip_of : {g : Geometry} {x : Index} → IndexLent g x → ChipLent g x.chip
chip_of lent = record { bounded = accepted_bounded lent.accepted; chip_fits = lent.chip_fits }

pub spare_of : {g : Geometry} {x : Index} → IndexLent g x → SpareLent g x.spare
spare_of lent = record { bounded = accepted_bounded lent.accepted; spare_fits = lent.spare_fits }

pub index_lengths : {g : Geometry} {x : Index} (w : Work) → IndexLent g x → Lengths g (index_state g x w)
index_lengths {g} {x} w lent =
    lengths_with_directory (with_flash x.chip x.spare (blank g))
    (lengths_with_flash (blank g) (blank_lengths g) lent.chip_fits lent.spare_fits) lent.directory_fits

pub lent_with_chip : {g : Geometry} {x : Index} (chip : List ℕ) → IndexLent g x → length chip ≡ chip_size g → IndexLent g (with_chip chip x)
lent_with_chip chip lent fits =
    record {
      accepted = lent.accepted;
      chip_fits = fits;
      spare_fits = lent.spare_fits;
      directory_fits = lent.directory_fits;
    }

-- So have those of a state.
pub lengths_lent : {g : Geometry} (x : Index) (w : Work) (s : State) → Accepted g → Lengths g (with_index x w s) → IndexLent g x
lengths_lent x w s ok lengths =
    record {
      accepted = ok;
      chip_fits = lengths.chip_fits;
      spare_fits = lengths.spare_fits;
      directory_fits = lengths.directory_fits;
    }

-- What an update of translation pages for the mappings ms asks for: rules 1 to 4 of the translation region and the words past L, the
-- mappings of logical pages, and room in the counts.
pub record IndexReady (g : Geometry) (x : Index) (w : Work) (ms : List Mapping) : Type 0 where
  pub lent : IndexLent g x
  pub index : IndexHolds g x.chip x.spare x.directory w.rec.open_translation w.rec.translation_offset
  pub below_L : (l : ℕ) → Waits ms l → l < g.L
  pub counting : RoomToCount (update_bound g * length ms) w.counts

-- What make room asks for.
pub record RoomReady (g : Geometry) (x : Index) (w : Work) : Type 0 where
  pub lent : IndexLent g x
  pub holds : RegionHolds g Translation x.chip x.spare w.rec.open_translation w.rec.translation_offset
      (in_directory x.directory)
  pub counting : RoomToCount (2 * g.P) w.counts
