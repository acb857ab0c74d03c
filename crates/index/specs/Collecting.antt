-- A collection of the translation region: what each of its parts asks for, from what the parts before it did, and that together they make
-- room.
use Rattle.std.specs.Prelude.{ℕ, ◌+◌, ◌*◌, List, [], slice_index}
use Rattle.std.proofs.Common.{arith}
use Rattle.scope.specs.Geometry.{Geometry}
use Rattle.scope.specs.Regions.{Translation}
use Rattle.scope.specs.Lent.{Mapping}
use Rattle.scope.specs.Operations.{Erase, perform}
use Rattle.scope.specs.Room.{make_room}
use Rattle.scope.specs.Steps.{directory_names_it, directory_follows}
use Rattle.flash.specs.Bounded.{accepted_region}
use Rattle.region.specs.DirectoryFollows.{in_directory}
use Rattle.region.specs.Apart.{waits_all, follow_each, directory_apart}
use Rattle.lent.specs.declared.Work.{Work}
use Rattle.lent.specs.DoesLaws.{does_give, does_bind}
use Rattle.lent.specs.Shapes.{DoesFlash, DoesDirectory, less_room}
use Rattle.copying.specs.Moves.{move_at, first_moves, no_moves, one_more, move_words}
use Rattle.copying.specs.Choice.{ToCollect, MakesRoom, start_collect, follow_none_does, follow_more_does, start_follows_does, collect_does}
use Rattle.copying.specs.Starting.{CollectReady}
use Rattle.index.specs.Index.{Index, with_pages, with_names, with_index, DoesIndex, RoomReady}

-- ---- the directory follows

-- The first i of the moves are followed.
abbrev pub NamedUpto : List ℕ → ℕ → List ℕ → List ℕ → Type 0
NamedUpto moves i directory directory' =
    (w : Work) → DoesDirectory (follow_each directory_follows (first_moves i moves)) directory w [] directory' w

pub none_named : (moves : List ℕ) {directory : List ℕ} → NamedUpto moves 0 directory directory
none_named moves w s = rw (no_moves moves) (follow_none_does directory_follows)

pub one_named : (moves : List ℕ) (i : ℕ) {directory₀ directory directory' : List ℕ} → NamedUpto moves i directory₀ directory
    → ((w : Work) → DoesDirectory (directory_names_it (slice_index moves (i * move_words)) (slice_index moves (i * move_words + 1)))
    directory w tt directory' w)
    → NamedUpto moves (i + 1) directory₀ directory'
one_named moves i before names w s =
    rw (one_more moves i)
    (follow_more_does directory_apart (first_moves i moves) (move_at i moves) (before w s) (does_bind _ (names w s) (does_give [])))

-- ---- the collection

module _ {g : Geometry} {x : Index} {w : Work} {v : ℕ} (ready : RoomReady g x w) (chosen : ToCollect g Translation x.spare w v) where
  pub start_ready : CollectReady g Translation v x.chip x.spare w
  start_ready =
      record {
        bounds = accepted_region ready.lent.accepted Translation;
        chip_fits = ready.lent.chip_fits;
        spare_fits = ready.lent.spare_fits;
        places = in_directory x.directory;
        holds = ready.holds;
        chosen = chosen;
        countable = less_room (omega arith) ready.counting;
      }

  pub collected_does : {moves : List Mapping} {chip₁ spare₁ directory₁ : List ℕ} {x₂ : Index} {w₁ w₂ : Work}
      → DoesFlash (start_collect g Translation waits_all v) x.chip x.spare w moves chip₁ spare₁ w₁
      → ((w : Work) → DoesDirectory (follow_each directory_follows moves) x.directory w [] directory₁ w)
      → DoesIndex (perform g (Erase v)) (with_names directory₁ (with_pages chip₁ spare₁ x)) w₁ tt x₂ w₂
      → DoesIndex (make_room g Translation directory_follows) x w tt x₂ w₂
  collected_does {chip₁ = chip₁} {spare₁} {w₁ = w₁} starts names erases s =
      collect_does directory_follows (with_index x w s) chosen
      (start_follows_does directory_apart g Translation v (starts (with_index x w s))
      (names w₁ (with_index (with_pages chip₁ spare₁ x) w₁ s)))
      (does_give tt) (erases s)

-- ---- the choice

-- Room that is there, or was made by opening a block.
pub chosen_does : {g : Geometry} {x : Index} {w w' : Work} → MakesRoom g Translation x.spare w w'
    → DoesIndex (make_room g Translation directory_follows) x w tt x w'
chosen_does {x = x} {w} makes s = makes.does directory_follows (with_index x w s)
