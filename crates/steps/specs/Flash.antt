-- What a step on flash promises of it: its definition is done, whatever else the state holds, under the geometry that it had and in the
-- slices that were lent. And what every step may rely on, as the leaves ask for it.
use Rattle.std.specs.Prelude.{◌≡◌, refl}
use Rattle.std.proofs.Common.{◌∙◌}
use Rattle.scope.specs.Operations.{Step}
use Rattle.lent.specs.declared.Geometry.{Geometry as Numbers}
use Rattle.lent.specs.declared.Work.{Work}
use Rattle.lent.specs.Model.{geometry}
use Rattle.lent.specs.Shapes.{DoesFlash}
use Rattle.steps.specs.declared.Flash.{Flash}
use Rattle.steps.specs.Lies.{ChipLent, SpareLent}

-- The geometry and the slices are those before.
pub record SameLent {N : Type 0} (g g' : Numbers) (chip chip' spare spare' census census' : N) : Type 0 where
  pub geometry_kept : g' ≡ g
  pub chip_kept : chip' ≡ chip
  pub spare_kept : spare' ≡ spare
  pub census_kept : census' ≡ census

abbrev pub SameFlash : Flash → Flash → Type 0
SameFlash f f' =
    SameLent f.g f'.g f.chip.ghost_name f'.chip.ghost_name f.spare.ghost_name f'.spare.ghost_name f.census.ghost_name f'.census.ghost_name

pub same_lent : {N : Type 0} {g : Numbers} {a b c : N} → SameLent g g a a b b c c
same_lent = record { geometry_kept = refl; chip_kept = refl; spare_kept = refl; census_kept = refl }

module _ {N : Type 0} {g g₁ g₂ : Numbers} {a a₁ a₂ b b₁ b₂ c c₁ c₂ : N} where
  pub then_same : SameLent g g₁ a a₁ b b₁ c c₁ → SameLent g₁ g₂ a₁ a₂ b₁ b₂ c₁ c₂ → SameLent g g₂ a a₂ b b₂ c c₂
  then_same x y =
      record {
        geometry_kept = y.geometry_kept ∙ x.geometry_kept;
        chip_kept = y.chip_kept ∙ x.chip_kept;
        spare_kept = y.spare_kept ∙ x.spare_kept;
        census_kept = y.census_kept ∙ x.census_kept;
      }

-- So they are, and so are the chip's words.
pub record OnlySpare (f f' : Flash) : Type 0 where
  pub same : SameFlash f f'
  pub words : f'.chip.now ≡ f.chip.now

-- So they are, and so are the spare and the census.
pub record OnlyChip (f f' : Flash) : Type 0 where
  pub same : SameFlash f f'
  pub states : f'.spare.now ≡ f.spare.now
  pub numbers : f'.census.now ≡ f.census.now

-- A step of 01 is done.
pub record FlashDoes {A : Type 0} (m : Step A) (f : Flash) (w : Work) (x : A) (f' : Flash) (w' : Work) : Type 0 where
  pub does : DoesFlash m f.chip.now f.spare.now w x f'.chip.now f'.spare.now w'
  pub same : SameFlash f f'

-- The lists have their sizes.
module _ (f : Flash) where
  pub chip_lent : ChipLent (geometry f.g) f.chip.now
  chip_lent = record { bounded = f.bounded; chip_fits = f.chip_fits }

  pub spare_lent : SpareLent (geometry f.g) f.spare.now
  spare_lent = record { bounded = f.bounded; spare_fits = f.spare_fits }
