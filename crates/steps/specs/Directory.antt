-- What the leaves do to the directory is what 01's steps do.
use Rattle.std.specs.Prelude.{ℕ, ◌≡◌, refl, List, set}
use Rattle.std.proofs.Common.{sym}
use Rattle.scope.specs.Steps.{directory_names_it}
use Rattle.lent.specs.declared.Work.{Work}
use Rattle.lent.specs.DoesLaws.{does_ends, directory_same, does_set_directory}
use Rattle.lent.specs.Shapes.{DoesDirectory}

pub names_does : (t p : ℕ) {directory directory' : List ℕ} {w : Work} → directory' ≡ set directory t p
    → DoesDirectory (directory_names_it t p) directory w tt directory' w
unfolding directory_names_it
names_does t p e s = does_ends (does_set_directory _) (directory_same s (sym e) refl) refl
