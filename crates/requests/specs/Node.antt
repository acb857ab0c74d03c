-- A node as the definitions have it, and what a step promises of it: its definition is done, under the geometry and in the slices that it
-- had.
use Rattle.std.specs.Prelude.{◌≡◌, refl, ℕ, List, length}
use Rattle.std.proofs.Common.{sym, ◌∙◌}
use Rattle.scope.specs.Geometry.{Geometry}
use Rattle.scope.specs.Lent.{State}
use Rattle.scope.specs.Operations.{Step}
use Rattle.lent.specs.declared.Geometry.{Geometry as Numbers}
use Rattle.lent.specs.declared.Record.{Record}
use Rattle.words.specs.Filter.{filter_of}
use Rattle.words.specs.Noted.{Noted}
use Rattle.lent.specs.Model.{geometry, state}
use Rattle.lent.specs.Ready.{DoesAll}
use Rattle.steps.specs.Flash.{SameFlash, same_lent, then_same}
use Rattle.requests.specs.declared.node.Node.{Node}

-- The geometry that it is under, and its state.
abbrev pub under : Node → Geometry
under n = geometry n.flash.now.g

abbrev pub held : Node → State
held n = state n.flash.now.chip.now n.flash.now.spare.now n.directory.now n.cache.now n.work.now.rec

-- The state that a caller finds in its own lists and record, where these are what the node held.
pub held_is : {chip spare directory cache : List ℕ} {r : Record} (n : Node) → chip ≡ n.flash.now.chip.now → spare ≡ n.flash.now.spare.now
    → directory ≡ n.directory.now → cache ≡ n.cache.now → r ≡ n.work.now.rec
    → held n ≡ state chip spare directory cache r
held_is n a b c d e = λ i. sym (λ j. state (a j) (b j) (c j) (d j) (e j)) i

-- The notes that it finds there.
pub node_noted : {g : Numbers} {chip spare directory cache census filter : List ℕ} {r : Record} (n : Node) → n.flash.now.g ≡ g
    → spare ≡ n.flash.now.spare.now → census ≡ n.flash.now.census.now → cache ≡ n.cache.now → r ≡ n.work.now.rec → filter ≡ n.filter.now
    → Noted (geometry g) (state chip spare directory cache r) census filter
node_noted n e a b c d f =
    record {
      counted = rw (← e, a, b) n.flash.now.counted;
      filtered = rw (c, d, f) (filter_of n.filtered);
    }

-- The geometry and the slices are those before.
pub record SameLists {N : Type 0} (work work' flash flash' directory directory' cache cache' filter filter' : N) : Type 0 where
  pub work_kept : work' ≡ work
  pub flash_kept : flash' ≡ flash
  pub directory_kept : directory' ≡ directory
  pub cache_kept : cache' ≡ cache
  pub filter_kept : filter' ≡ filter

abbrev pub SameNode : Node → Node → Type 0
SameNode n n' =
    SameFlash n.flash.now n'.flash.now
    × SameLists n.work.ghost_name n'.work.ghost_name n.flash.ghost_name n'.flash.ghost_name n.directory.ghost_name n'.directory.ghost_name n.cache.ghost_name n'.cache.ghost_name n.filter.ghost_name n'.filter.ghost_name

pub same_lists : {N : Type 0} {w x d c f : N} → SameLists w w x x d d c c f f
same_lists = record { work_kept = refl; flash_kept = refl; directory_kept = refl; cache_kept = refl; filter_kept = refl }

module _ {N : Type 0} {w w₁ w₂ x x₁ x₂ d d₁ d₂ c c₁ c₂ f f₁ f₂ : N} where
  pub then_lists : SameLists w w₁ x x₁ d d₁ c c₁ f f₁ → SameLists w₁ w₂ x₁ x₂ d₁ d₂ c₁ c₂ f₁ f₂ → SameLists w w₂ x x₂ d d₂ c c₂ f f₂
  then_lists a b =
      record {
        work_kept = b.work_kept ∙ a.work_kept;
        flash_kept = b.flash_kept ∙ a.flash_kept;
        directory_kept = b.directory_kept ∙ a.directory_kept;
        cache_kept = b.cache_kept ∙ a.cache_kept;
        filter_kept = b.filter_kept ∙ a.filter_kept;
      }

-- A step of 01 is done.
pub record NodeDoes {A : Type 0} (m : Step A) (n : Node) (x : A) (n' : Node) : Type 0 where
  pub does : DoesAll m (held n) n.work.now x (held n') n'.work.now
  pub same : SameNode n n'

-- All but the cache is as it was.
pub record OnlyCache (n n' : Node) : Type 0 where
  pub same : SameNode n n'
  pub chip_kept : n'.flash.now.chip.now ≡ n.flash.now.chip.now
  pub spare_kept : n'.flash.now.spare.now ≡ n.flash.now.spare.now
  pub census_kept : n'.flash.now.census.now ≡ n.flash.now.census.now
  pub directory_kept : n'.directory.now ≡ n.directory.now
  pub work_kept : n'.work.now ≡ n.work.now
  pub filter_kept : n'.filter.now ≡ n.filter.now
  pub as_long : length n'.cache.now ≡ length n.cache.now

pub only_nothing : {n : Node} → OnlyCache n n
only_nothing =
    record {
      same = (same_lent, same_lists);
      chip_kept = refl;
      spare_kept = refl;
      census_kept = refl;
      directory_kept = refl;
      work_kept = refl;
      filter_kept = refl;
      as_long = refl;
    }

pub then_only : {n n₁ n₂ : Node} → OnlyCache n n₁ → OnlyCache n₁ n₂ → OnlyCache n n₂
then_only x y =
    record {
      same = (then_same x.same.0 y.same.0, then_lists x.same.1 y.same.1);
      chip_kept = y.chip_kept ∙ x.chip_kept;
      spare_kept = y.spare_kept ∙ x.spare_kept;
      census_kept = y.census_kept ∙ x.census_kept;
      directory_kept = y.directory_kept ∙ x.directory_kept;
      work_kept = y.work_kept ∙ x.work_kept;
      filter_kept = y.filter_kept ∙ x.filter_kept;
      as_long = y.as_long ∙ x.as_long;
    }
