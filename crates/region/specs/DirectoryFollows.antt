-- Make room in the translation region: "the directory follows at once", so nothing waits, and the view is the directory itself.
-- What flash holds for each logical page, the data region, the cache and the used entries are as they were.
use Rattle.std.specs.Prelude.{ℕ, ◌+◌, ◌*◌, ◌-◌, ◌≤◌, ◌<◌, ◌≡◌, refl, List, get_or}
use Rattle.std.proofs.Common.{ap, ◌∙◌, arith, length-set, get_or-set_same, get_or-set_other}
use Rattle.scope.specs.Geometry.{Geometry, M, Accepted}
use Rattle.scope.specs.Regions.{Data, Translation}
use Rattle.scope.specs.Lent.{none, State, named}
use Rattle.scope.specs.Sound.{stored}
use Rattle.scope.specs.Operations.{Outcome, give, set_directory, ◌>>=◌}
use Rattle.scope.specs.Room.{make_room}
use Rattle.scope.specs.Steps.{directory_names_it, directory_follows}
use Rattle.scope.specs.Laws.Applied.{flash_refl, flash_as}
use Rattle.flash.specs.Moments.{cost}
use Rattle.flash.specs.Bounded.{accepted_region}
use Rattle.flash.specs.Lengths.{Lengths, lengths_with_directory}
use Rattle.flash.specs.Heads.{head_same, SameRest, rest_same, rest_trans}
use Rattle.flash.specs.SamePages.{SamePages, same_refl, same_trans}
use Rattle.flash.specs.Listed.{cost_none}
use Rattle.region.specs.Holds.{Holds, contents}
use Rattle.region.specs.Stored.{stored_same}
use Rattle.region.specs.Done.{Done, done_none}
use Rattle.region.specs.Follower.{View, Invariant, Follower}
use Rattle.region.specs.MakeRoom.{make_room_law}

-- The directory as a map.
abbrev pub in_directory : List ℕ → ℕ → ℕ
in_directory directory t = get_or directory t none

abbrev pub directory_view : View
directory_view w s = in_directory s.directory

-- What no step on the translation region changes, the directory apart.
pub record TranslationOnly (g : Geometry) (s s' : State) : Type 0 where
  pub data_pages : SamePages g Data s s'
  pub cache : s'.cache ≡ s.cache
  pub rest : SameRest Translation s.small s'.small

-- The follower's invariant: only the translation region and the directory have changed since the start.
abbrev pub since : Geometry → State → Invariant
since g s₀ w s = TranslationOnly g s₀ s

pub directory_follower : (g : Geometry) (s₀ : State) → Follower g Translation directory_follows 0 directory_view (since g s₀)
unfolding directory_names_it ◌>>=◌ set_directory give
directory_follower g s₀ =
    record {
      mover = record {
        moved = λ w k q s lengths inv owned here. record {
          no_operation = refl;
          flash = flash_as refl;
          head = head_same Translation refl;
          lengths = lengths_with_directory s lengths (length-set s.directory k q ∙ lengths.directory_fits);
          at_most_one = omega arith;
          inv = record { data_pages = inv.data_pages; cache = inv.cache; rest = inv.rest };
          renames = record {
            there = get_or-set_same s.directory k q none (omega (arith, lengths.directory_fits));
            elsewhere = λ j h apart. get_or-set_other s.directory k j q none apart;
          };
        };
        kept = λ w s s' lengths lengths' same inv. record {
          data_pages = same_trans inv.data_pages same.pages;
          cache = same.cache ∙ inv.cache;
          rest = rest_trans inv.rest same.rest;
        };
        seen = λ w s s' lengths lengths' same inv k h. ap (λ d. in_directory d k) same.directory;
      };
      settled = λ w s lengths inv. record {
        pages = same_refl;
        opened = refl;
        offset = refl;
        lengths = lengths;
        inv = inv;
        views = λ k h. refl;
        done = done_none g flash_refl;
        costs = omega (arith, cost_none);
      };
    }

-- After room has been made in the translation region.
pub record TranslationRoom (g : Geometry) (s : State) (o : Outcome (Unit {0})) : Type 0 where
  pub holds : Holds g Translation o.after (in_directory o.after.directory)
  pub room : o.after.small.translation_offset < g.P
  pub only : TranslationOnly g s o.after
  pub keeps : (t : ℕ) → t < M g
      → contents g o.after.chip (named t o.after.directory) ≡ contents g s.chip (named t s.directory)
  pub stores : (l : ℕ) → stored g o.after.chip o.after.directory l ≡ stored g s.chip s.directory l
  pub lengths : Lengths g o.after
  pub done : Done g s o.did o.after
  pub costs : cost o.did ≤ 2 * (g.P - 1) + 1

pub translation_room_law : (g : Geometry) (s : State) → Accepted g → Lengths g s → Holds g Translation s (in_directory s.directory)
    → TranslationRoom g s (make_room g Translation directory_follows s)
translation_room_law g s accepted lengths holds =
    let made = make_room_law (directory_follower g s) (accepted_region accepted Translation) s lengths holds start in
    let s' = (make_room g Translation directory_follows s).after in
    record {
      holds = made.holds;
      room = made.room;
      only = made.inv;
      keeps = made.keeps;
      stores = stored_same g s.chip s.directory s'.chip s'.directory accepted.W_from lengths.directory_fits
          made.lengths.directory_fits made.keeps;
      lengths = made.lengths;
      done = made.done;
      costs = omega (arith, made.costs);
    }
  where
    start : TranslationOnly g s s
    start = record { data_pages = same_refl; cache = refl; rest = rest_same Translation refl }
