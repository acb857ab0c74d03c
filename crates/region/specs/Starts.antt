-- What a collection starts with, once for a region and for whatever follows a moved page: its victim is a full block with an invalid
-- page, and the lowest erased block is open, with all of its pages to come. So the law of the copies holds from there on.
use Rattle.std.specs.Prelude.{ℕ, ◌≤◌, ◌<◌, ◌≡◌, refl, ◌≢◌, List, []}
use Rattle.std.proofs.Common.{sym, ap, subst, subst₂, ◌∙◌}
use Rattle.scope.specs.Geometry.{Geometry}
use Rattle.scope.specs.Regions.{Region, owners, page_in, HasBlock}
use Rattle.scope.specs.SmallRecord.{open_block, next_offset, opened}
use Rattle.scope.specs.Lent.{erased, decode, State, Mapping, with_small, state_of}
use Rattle.scope.specs.Blocks.{valid_pages}
use Rattle.scope.specs.Sound.{WhollyErased}
use Rattle.scope.specs.Room.{Following, erased_blocks, lowest_erased, victim, move_pages}
use Rattle.flash.specs.Bounded.{RegionBounded}
use Rattle.flash.specs.Lengths.{Lengths}
use Rattle.flash.specs.Heads.{opened_rest}
use Rattle.flash.specs.SamePages.{same_refl}
use Rattle.region.specs.Holds.{RegionFits, Maps, Holds, contents}
use Rattle.region.specs.Carried.{maps_viewed}
use Rattle.region.specs.Room.{VictimLaw, Crowded, is_crowded, victim_of_crowded}
use Rattle.region.specs.Blocks.{open_law}
use Rattle.region.specs.Elsewhere.{SameElsewhere, open_with, offset_with}
use Rattle.region.specs.Follower.{View, Invariant, Mover}
use Rattle.region.specs.Moving.{Copying, Keeps}
use Rattle.region.specs.Copied.{Copied, move_pages_law}

-- The lowest erased block is opened: of the state the open block and the offset alone change.
abbrev pub opened_lowest : Geometry → Region → State → State
opened_lowest g r s = with_small (opened r (lowest_erased g r s) s.small) s

module _ {g : Geometry} {r : Region} {follow : Following} {view : View} {Inv : Invariant} (F : Mover g r follow view Inv) where
  -- A step that changes only the region's own keeps all, if it keeps the region, and map and words as the view was before.
  pub within_region : (w : List Mapping) (s s' : State) → Copying g r view Inv w s → SameElsewhere g r s s' → Lengths g s'
      → RegionFits g r s'.chip s'.spare (open_block r s'.small) (next_offset r s'.small)
      → Maps g r s'.spare (view w s)
      → ((k : ℕ) → k < owners g r → contents g s'.chip (decode (view w s k)) ≡ contents g s.chip (decode (view w s k)))
      → Copying g r view Inv w s' × Keeps g r view w s w s'
  within_region w s s' copying elsewhere lengths fits maps keeps =
      let sees = F.seen w s s' copying.lengths lengths elsewhere copying.inv in (
        record {
          fits = fits;
          maps = maps_viewed sees maps;
          inv = F.kept w s s' copying.lengths lengths elsewhere copying.inv;
          lengths = lengths;
        },
        λ k h. ap (λ x. contents g s'.chip (decode x)) (sees k h) ∙ keeps k h,
      )

  -- The lowest erased block is opened.
  pub open_lowest_keeps : (s : State) → Copying g r view Inv [] s → g.P ≤ next_offset r s.small
      → HasBlock g r (lowest_erased g r s) → WhollyErased g s.spare (lowest_erased g r s)
      → Copying g r view Inv [] (opened_lowest g r s) × Keeps g r view [] s [] (opened_lowest g r s)
  open_lowest_keeps s copying full here empty =
      within_region [] s (opened_lowest g r s) copying
      (record { pages = same_refl; directory = refl; cache = refl; rest = opened_rest r (lowest_erased g r s) s.small }) copying.lengths
      (subst₂ (RegionFits g r _ _) (sym (open_with r _ _ s.small)) (sym (offset_with r _ _ s.small))
      (open_law (lowest_erased g r s) copying.fits full here empty))
      copying.maps (λ k h. refl)

-- Of the state with the block opened, s, and the victim v.
pub record Starts (g : Geometry) (r : Region) (view : View) (Inv : Invariant) (v : ℕ) (s : State) : Type 0 where
  pub in_region : HasBlock g r v
  pub closed : v ≢ open_block r s.small
  pub some_invalid : valid_pages g s.spare v < g.P
  pub copying : Copying g r view Inv [] s
  pub empty : next_offset r s.small ≡ 0

-- After n pages of it: the law of the definition.
pub copied_since : {g : Geometry} {r : Region} {follow : Following} {view : View} {Inv : Invariant} {v : ℕ} {s : State}
    → Mover g r follow view Inv → RegionBounded g r → Starts g r view Inv v s → (n : ℕ) → n ≤ g.P
    → Copied g r view Inv v n s (move_pages g r follow v n s)
copied_since {v = v} {s} F bounds starts n h =
    move_pages_law F bounds v s starts.in_region starts.closed starts.some_invalid n h starts.copying starts.empty

-- It does where the open block is full and fewer than two are erased, and each owner's words are as they were.
pub collection_starts : {g : Geometry} {r : Region} {follow : Following} {view : View} {Inv : Invariant}
    → Mover g r follow view Inv → (s : State) → RegionBounded g r → Lengths g s → Holds g r s (view [] s) → Inv [] s
    → g.P ≤ next_offset r s.small → erased_blocks g r s < 2
    → Starts g r view Inv (victim g r s) (opened_lowest g r s) × Keeps g r view [] s [] (opened_lowest g r s)
collection_starts {g} {r} {view = view} {Inv} F s bounds lengths holds inv full few = (
  record {
    in_region = law.in_region;
    closed = λ e. law.full 0 bounds.bounded.P_from
        (subst (λ b. state_of (page_in g b 0) s.spare ≡ erased) (sym (e ∙ open_with r (lowest_erased g r s) 0 s.small))
        (crowded.wholly_erased 0 bounds.bounded.P_from));
    some_invalid = law.some_invalid;
    copying = opened_so.0;
    empty = offset_with r (lowest_erased g r s) 0 s.small;
  },
  opened_so.1,
)
  where
    crowded : Crowded g r s.spare (lowest_erased g r s)
    crowded = is_crowded g r s _ _ holds.fits holds.besides full few

    law : VictimLaw g r s.spare (victim g r s)
    law = victim_of_crowded g r s _ _ _ bounds holds.fits crowded

    opened_so : Copying g r view Inv [] (opened_lowest g r s) × Keeps g r view [] s [] (opened_lowest g r s)
    opened_so = open_lowest_keeps F s (record { fits = holds.fits; maps = holds.maps; inv = inv; lengths = lengths }) full
        crowded.in_region crowded.wholly_erased
