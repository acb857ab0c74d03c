-- What holds of one region, in the parts that a collection keeps and loses: rules 1 to 3 but for the erased block besides the open
-- one; that block; and a map from owners to places, which for translation pages is the directory (rule 4) and for data pages the
-- current places (rule 6).
use Rattle.std.specs.Prelude.{ℕ, ◌≤◌, ◌<◌, ◌≡◌, ◌≢◌, ◌⊎◌, List, []}
use Rattle.std.proofs.Common.{sym, ap, ◌∙◌}
use Rattle.scope.specs.Geometry.{Geometry}
use Rattle.scope.specs.Regions.{Region, owners, page_in, HasBlock, HasPage}
use Rattle.scope.specs.SmallRecord.{open_block, next_offset}
use Rattle.scope.specs.Lent.{erased, valid, Entry, Place, Nowhere, decode, State, words_of, state_of, owner_of}
use Rattle.scope.specs.Sound.{PagesFit, OwnersDiffer, WhollyErased, Full, BlocksFit, Names}

-- Rules 1 and 2 of a region, and rule 3 without its last sentence, which a collection breaks until it erases its victim.
pub record RegionFits (g : Geometry) (r : Region) (chip spare : List ℕ) (opened offset : ℕ) : Type 0 where
  pub pages_fit : PagesFit g r chip spare
  pub owners_differ : OwnersDiffer g r spare
  pub in_region : HasBlock g r opened
  pub offset_fits : offset ≤ g.P
  pub before_offset : (i : ℕ) → i < offset → state_of (page_in g opened i) spare ≢ erased
  pub from_offset : (i : ℕ) → i < g.P → offset ≤ i → state_of (page_in g opened i) spare ≡ erased
  pub others : (b : ℕ) → HasBlock g r b → b ≢ opened → WhollyErased g spare b ⊎ Full g spare b

-- "Each region has a wholly erased block besides its open one."
abbrev pub Besides : Geometry → Region → List ℕ → ℕ → Type 0
Besides g r spare opened = (b : ℕ) × HasBlock g r b × (b ≢ opened) × WhollyErased g spare b

-- A map names, for each owner of the region, "the valid page with that owner; *none* where there isn't one".
pub record Maps (g : Geometry) (r : Region) (spare : List ℕ) (view : ℕ → ℕ) : Type 0 where
  pub names : (k : ℕ) → k < owners g r → Names g r spare k (decode (view k))

-- The words that an entry leads to; none at all where it is nowhere, for a page has at least one.
abbrev pub contents : Geometry → List ℕ → Entry → List ℕ
contents g chip (Place p) = words_of g p chip
contents g chip Nowhere = []

-- A map that names q for k, and for the other owners below n what another map names.
pub record Renames (n k q : ℕ) (view view' : ℕ → ℕ) : Type 0 where
  pub there : view' k ≡ q
  pub elsewhere : (j : ℕ) → j < n → j ≢ k → view' j ≡ view j

-- All of it together: what holds between steps.
pub record RegionHolds (g : Geometry) (r : Region) (chip spare : List ℕ) (opened offset : ℕ) (view : ℕ → ℕ) : Type 0 where
  pub fits : RegionFits g r chip spare opened offset
  pub besides : Besides g r spare opened
  pub maps : Maps g r spare view

abbrev pub Holds : Geometry → Region → State → (ℕ → ℕ) → Type 0
Holds g r s view = RegionHolds g r s.chip s.spare (open_block r s.small) (next_offset r s.small) view

module _ (g : Geometry) (r : Region) (chip spare : List ℕ) (opened offset : ℕ) where
  -- The two parts are rules 1 to 3 of the region.
  pub rules_fit : PagesFit g r chip spare → OwnersDiffer g r spare → BlocksFit g r spare opened offset
      → RegionFits g r chip spare opened offset
  rules_fit one two three =
      record {
        pages_fit = one;
        owners_differ = two;
        in_region = three.in_region;
        offset_fits = three.offset_fits;
        before_offset = three.before_offset;
        from_offset = three.from_offset;
        others = three.others;
      }

  pub fits_blocks : RegionFits g r chip spare opened offset → Besides g r spare opened → BlocksFit g r spare opened offset
  fits_blocks fits besides =
      record {
        in_region = fits.in_region;
        offset_fits = fits.offset_fits;
        before_offset = fits.before_offset;
        from_offset = fits.from_offset;
        others = fits.others;
        besides = besides;
      }

-- The valid page that k owns is the one that the map names.
pub valid_page_named : (g : Geometry) (r : Region) (spare : List ℕ) (view : ℕ → ℕ) (k p : ℕ)
    → OwnersDiffer g r spare → Maps g r spare view → k < owners g r
    → HasPage g r p → state_of p spare ≡ valid → owner_of p spare ≡ k → decode (view k) ≡ Place p
valid_page_named g r spare view k p differ maps owned here is_valid is_owner = go (decode (view k)) (maps.names k owned)
  where
    go : (e : Entry) → Names g r spare k e → e ≡ Place p
    go (Place q) (there, valid_q, owner_q) = ap Place (differ q p there here valid_q is_valid (owner_q ∙ sym is_owner))
    go Nowhere nobody = absurd (nobody p here is_valid is_owner)
