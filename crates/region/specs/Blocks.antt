-- What opening and erasing a block keep of a region.
use Rattle.std.specs.Prelude.{ℕ, ◌/◌, ◌%◌, ◌≤◌, ◌<◌, ◌≡◌, ◌≢◌, List}
use Rattle.std.proofs.Common.{sym, ap, subst, ◌∙◌, ⊎_elim, inl, inr, arith}
use Rattle.scope.specs.Geometry.{Geometry}
use Rattle.scope.specs.Regions.{Region, owners, page_in, HasBlock, HasPage}
use Rattle.scope.specs.Lent.{erased, valid, decode, State, state_of}
use Rattle.scope.specs.Sound.{PageFits, WhollyErased}
use Rattle.flash.specs.Moments.{PageErased, Outside}
use Rattle.flash.specs.Cases.{same?}
use Rattle.flash.specs.Pages.{PageSame, Erased}
use Rattle.flash.specs.Places.{in_block, outside_block}
use Rattle.region.specs.Holds.{RegionFits, Besides, Maps, contents}
use Rattle.region.specs.Carried.{erased_fits, page_fits_same, owners_differ_kept, OwnerSame, contents_kept, maps_kept}

-- A wholly erased block is opened where the open one is full.
pub open_law : {g : Geometry} {r : Region} {chip spare : List ℕ} {opened offset : ℕ} (e : ℕ)
    → RegionFits g r chip spare opened offset → g.P ≤ offset → HasBlock g r e → WhollyErased g spare e
    → RegionFits g r chip spare e 0
open_law {opened = opened} e fits full here empty =
    record {
      pages_fit = fits.pages_fit;
      owners_differ = fits.owners_differ;
      in_region = here;
      offset_fits = omega arith;
      before_offset = λ i h. absurd (omega arith);
      from_offset = λ i h _. empty i h;
      others = λ b in_b apart. same? b opened
          (λ e. inr (rw e (λ i h. fits.before_offset i (omega arith))))
          (λ ne. fits.others b in_b ne);
    }

-- What an erase keeps of a region: all of it, with any map, and it leaves an erased block besides the open one.
pub record Erasure (g : Geometry) (r : Region) (s s' : State) (opened offset : ℕ) : Type 0 where
  pub fits : RegionFits g r s'.chip s'.spare opened offset
  pub besides : Besides g r s'.spare opened
  pub maps : (view : ℕ → ℕ) → Maps g r s.spare view → Maps g r s'.spare view
  pub keeps : (view : ℕ → ℕ) → Maps g r s.spare view → (k : ℕ) → k < owners g r
      → contents g s'.chip (decode (view k)) ≡ contents g s.chip (decode (view k))

-- A block without a valid page is erased, and it is not the open one.
module _ (g : Geometry) (r : Region) (s s' : State) (opened offset v : ℕ)
    (fits : RegionFits g r s.chip s.spare opened offset) (here : HasBlock g r v) (closed : v ≢ opened)
    (none_valid : (i : ℕ) → i < g.P → state_of (page_in g v i) s.spare ≢ valid) (did : Erased g v s s') where
  -- A page of the region is in the block, and erased, or as before.
  each : (X : ℕ → Type 0) → ((i : ℕ) → i < g.P → PageErased g (page_in g v i) s'.chip s'.spare → X (page_in g v i))
      → ((p : ℕ) → PageSame g p s.chip s.spare s'.chip s'.spare → X p)
      → (p : ℕ) → HasPage g r p → X p
  each X inside outside p in_region =
      let at = in_block g r p in_region in
      same? (p / g.P) v
      (λ e. subst X (sym (at.is_page ∙ ap (λ b. page_in g b (p % g.P)) e))
      (inside (p % g.P) at.below_P (did.pages (p % g.P) at.below_P)))
      (λ ne. outside p (did.others p
      (subst (Outside g v) (sym at.is_page) (outside_block g v (p / g.P) (p % g.P) at.below_P ne))))

  other_block : (b i : ℕ) → b ≢ v → i < g.P → PageSame g (page_in g b i) s.chip s.spare s'.chip s'.spare
  other_block b i ne h = did.others (page_in g b i) (outside_block g v b i h ne)

  -- The valid pages are those that were so before.
  was_valid : (p : ℕ) → HasPage g r p → state_of p s'.spare ≡ valid → PageSame g p s.chip s.spare s'.chip s'.spare
  was_valid =
      each (λ p. state_of p s'.spare ≡ valid → PageSame g p s.chip s.spare s'.chip s'.spare)
      (λ i h erased is_valid. absurd (omega (arith, erased.state)))
      (λ p same _. same)

  stays_valid : (p : ℕ) → HasPage g r p → state_of p s.spare ≡ valid → PageSame g p s.chip s.spare s'.chip s'.spare
  stays_valid =
      each (λ p. state_of p s.spare ≡ valid → PageSame g p s.chip s.spare s'.chip s'.spare)
      (λ i h _ is_valid. absurd (none_valid i h is_valid))
      (λ p same _. same)

  erase_fits : RegionFits g r s'.chip s'.spare opened offset
  erase_fits =
      record {
        pages_fit = λ p in_region. each (λ p. PageFits g r s.chip s.spare p → PageFits g r s'.chip s'.spare p)
            (λ i h e _. erased_fits e)
            (λ p same. page_fits_same same) p in_region (fits.pages_fit p in_region);
        owners_differ = owners_differ_kept r was_valid fits.owners_differ;
        in_region = fits.in_region;
        offset_fits = fits.offset_fits;
        before_offset = λ i h e. fits.before_offset i h
            (sym (other_block opened i (λ e. closed (sym e)) (omega (arith, fits.offset_fits))).state ∙ e);
        from_offset = λ i h l. (other_block opened i (λ e. closed (sym e)) h).state ∙ fits.from_offset i h l;
        others = λ b in_b apart. same? b v
            (λ e. inl (rw e (λ i h. (did.pages i h).state)))
            (λ ne. ⊎_elim
            (λ empty. inl (λ i h. (other_block b i ne h).state ∙ empty i h))
            (λ full. inr (λ i h e. full i h (sym (other_block b i ne h).state ∙ e)))
            (fits.others b in_b apart));
      }

  owner_same : (k : ℕ) → OwnerSame g r s.chip s.spare s'.chip s'.spare k
  owner_same k =
      record { was = λ p in_region h _. stays_valid p in_region h; now = λ p in_region h _. was_valid p in_region h }

  pub erase_law : Erasure g r s s' opened offset
  erase_law =
      record {
        fits = erase_fits;
        besides = (v, here, closed, λ i h. (did.pages i h).state);
        maps = λ view. maps_kept (λ k _. owner_same k);
        keeps = λ view maps k owned. contents_kept (owner_same k) (decode (view k)) (maps.names k owned);
      }
