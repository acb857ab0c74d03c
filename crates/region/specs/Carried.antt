-- Rule 1 of a page, by what was done to it; and what holds of a region, or of one owner in it, goes on to hold where its pages are as before.
use Rattle.std.specs.Prelude.{ℕ, ◌<◌, ◌≡◌, refl, ◌≢◌, ◌⊎◌, List}
use Rattle.std.proofs.Common.{sym, subst, ◌∙◌, ⊎_elim, inl, inr, arith}
use Rattle.scope.specs.Geometry.{Geometry}
use Rattle.scope.specs.Regions.{Region, owners, HasBlock, HasPage}
use Rattle.scope.specs.Lent.{erased, valid, invalid, Entry, Place, Nowhere, decode, State, state_of, owner_of}
use Rattle.scope.specs.Sound.{PageFits, OwnersDiffer, WhollyErased, Full, Names}
use Rattle.scope.specs.Laws.Applied.{SameFlash}
use Rattle.flash.specs.Moments.{PageErased}
use Rattle.flash.specs.Pages.{PageSame, page_word, page_alike}
use Rattle.flash.specs.Places.{page_in_region}
use Rattle.flash.specs.SamePages.{PagesSame, SamePages}
use Rattle.region.specs.Holds.{RegionFits, Besides, Maps, RegionHolds, contents}

-- ---- rule 1 of one page

-- Of one that is erased, and the other way round: by rule 1 a page with an erased state is erased as a whole. Of one that is programmed, and
-- of one that is as before.
pub erased_fits : {g : Geometry} {r : Region} {p : ℕ} {chip spare : List ℕ} → PageErased g p chip spare → PageFits g r chip spare p
erased_fits e =
    record {
      one_of_three = inl e.state;
      no_owner = λ _. e.owner;
      no_words = λ _. e.words;
      owned = λ ne. absurd (ne e.state);
    }

pub fits_erased : {g : Geometry} {r : Region} {p : ℕ} {chip spare : List ℕ}
    → PageFits g r chip spare p → state_of p spare ≡ erased → PageErased g p chip spare
fits_erased fits e = record { state = e; owner = fits.no_owner e; words = fits.no_words e }

pub programmed_fits : {g : Geometry} {r : Region} {p : ℕ} {chip spare : List ℕ}
    → (state_of p spare ≡ valid) ⊎ (state_of p spare ≡ invalid) → owner_of p spare < owners g r → PageFits g r chip spare p
programmed_fits {p = p} {spare = spare} state owner =
    record {
      one_of_three = inr state;
      no_owner = λ e. absurd (not_erased e);
      no_words = λ e. absurd (not_erased e);
      owned = λ _. owner;
    }
  where
    not_erased : state_of p spare ≢ erased
    not_erased e = ⊎_elim (λ h. omega arith) (λ h. omega arith) state

pub page_fits_same : {g : Geometry} {r : Region} {p : ℕ} {chip spare chip' spare' : List ℕ}
    → PageSame g p chip spare chip' spare' → PageFits g r chip spare p → PageFits g r chip' spare' p
page_fits_same same fits =
    record {
      one_of_three = rw same.state fits.one_of_three;
      no_owner = λ e. same.owner ∙ fits.no_owner (sym same.state ∙ e);
      no_words = λ e i h. page_word same i h ∙ fits.no_words (sym same.state ∙ e) i h;
      owned = λ e. rw same.owner (fits.owned (λ q. e (same.state ∙ q)));
    }

-- ---- an owner's page

-- Rule 2, where each valid page is as before.
pub owners_differ_kept : {g : Geometry} (r : Region) {chip spare chip' spare' : List ℕ}
    → ((p : ℕ) → HasPage g r p → state_of p spare' ≡ valid → PageSame g p chip spare chip' spare')
    → OwnersDiffer g r spare → OwnersDiffer g r spare'
owners_differ_kept r now differ p q in_p in_q valid_p valid_q e =
    let same_p = now p in_p valid_p in
    let same_q = now q in_q valid_q in
    differ p q in_p in_q (sym same_p.state ∙ valid_p) (sym same_q.state ∙ valid_q)
    (sym same_p.owner ∙ e ∙ same_q.owner)

-- The valid page of one owner, before or after, is as before.
pub record OwnerSame (g : Geometry) (r : Region) (chip spare chip' spare' : List ℕ) (k : ℕ) : Type 0 where
  pub was : (p : ℕ) → HasPage g r p → state_of p spare ≡ valid → owner_of p spare ≡ k → PageSame g p chip spare chip' spare'
  pub now : (p : ℕ) → HasPage g r p → state_of p spare' ≡ valid → owner_of p spare' ≡ k → PageSame g p chip spare chip' spare'

-- What names it still does, and leads to the same words.
module _ {g : Geometry} {r : Region} {chip spare chip' spare' : List ℕ} {k : ℕ} (same : OwnerSame g r chip spare chip' spare' k) where
  pub names_kept : (e : Entry) → Names g r spare k e → Names g r spare' k e
  names_kept (Place p) (here, is_valid, is_owner) =
      let as_before = same.was p here is_valid is_owner in
      (here, as_before.state ∙ is_valid, as_before.owner ∙ is_owner)
  names_kept Nowhere nobody =
      λ p here is_valid is_owner.
      let as_before = same.now p here is_valid is_owner in
      nobody p here (sym as_before.state ∙ is_valid) (sym as_before.owner ∙ is_owner)

  pub contents_kept : (e : Entry) → Names g r spare k e → contents g chip' e ≡ contents g chip e
  contents_kept (Place p) (here, is_valid, is_owner) = (same.was p here is_valid is_owner).words
  contents_kept Nowhere nobody = refl

pub maps_kept : {g : Geometry} {r : Region} {chip spare chip' spare' : List ℕ} {view : ℕ → ℕ}
    → ((k : ℕ) → k < owners g r → OwnerSame g r chip spare chip' spare' k) → Maps g r spare view → Maps g r spare' view
maps_kept {view = view} same maps =
    record { names = λ k owned. names_kept (same k owned) (decode (view k)) (maps.names k owned) }

-- A map that names the same for every owner.
pub maps_viewed : {g : Geometry} {r : Region} {spare : List ℕ} {view view' : ℕ → ℕ}
    → ((k : ℕ) → k < owners g r → view' k ≡ view k) → Maps g r spare view → Maps g r spare view'
maps_viewed {g} {r} {spare} same maps =
    record { names = λ k h. subst (λ x. Names g r spare k (decode x)) (sym (same k h)) (maps.names k h) }

-- ---- all pages of the region

-- Pages are as before where chip and spare are.
pub flash_pages : {g : Geometry} {r : Region} {s s' : State} → SameFlash s' s → SamePages g r s s'
flash_pages h = record { page = λ p _. page_alike h.chip h.spare }

module _ {g : Geometry} {r : Region} {chip spare chip' spare' : List ℕ} (same : PagesSame g r chip spare chip' spare') where
  wholly_erased_same : (b : ℕ) → HasBlock g r b → WhollyErased g spare b → WhollyErased g spare' b
  wholly_erased_same b here h i k = (same.page _ (page_in_region g r b i here k)).state ∙ h i k

  full_same : (b : ℕ) → HasBlock g r b → Full g spare b → Full g spare' b
  full_same b here h i k e = h i k (sym (same.page _ (page_in_region g r b i here k)).state ∙ e)

  pub region_fits_same : {opened offset : ℕ} → RegionFits g r chip spare opened offset → RegionFits g r chip' spare' opened offset
  region_fits_same {opened} {offset} fits =
      record {
        pages_fit = λ p here. page_fits_same (same.page p here) (fits.pages_fit p here);
        owners_differ = owners_differ_kept r (λ p here _. same.page p here) fits.owners_differ;
        in_region = fits.in_region;
        offset_fits = fits.offset_fits;
        before_offset = λ i k e.
            fits.before_offset i k
            (sym (same.page _ (page_in_region g r opened i fits.in_region (omega (arith, fits.offset_fits)))).state ∙ e);
        from_offset = λ i k l.
            (same.page _ (page_in_region g r opened i fits.in_region k)).state ∙ fits.from_offset i k l;
        others = λ b here apart.
            ⊎_elim (λ h. inl (wholly_erased_same b here h)) (λ h. inr (full_same b here h)) (fits.others b here apart);
      }

  pub besides_same : {opened : ℕ} → Besides g r spare opened → Besides g r spare' opened
  besides_same (b, here, apart, empty) = (b, here, apart, wholly_erased_same b here empty)

  owner_same : (k : ℕ) → OwnerSame g r chip spare chip' spare' k
  owner_same k = record { was = λ p here _ _. same.page p here; now = λ p here _ _. same.page p here }

  pub contents_same : (k : ℕ) (e : Entry) → Names g r spare k e → contents g chip' e ≡ contents g chip e
  contents_same k = contents_kept (owner_same k)

  pub maps_same : {view : ℕ → ℕ} → Maps g r spare view → Maps g r spare' view
  maps_same = maps_kept (λ k _. owner_same k)

  pub holds_same : {opened offset : ℕ} {view : ℕ → ℕ}
      → RegionHolds g r chip spare opened offset view → RegionHolds g r chip' spare' opened offset view
  holds_same holds =
      record {
        fits = region_fits_same holds.fits;
        besides = besides_same holds.besides;
        maps = maps_same holds.maps;
      }
