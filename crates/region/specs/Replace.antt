-- The heart of every step that writes a page: the open block's next page is programmed for owner k, and the page that held k, if there
-- is one, is marked. Collections move pages so, update writes translation pages so, and write data pages.
use Rattle.std.specs.Prelude.{ℕ, suc, ◌<◌, ◌≡◌, refl, ◌≢◌, ◌⊎◌, List}
use Rattle.std.proofs.Common.{sym, ap, subst, ◌∙◌, ⊎_elim, inl, inr, arith, ne_eqb}
use Rattle.scope.specs.Geometry.{Geometry}
use Rattle.scope.specs.Regions.{Region, owners, page_in, HasPage}
use Rattle.scope.specs.Lent.{none, erased, valid, invalid, Entry, Place, Nowhere, decode, words_of, state_of, owner_of}
use Rattle.scope.specs.Sound.{PageFits, PagesFit, OwnersDiffer, Names}
use Rattle.flash.specs.Bounded.{RegionBounded, region_few}
use Rattle.flash.specs.Cases.{same?, last}
use Rattle.flash.specs.Pages.{PageSame}
use Rattle.flash.specs.Places.{other, page_other, page_in_region, page_in_same}
use Rattle.flash.specs.SamePages.{PagesSame}
use Rattle.region.specs.Holds.{RegionFits, Besides, Maps, Renames, contents, valid_page_named}
use Rattle.region.specs.Carried.{programmed_fits, page_fits_same, OwnerSame, names_kept, contents_kept}

-- Page q has been programmed for k, the old entry's page marked, and no other page has changed.
pub record Replaced (g : Geometry) (q k : ℕ) (words : List ℕ) (old : Entry) (chip spare chip' spare' : List ℕ) : Type 0 where
  pub new_state : state_of q spare' ≡ valid
  pub new_owner : owner_of q spare' ≡ k
  pub new_words : words_of g q chip' ≡ words
  pub old_state : (p : ℕ) → old ≡ Place p → state_of p spare' ≡ invalid
  pub old_owner : (p : ℕ) → old ≡ Place p → owner_of p spare' ≡ owner_of p spare
  pub rest : (p : ℕ) → p ≢ q → old ≢ Place p → PageSame g p chip spare chip' spare'

-- A page is the old entry's or not.
old? {ℓ} : {X : Type ℓ} (old : Entry) (p : ℕ) → (old ≡ Place p → X) → (old ≢ Place p → X) → X
old? (Place o) p f g = same? o p (λ e. f (ap Place e)) (λ ne. g (λ e. ne (cc)))
old? Nowhere p f g = g (λ e. let z : ◌≡◌ {A = ℕ} 0 1 = cc in omega arith)

-- A page number is no *none*.
pub place_of_page : (g : Geometry) (r : Region) (p : ℕ) → RegionBounded g r → HasPage g r p → decode p ≡ Place p
place_of_page g r p bounds here =
    rw (ne_eqb p none (omega (arith, here.1, region_few bounds.bounded r)))

-- What a replacement gives; of the map, once it names the new page for k.
pub record Replacement (g : Geometry) (r : Region) (k : ℕ) (words chip spare chip' spare' : List ℕ) (opened offset : ℕ)
    (view : ℕ → ℕ) : Type 0 where
  pub pages : Replaced g (page_in g opened offset) k words (decode (view k)) chip spare chip' spare'
  pub fits : RegionFits g r chip' spare' opened (suc offset)
  pub besides : Besides g r spare opened → Besides g r spare' opened
  pub elsewhere : PagesSame g (other r) chip spare chip' spare'
  pub maps : (view' : ℕ → ℕ) → Renames (owners g r) k (page_in g opened offset) view view' → Maps g r spare' view'
  pub written : (view' : ℕ → ℕ) → Renames (owners g r) k (page_in g opened offset) view view'
      → contents g chip' (decode (view' k)) ≡ words
  pub keeps : (view' : ℕ → ℕ) → Renames (owners g r) k (page_in g opened offset) view view'
      → (j : ℕ) → j < owners g r → j ≢ k → contents g chip' (decode (view' j)) ≡ contents g chip (decode (view j))

module _ (g : Geometry) (r : Region) (k : ℕ) (words chip spare chip' spare' : List ℕ) (opened offset : ℕ) (view : ℕ → ℕ)
    (bounds : RegionBounded g r) (fits : RegionFits g r chip spare opened offset) (room : offset < g.P)
    (maps : Maps g r spare view) (owned : k < owners g r)
    (did : Replaced g (page_in g opened offset) k words (decode (view k)) chip spare chip' spare') where
  abbrev q : ℕ
  q = page_in g opened offset

  here : HasPage g r q
  here = page_in_region g r opened offset fits.in_region room

  -- The old page is a valid page of the region, and k's.
  old_names : (p : ℕ) → decode (view k) ≡ Place p → Names g r spare k (Place p)
  old_names p e = subst (Names g r spare k) e (maps.names k owned)

  -- A page of the region is the new one, the old one or as before.
  each : (X : ℕ → Type 0) → X q → ((p : ℕ) → decode (view k) ≡ Place p → X p)
      → ((p : ℕ) → p ≢ q → decode (view k) ≢ Place p → PageSame g p chip spare chip' spare' → X p)
      → (p : ℕ) → X p
  each X new old rest p =
      same? p q
      (λ e. subst X (sym e) new)
      (λ apart. old? (decode (view k)) p (old p) (λ apart'. rest p apart apart' (did.rest p apart apart')))

  -- Programmed pages stay so, and erased ones but for the new one; one that is valid now is the new one or was so before.
  stays_programmed : (p : ℕ) → state_of p spare ≢ erased → state_of p spare' ≢ erased
  stays_programmed =
      each (λ p. state_of p spare ≢ erased → state_of p spare' ≢ erased)
      (λ _ e. omega (arith, did.new_state))
      (λ p old _ e. omega (arith, did.old_state p old))
      (λ p _ _ same h e. h (sym same.state ∙ e))

  stays_erased : (p : ℕ) → p ≢ q → state_of p spare ≡ erased → state_of p spare' ≡ erased
  stays_erased =
      each (λ p. p ≢ q → state_of p spare ≡ erased → state_of p spare' ≡ erased)
      (λ apart. absurd (apart refl))
      (λ p old _ h. absurd (omega (arith, (old_names p old).1)))
      (λ p _ _ same _ h. same.state ∙ h)

  was_valid : (p : ℕ) → p ≢ q → state_of p spare' ≡ valid → PageSame g p chip spare chip' spare'
  was_valid =
      each (λ p. p ≢ q → state_of p spare' ≡ valid → PageSame g p chip spare chip' spare')
      (λ apart. absurd (apart refl))
      (λ p old _ h. absurd (omega (arith, did.old_state p old)))
      (λ p _ _ same _ _. same)

  -- No other page than the new one is valid now and k's.
  only_new : (p : ℕ) → HasPage g r p → p ≢ q → state_of p spare' ≡ valid → owner_of p spare' ≢ k
  only_new p in_region apart is_valid is_owner =
      let same = was_valid p apart is_valid in
      let old = valid_page_named g r spare view k p fits.owners_differ maps owned in_region
      (sym same.state ∙ is_valid) (sym same.owner ∙ is_owner) in
      omega (arith, did.old_state p old)

  pages_fit' : PagesFit g r chip' spare'
  pages_fit' =
      each (λ p. HasPage g r p → PageFits g r chip' spare' p)
      (λ _. programmed_fits (inl did.new_state) (rw did.new_owner owned))
      (λ p old in_region. programmed_fits (inr (did.old_state p old))
      (rw (did.old_owner p old) ((fits.pages_fit p in_region).owned (λ e. omega (arith, (old_names p old).1)))))
      (λ p _ _ same in_region. page_fits_same same (fits.pages_fit p in_region))

  owners_differ' : OwnersDiffer g r spare'
  owners_differ' p p' in_p in_p' valid_p valid_p' e =
      same? p q
      (λ is_q. same? p' q (λ is_q'. is_q ∙ sym is_q')
      (λ apart'. absurd (only_new p' in_p' apart' valid_p' (sym e ∙ ap (λ x. owner_of x spare') is_q ∙ did.new_owner))))
      (λ apart. same? p' q
      (λ is_q'. absurd (only_new p in_p apart valid_p (e ∙ ap (λ x. owner_of x spare') is_q' ∙ did.new_owner)))
      (λ apart'.
      let same = was_valid p apart valid_p in
      let same' = was_valid p' apart' valid_p' in
      fits.owners_differ p p' in_p in_p' (sym same.state ∙ valid_p) (sym same'.state ∙ valid_p')
      (sym same.owner ∙ e ∙ same'.owner)))

  fits' : RegionFits g r chip' spare' opened (suc offset)
  fits' =
      record {
        pages_fit = pages_fit';
        owners_differ = owners_differ';
        in_region = fits.in_region;
        offset_fits = room;
        before_offset = λ i h. last i offset h
            (λ l. stays_programmed _ (fits.before_offset i l))
            (λ e. rw e (λ er. omega (arith, did.new_state)));
        from_offset = λ i h l. stays_erased _ (λ e. omega arith) (fits.from_offset i h (omega arith));
        others = λ b in_b apart. ⊎_elim
            (λ h. inl (λ i l. stays_erased _ (λ e. apart (page_in_same g b opened i offset l room e).0) (h i l)))
            (λ h. inr (λ i l. stays_programmed _ (h i l)))
            (fits.others b in_b apart);
      }

  besides' : Besides g r spare opened → Besides g r spare' opened
  besides' (b, in_b, apart, empty) =
      (b, in_b, apart, λ i l. stays_erased _ (λ e. apart (page_in_same g b opened i offset l room e).0) (empty i l))

  elsewhere' : PagesSame g (other r) chip spare chip' spare'
  elsewhere' =
      record {
        page = λ p in_other. did.rest p
            (λ e. page_other g r q p here in_other (sym e))
            (λ old. page_other g r p p (old_names p old).0 in_other refl);
      }

  -- The other owners' pages are neither the new one nor the old one.
  other_same : (j : ℕ) → j ≢ k → OwnerSame g r chip spare chip' spare' j
  other_same j apart =
      record {
        was = λ p _ is_valid is_owner. did.rest p
            (λ e. omega (arith, ap (λ x. state_of x spare) e, fits.from_offset offset room (omega arith)))
            (λ old. apart (sym is_owner ∙ (old_names p old).2));
        now = λ p _ is_valid is_owner. was_valid p
            (λ e. apart (sym is_owner ∙ ap (λ x. owner_of x spare') e ∙ did.new_owner)) is_valid;
      }

  new_place : (view' : ℕ → ℕ) → Renames (owners g r) k q view view' → decode (view' k) ≡ Place q
  new_place view' renames = ap decode renames.there ∙ place_of_page g r q bounds here

  pub replace_law : Replacement g r k words chip spare chip' spare' opened offset view
  replace_law =
      record {
        pages = did;
        fits = fits';
        besides = besides';
        elsewhere = elsewhere';
        maps = λ view' renames. record {
          names = λ j h. same? j k
              (λ e. rw (e, new_place view' renames) (here, did.new_state, did.new_owner))
              (λ apart. rw (renames.elsewhere j h apart) (names_kept (other_same j apart) (decode (view j)) (maps.names j h)));
        };
        written = λ view' renames. rw (new_place view' renames) did.new_words;
        keeps = λ view' renames j h apart. ap (λ x. contents g chip' (decode x)) (renames.elsewhere j h apart)
            ∙ contents_kept (other_same j apart) (decode (view j)) (maps.names j h);
      }
