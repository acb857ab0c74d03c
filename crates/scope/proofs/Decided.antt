-- Each test of Decisions.antt decides its rule of Sound.antt, `sound` decides Sound, and `accepted` decides Accepted.
use Rattle.std.specs.Prelude.{ℕ, ◌+◌, ◌*◌, ◌-◌, ◌≤◌, ◌<◌, ◌≢◌, ◌⊎◌, Bool, ◌&&◌, List, eqb}
use Rattle.std.proofs.Math.Path.{◌≡◌, refl, sym, subst}
use Rattle.std.proofs.Common.{◌∙◌, inl, inr, true≢false, arith}
use Rattle.std.proofs.Math.Bool.{true, false}
use Rattle.std.proofs.Math.Dec.{ltb}
use borrow.Author.Tests.{ltb-true, ltb-false}
use Rattle.scope.specs.Counting.{all, some}
use Rattle.scope.specs.Geometry.{Geometry, M, Accepted, accepted, within, most_blocks, most_pages_in_block}
use Rattle.scope.specs.Regions.{Region, Data, Translation, owners, page_in, first_block, region_blocks, first_page, region_pages, HasBlock, HasPage}
use Rattle.scope.specs.SmallRecord.{SmallRecord, open_block, next_offset}
use Rattle.scope.specs.Lent.{none, erased, valid, invalid, Entry, Place, Nowhere, decode, State, most_protected, word_of, state_of, owner_of, named, logical_at, physical_at, changed_at}
use Rattle.scope.specs.Blocks.{wholly_erased, no_erased_page}
use Rattle.scope.specs.Sound.{PageFits, PagesFit, OwnersDiffer, WhollyErased, Full, BlocksFit, Names, DirectoryNames, EntriesFit, ProtectedFit, stored, current, PlacesHold, UnchangedAgree, Sound}
use Rattle.scope.specs.Decisions.{has_block, has_page, page_fits, pages_fit, owners_differ, blocks_fit, names, directory_names, entries_fit, protected_fit, none_past_L, places_hold, unchanged_agree, sound}
use Rattle.scope.specs.Laws.Decides.{Decides, by_equal, by_below, by_most, by_true, by_same, by_and, by_or, by_not, by_implied, by_cond, by_all, by_some}

-- The numbers from `first` on, n of them: the pages or the blocks of a region.
shifted : (first p : ℕ) → first ≤ p → first + (p - first) ≡ p
shifted first p h = omega arith

by_range : {f : ℕ → Bool} {X : ℕ → Type 0} (first n : ℕ) → ((p : ℕ) → Decides (f p) (X p))
    → Decides (all n (λ i. f (first + i))) ((p : ℕ) → (first ≤ p) × (p < first + n) → X p)
by_range {f} {X} first n d =
    by_same
    (λ h p q. subst X (shifted first p q.0) (h (p - first) (omega arith)))
    (λ h i l. h (first + i) (omega arith))
    (by_all n (λ i. d (first + i)))

by_some_range : {f : ℕ → Bool} {X : ℕ → Type 0} (first n : ℕ) → ((p : ℕ) → Decides (f p) (X p))
    → Decides (some n (λ i. f (first + i))) ((p : ℕ) × ((first ≤ p) × (p < first + n)) × X p)
by_some_range {f} {X} first n d =
    by_same
    (λ x. (first + x.0, omega (arith, x.1), x.2))
    (λ x. (x.0 - first, omega (arith, x.1), subst X (sym (shifted first x.0 x.1.0)) x.2))
    (by_some n (λ i. d (first + i)))

by_within : (from x to : ℕ) → Decides (within from x to) ((from ≤ x) × (x ≤ to))
by_within from x to = by_and (by_most from x) (by_most x to)

module _ (g : Geometry) where
  pub accepted_decided : Decides (accepted g) (Accepted g)
  unfolding accepted
  accepted_decided =
      by_same
      (λ x. record {
        P_from = x.0.0.0.0.0.0;
        P_to = x.0.0.0.0.0.1;
        W_from = x.0.0.0.0.1.0;
        W_to = x.0.0.0.0.1.1;
        D_from = x.0.0.0.1.0.0;
        T_from = x.0.0.0.1.0.1;
        D+T_to = x.0.0.0.1.1;
        L_from = x.0.0.1.0;
        L_to = x.0.0.1.1;
        M_from = x.0.1.0;
        M_to = x.0.1.1;
        C_from = x.1.0;
        C_to = x.1.1;
      })
      (λ a. ((((((a.P_from, a.P_to), (a.W_from, a.W_to)), ((a.D_from, a.T_from), a.D+T_to)), (a.L_from, a.L_to)), (a.M_from, a.M_to)), (a.C_from, a.C_to)))
      (by_and (by_and (by_and (by_and (by_and
      (by_within 1 g.P most_pages_in_block)
      (by_within 1 g.W 512))
      (by_and (by_and (by_most 2 g.D) (by_most 2 g.T)) (by_most (g.D + g.T) most_blocks)))
      (by_within 1 g.L ((g.D - 1) * g.P - 1)))
      (by_within 1 (M g) ((g.T - 1) * g.P - 1)))
      (by_within 1 g.C 4096))

  module _ (r : Region) (chip spare : List ℕ) where
    page_fits_decided : (p : ℕ) → Decides (page_fits g r chip spare p) (PageFits g r chip spare p)
    unfolding page_fits
    page_fits_decided p =
        by_same
        (λ x. record {
          one_of_three = x.0;
          no_owner = λ e. (x.1.0 e).0;
          no_words = λ e. (x.1.0 e).1;
          owned = x.1.1;
        })
        (λ f. (f.one_of_three, (λ e. (f.no_owner e, f.no_words e), f.owned)))
        (by_and
        (by_or (by_equal (state_of p spare) erased)
        (by_or (by_equal (state_of p spare) valid) (by_equal (state_of p spare) invalid)))
        (by_cond (by_equal (state_of p spare) erased)
        (by_and (by_equal (owner_of p spare) none) (by_all g.W (λ i. by_equal (word_of g p i chip) erased)))
        (by_below (owner_of p spare) (owners g r))))

    pub pages_fit_decided : Decides (pages_fit g r chip spare) (PagesFit g r chip spare)
    unfolding pages_fit
    pages_fit_decided = by_range _ _ page_fits_decided

  -- The tests of a block.
  pub wholly_erased_decided : (spare : List ℕ) (b : ℕ) → Decides (wholly_erased g spare b) (WhollyErased g spare b)
  wholly_erased_decided spare b = by_all g.P (λ i. by_equal (state_of (page_in g b i) spare) erased)

  pub full_decided : (spare : List ℕ) (b : ℕ) → Decides (no_erased_page g spare b) (Full g spare b)
  full_decided spare b = by_all g.P (λ i. by_not (by_equal (state_of (page_in g b i) spare) erased))

  -- Two pages that the test of rule 2 meets, the higher one first.
  Clash : List ℕ → ℕ → ℕ → Type 0
  Clash spare p q = ((state_of p spare ≡ valid) × (state_of q spare ≡ valid)) × (owner_of p spare ≡ owner_of q spare)

  module _ (r : Region) (spare : List ℕ) where
    NoClashBelow : Type 0
    NoClashBelow =
        (i : ℕ) → i < region_pages g r → (j : ℕ) → j < i → Clash spare (first_page g r + i) (first_page g r + j) → ⊥

    higher_first : NoClashBelow → (p q : ℕ) → HasPage g r p → HasPage g r q → q < p → Clash spare p q → ⊥
    unfolding NoClashBelow
    higher_first h p q hp hq l =
        subst (λ (x : ℕ). Clash spare x q → ⊥) (shifted (first_page g r) p hp.0)
        (subst (λ (y : ℕ). Clash spare (first_page g r + (p - first_page g r)) y → ⊥) (shifted (first_page g r) q hq.0)
        (h (p - first_page g r) (omega arith) (q - first_page g r) (omega arith)))

    no_clash_differ : NoClashBelow → OwnersDiffer g r spare
    unfolding Clash
    no_clash_differ h p q hp hq vp vq e = go (ltb p q) refl (ltb q p) refl
      where
        go : (b : Bool) → ltb p q ≡ b → (c : Bool) → ltb q p ≡ c → p ≡ q
        go true l c m = absurd (higher_first h q p hq hp (ltb-true p q l) ((vq, vp), sym e))
        go false l true m = absurd (higher_first h p q hp hq (ltb-true q p m) ((vp, vq), e))
        go false l false m = omega (arith, ltb-false p q l, ltb-false q p m)

    pub owners_differ_decided : Decides (owners_differ g r spare) (OwnersDiffer g r spare)
    unfolding owners_differ Clash NoClashBelow
    owners_differ_decided =
        by_same
        no_clash_differ
        (λ d i h j l x. absurd (omega (arith, d (first_page g r + i) (first_page g r + j) (omega arith) (omega arith) x.0.0 x.0.1 x.1)))
        (by_all _ (λ i. by_all i (λ j. by_not
        (by_and
        (by_and (by_equal (state_of (first_page g r + i) spare) valid) (by_equal (state_of (first_page g r + j) spare) valid))
        (by_equal (owner_of (first_page g r + i) spare) (owner_of (first_page g r + j) spare))))))

    has_block_decided : (b : ℕ) → Decides (has_block g r b) (HasBlock g r b)
    has_block_decided b = by_and (by_most (first_block g r) b) (by_below b (first_block g r + region_blocks g r))

    has_page_decided : (p : ℕ) → Decides (has_page g r p) (HasPage g r p)
    has_page_decided p = by_and (by_most (first_page g r) p) (by_below p (first_page g r + region_pages g r))

    or_else : {X : Type 0} (a b : ℕ) → (a ≡ b) ⊎ X → a ≢ b → X
    or_else a b (inl e) n = absurd (n e)
    or_else a b (inr x) n = x

    or_equal : {X : Type 0} (a b : ℕ) → (a ≢ b → X) → (a ≡ b) ⊎ X
    or_equal {X} a b f = go (eqb a b) refl
      where
        go : (c : Bool) → eqb a b ≡ c → (a ≡ b) ⊎ X
        go true e = inl ((by_equal a b).holds e)
        go false e = inr (f (λ q. let z : ◌≡◌ {A = Bool} true false = sym ((by_equal a b).passes q) ∙ e in absurd (true≢false z)))

    pub blocks_fit_decided : (opened offset : ℕ) → Decides (blocks_fit g r spare opened offset) (BlocksFit g r spare opened offset)
    unfolding blocks_fit
    blocks_fit_decided opened offset =
        by_same
        (λ x. record {
          in_region = x.0.0.0.0;
          offset_fits = x.0.0.0.1;
          before_offset = λ i h. (x.0.0.1 i (omega (arith, x.0.0.0.1))).0 h;
          from_offset = λ i h l. (x.0.0.1 i h).1 (λ m. omega arith);
          others = λ b h n. or_else b opened (x.0.1 b h) n;
          besides = (x.1.0, x.1.1, x.1.2.0, x.1.2.1);
        })
        (λ f. (
          (
            ((f.in_region, f.offset_fits), λ i h. (f.before_offset i, λ m. f.from_offset i h (omega arith))),
            λ b h. or_equal b opened (f.others b h),
          ),
          (f.besides.0, f.besides.1, (f.besides.2, f.besides.3)),
        ))
        (by_and (by_and (by_and (by_and
        (has_block_decided opened)
        (by_most offset g.P))
        (by_all g.P (λ i. by_cond (by_below i offset)
        (by_not (by_equal (state_of (page_in g opened i) spare) erased))
        (by_equal (state_of (page_in g opened i) spare) erased))))
        (by_range _ _ (λ b. by_or (by_equal b opened) (by_or (wholly_erased_decided spare b) (full_decided spare b)))))
        (by_some_range _ _ (λ b. by_and (by_not (by_equal b opened)) (wholly_erased_decided spare b))))

    names_decided : (k : ℕ) (e : Entry) → Decides (names g r spare k e) (Names g r spare k e)
    names_decided k (Place p) =
        by_same
        (λ x. (x.0.0, x.0.1, x.1))
        (λ x. ((x.0, x.1), x.2))
        (by_and (by_and (has_page_decided p) (by_equal (state_of p spare) valid)) (by_equal (owner_of p spare) k))
    names_decided k Nowhere =
        by_range _ _ (λ p. by_implied (by_equal (state_of p spare) valid) (by_not (by_equal (owner_of p spare) k)))

  pub directory_names_decided : (spare directory : List ℕ)
      → Decides (directory_names g spare directory) (DirectoryNames g spare directory)
  unfolding directory_names
  directory_names_decided spare directory = by_all (M g) (λ t. names_decided Translation spare t (named t directory))

  -- Two used entries that the test of rule 5 meets, the later one first.
  all_different : (cache : List ℕ) (used : ℕ)
      → ((i : ℕ) → i < used → (j : ℕ) → j < i → logical_at j cache ≢ logical_at i cache)
      → (i j : ℕ) → i < used → j < used → logical_at i cache ≡ logical_at j cache → i ≡ j
  all_different cache used h i j hi hj e = go (ltb i j) refl (ltb j i) refl
    where
      go : (b : Bool) → ltb i j ≡ b → (c : Bool) → ltb j i ≡ c → i ≡ j
      go true l c m = absurd (h j hj i (ltb-true i j l) e)
      go false l true m = absurd (h i hi j (ltb-true j i m) (sym e))
      go false l false m = omega (arith, ltb-false i j l, ltb-false j i m)

  pub entries_fit_decided : (cache : List ℕ) (used : ℕ) → Decides (entries_fit g cache used) (EntriesFit g cache used)
  unfolding entries_fit
  entries_fit_decided cache used =
      by_same
      (λ x. record {
        at_most = x.0;
        below_L = λ i h. ((x.1 i (omega (arith, x.0))).0 h).0.0;
        different = all_different cache used (λ i h j l. ((x.1 i (omega (arith, x.0))).0 h).1 j l);
        changed_fits = λ i h. ((x.1 i (omega (arith, x.0))).0 h).0.1;
        unused = λ i h l. let u = (x.1 i h).1 (λ m. omega arith) in (u.0.0, u.0.1, u.1);
      })
      (λ f. (
        f.at_most,
        λ i h. (
          (λ l. ((f.below_L i l, f.changed_fits i l), λ j m e. omega (arith, f.different j i (omega arith) l e))),
          (λ n. let u = f.unused i h (omega arith) in ((u.0, u.1), u.2)),
        ),
      ))
      (by_and (by_most used g.C)
      (by_all g.C (λ i. by_cond (by_below i used)
      (by_and
      (by_and (by_below (logical_at i cache) g.L) (by_most (changed_at i cache) 1))
      (by_all i (λ j. by_not (by_equal (logical_at j cache) (logical_at i cache)))))
      (by_and
      (by_and (by_equal (logical_at i cache) none) (by_equal (physical_at i cache) none))
      (by_equal (changed_at i cache) none)))))

  pub protected_fit_decided : (r : SmallRecord) → Decides (protected_fit g r) (ProtectedFit g r)
  unfolding protected_fit
  protected_fit_decided r =
      by_same
      (λ x. record { at_most_half = x.0; at_most_used = x.1 })
      (λ f. (f.at_most_half, f.at_most_used))
      (by_and (by_most r.protected (most_protected g)) (by_most r.protected r.used))

  -- The words past L of the page that an entry of the directory names.
  NonePastL : List ℕ → ℕ → Entry → Type 0
  NonePastL chip t e = (q i : ℕ) → e ≡ Place q → i < g.W → g.L ≤ t * g.W + i → word_of g q i chip ≡ none

  none_past_L_decided : (chip : List ℕ) (t : ℕ) (e : Entry) → Decides (none_past_L g chip t e) (NonePastL chip t e)
  unfolding NonePastL
  none_past_L_decided chip t (Place p) =
      by_same
      (λ x q i e h l. let s : q ≡ p = cc in subst (λ (y : ℕ). word_of g y i chip ≡ none) (sym s) (x i h l))
      (λ x i h l. x p i refl h l)
      (by_all g.W (λ i. by_implied (by_most g.L (t * g.W + i)) (by_equal (word_of g p i chip) none)))
  none_past_L_decided chip t Nowhere =
      by_same (λ (u : Unit {0}) q i e h l. let z : ◌≡◌ {A = ℕ} 0 1 = cc in absurd (omega arith)) (λ x. tt) by_true

  pub places_hold_decided : (s : State) → Decides (places_hold g s) (PlacesHold g s)
  unfolding places_hold NonePastL
  places_hold_decided s =
      by_same
      (λ x. record { current_place = x.0; past_L = λ t q i h e. x.1 t h q i e })
      (λ f. (f.current_place, λ t h q i e. f.past_L t q i h e))
      (by_and
      (by_all g.L (λ l. names_decided Data s.spare l (decode (current g s l))))
      (by_all (M g) (λ t. none_past_L_decided s.chip t (named t s.directory))))

  pub unchanged_agree_decided : (s : State) → Decides (unchanged_agree g s) (UnchangedAgree g s)
  unfolding unchanged_agree
  unchanged_agree_decided s =
      by_all g.C (λ i.
      by_implied (by_below i s.small.used)
      (by_implied (by_equal (changed_at i s.cache) 0)
      (by_equal (physical_at i s.cache) (stored g s.chip s.directory (logical_at i s.cache)))))

  -- A rule of both regions.
  by_region : {f : Region → Bool} {X : Region → Type 0} → ((r : Region) → Decides (f r) (X r))
      → Decides (f Data && f Translation) ((r : Region) → X r)
  by_region {f} {X} d = by_same both (λ h. (h Data, h Translation)) (by_and (d Data) (d Translation))
    where
      both : X Data × X Translation → (r : Region) → X r
      both x Data = x.0
      both x Translation = x.1

  pub sound_decided : (s : State) → Decides (sound g s) (Sound g s)
  unfolding sound
  sound_decided s =
      by_same
      (λ x. record {
        rule_1 = x.0.0.0.0.0.0;
        rule_2 = x.0.0.0.0.0.1;
        rule_3 = x.0.0.0.0.1;
        rule_4 = x.0.0.0.1;
        rule_5 = x.0.0.1.0;
        rule_5_protected = x.0.0.1.1;
        rule_6 = x.0.1;
        rule_7 = x.1;
      })
      (λ f. ((((((f.rule_1, f.rule_2), f.rule_3), f.rule_4), (f.rule_5, f.rule_5_protected)), f.rule_6), f.rule_7))
      (by_and (by_and (by_and (by_and (by_and (by_and
      (by_region (λ r. pages_fit_decided r s.chip s.spare))
      (by_region (λ r. owners_differ_decided r s.spare)))
      (by_region (λ r. blocks_fit_decided r s.spare (open_block r s.small) (next_offset r s.small))))
      (directory_names_decided s.spare s.directory))
      (by_and (entries_fit_decided s.cache s.small.used) (protected_fit_decided s.small)))
      (places_hold_decided s))
      (unchanged_agree_decided s))
