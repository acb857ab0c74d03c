-- Format's state: every page erased, directory and cache *none*, and so sound, whatever the state was before.
use Prim.Native.Nat.{ℕ, zero, suc, ◌+◌, ◌*◌, ◌/◌, ◌%◌, ◌≤◌, ◌<◌}
use Rattle.std.specs.Prelude.{◌≡◌, ◌≢◌, ◌&&◌, [], ◌∷◌, get_or}
use Rattle.std.proofs.Math.Path.{refl}
use Rattle.std.proofs.Common.{sym, ◌∙◌, ap, inl, append-nil, arith}
use Rattle.std.proofs.Math.Logic.{⊎_elim}
use Rattle.std.proofs.Math.Bool.{Bool}
use Rattle.std.proofs.Math.Dec.{eqb, ltb}
use Rattle.std.proofs.Math.ListN.{replicate, get_or-replicate}
use Rattle.std.proofs.lemmas.List.{length-replicate}
use borrow.Author.Tests.{ltb-true, le-ltb}
use Rattle.scope.specs.Counting.{lowest}
use Rattle.scope.specs.Geometry.{Geometry, Accepted, M, blocks}
use Rattle.scope.specs.Lent.{none, valid, Place, Nowhere, State, with_directory, entry_words, directory_size, cache_size, state_of, named, logical_at, translation_page}
use Rattle.scope.specs.Regions.{Region, Data, Translation, first_block, region_blocks, page_in, HasBlock, HasPage}
use Rattle.scope.specs.SmallRecord.{SmallRecord, fresh, open_block, next_offset}
use Rattle.scope.specs.Sound.{PageFits, BlocksFit, EntriesFit, rank_of, stored, current, Sound}
use Rattle.flash.specs.Moments.{Allowed, PageErased}
use Rattle.flash.specs.Listed.{counted_++, counts_same, allowed_++}
use Rattle.scope.specs.Operations.{Counts, counts_add, counted, Erase, Step, perform, give, set_directory, set_cache, set_small, for, ◌>>=◌}
use Rattle.scope.specs.Requests.{format_steps}
use Rattle.flash.specs.Cases.{last, and_true}
use Rattle.promises.specs.Index.{page_below}
use Rattle.flash.specs.Searching.{IsLowest, lowest_cases}
use Rattle.flash.specs.Lengths.{Lengths, lengths_with_directory, lengths_with_cache}
use Rattle.flash.specs.Kept.{apply_keeps_lengths}
use Rattle.flash.specs.Pages.{erased_same, erase_block}
use Rattle.flash.specs.Places.{in_block, block_on_chip, page_in_region, outside_block}
use Rattle.region.specs.Carried.{erased_fits}

-- A page that is wholly erased in the chip and the spare.
abbrev AllErased : Geometry → ℕ → State → Type 0
AllErased g n s = (b i : ℕ) → b < n → i < g.P → PageErased g (page_in g b i) s.chip s.spare

-- The erases of the first n blocks.
erasing : Geometry → ℕ → Step (Unit {0})
erasing g n = for n (λ b. perform g (Erase b))

erased_lengths : (g : Geometry) (n : ℕ) (s : State) → Lengths g s → Lengths g (erasing g n s).after
unfolding erasing for perform give ◌>>=◌
erased_lengths g zero s len = len
erased_lengths g (suc n) s len = apply_keeps_lengths g (Erase n) (erasing g n s).after (erased_lengths g n s len)

erased_pages : (g : Geometry) (n : ℕ) (s : State) → Lengths g s → n ≤ blocks g → AllErased g n (erasing g n s).after
unfolding erasing for perform give ◌>>=◌
erased_pages g zero s len h b i k l = absurd (omega arith)
erased_pages g (suc n) s len h b i k l =
    let e = erase_block g n (erasing g n s).after (erased_lengths g n s len) h in
    last b n k
    (λ below. erased_same
    (e.others (page_in g b i) (outside_block g n b i l (omega arith)))
    (erased_pages g n s len (omega arith) b i below l))
    (λ at. rw at (e.pages i l))

-- "Counts 0, 0, D+T", and an erase asks for nothing.
erasing_counts : (g : Geometry) (n : ℕ) (s : State)
    → counted (erasing g n s).did ≡ record { reads = 0; programs = 0; erases = n }
unfolding erasing for perform give counted ◌>>=◌
erasing_counts g zero s = refl
erasing_counts g (suc n) s =
    counted_++ (erasing g n s).did (Erase n ∷ [])
    ∙ ap (λ (c : Counts). counts_add c (record { reads = 0; programs = 0; erases = 1 })) (erasing_counts g n s)
    ∙ counts_same (omega arith) (omega arith) (omega arith)

erasing_allowed : (g : Geometry) (n : ℕ) (s : State) → Allowed g (erasing g n s).did s
unfolding erasing for perform give ◌>>=◌
erasing_allowed g zero s = tt
erasing_allowed g (suc n) s =
    allowed_++ g (erasing g n s).did (Erase n ∷ []) s (erasing_allowed g n s) (tt, tt)

nowhere_no_place : {q : ℕ} → Nowhere ≢ Place q
nowhere_no_place e = let z : ◌≡◌ {A = ℕ} 0 1 = cc in omega arith

-- The state that format leaves.
abbrev formatted : Geometry → State → State
formatted g s = (format_steps g s).after

module _ (g : Geometry) (ok : Accepted g) (s : State) (len : Lengths g s) where
  every_page : (r : Region) (p : ℕ) → HasPage g r p → PageErased g p (formatted g s).chip (formatted g s).spare
  unfolding format_steps erasing set_directory set_cache set_small give ◌>>=◌
  every_page r p h =
      let at = in_block g r p h in
      rw at.is_page (erased_pages g (blocks g) s len (omega arith) (p / g.P) (p % g.P)
      (block_on_chip g r (p / g.P) at.has_block) at.below_P)

  directory_none : (t : ℕ) → t < M g → named t (formatted g s).directory ≡ Nowhere
  unfolding format_steps erasing set_directory set_cache set_small give ◌>>=◌
  directory_none t h = rw (get_or-replicate (M g) t none none h)

  cache_none : (i : ℕ) → i < g.C * entry_words → get_or (formatted g s).cache i none ≡ none
  unfolding format_steps erasing set_directory set_cache set_small give ◌>>=◌
  cache_none i h = get_or-replicate (g.C * entry_words) i none none h

  is_fresh : (formatted g s).small ≡ fresh g
  unfolding format_steps erasing set_directory set_cache set_small give ◌>>=◌
  is_fresh = refl

  pub format_lengths : Lengths g (formatted g s)
  unfolding format_steps erasing set_directory set_cache set_small give ◌>>=◌
  format_lengths =
      let erased = (erasing g (blocks g) s).after in
      let directory = replicate (directory_size g) none in
      lengths_with_cache (with_directory directory erased)
      (lengths_with_directory erased (erased_lengths g (blocks g) s len) (length-replicate (directory_size g) none))
      (length-replicate (cache_size g) none)

  none_valid : (r : Region) (p : ℕ) → HasPage g r p → state_of p (formatted g s).spare ≢ valid
  none_valid r p h v = omega (arith, (every_page r p h).state)

  fits : (r : Region) (p : ℕ) → HasPage g r p → PageFits g r (formatted g s).chip (formatted g s).spare p
  fits r p h = erased_fits (every_page r p h)

  open_at_first : (r : Region) → BlocksFit g r (formatted g s).spare (first_block g r) 0
  open_at_first r =
      record {
        in_region = (omega arith, two r);
        offset_fits = omega arith;
        before_offset = λ i h. absurd (omega arith);
        from_offset = λ i h _. (every_page r (page_in g (first_block g r) i)
            (page_in_region g r (first_block g r) i (omega arith, two r) h)).state;
        others = λ b h _. inl (λ i k. (every_page r (page_in g b i) (page_in_region g r b i h k)).state);
        besides = (
          suc (first_block g r),
          second r,
          omega arith,
          λ i k. (every_page r (page_in g (suc (first_block g r)) i)
              (page_in_region g r (suc (first_block g r)) i (second r) k)).state,
        );
      }
    where
      two : (r : Region) → first_block g r < first_block g r + region_blocks g r
      two Data = omega (arith, ok.D_from)
      two Translation = omega (arith, ok.T_from)

      second : (r : Region) → HasBlock g r (suc (first_block g r))
      second Data = omega (arith, ok.D_from)
      second Translation = omega (arith, ok.T_from)

  blocks_fit : (r : Region)
      → BlocksFit g r (formatted g s).spare (open_block r (formatted g s).small) (next_offset r (formatted g s).small)
  blocks_fit Data = rw is_fresh (open_at_first Data)
  blocks_fit Translation = rw is_fresh (open_at_first Translation)

  entries_fit : EntriesFit g (formatted g s).cache 0
  entries_fit =
      record {
        at_most = omega arith;
        below_L = λ i h. absurd (omega arith);
        different = λ i j h k e. absurd (omega arith);
        changed_fits = λ i h. absurd (omega arith);
        unused = λ i h _. (
          cache_none (i * entry_words) (omega arith),
          cache_none (i * entry_words + 1) (omega arith),
          cache_none (i * entry_words + 2) (omega arith),
        );
      }

  not_cached : (l : ℕ) → rank_of g (formatted g s).cache 0 l ≡ g.C
  unfolding rank_of
  not_cached l = ⊎_elim (λ x. absurd (unused x)) (λ x. x.is_n) (lowest_cases g.C test)
    where
      test : ℕ → Bool
      test i = ltb i 0 && eqb (logical_at i (formatted g s).cache) l

      unused : IsLowest g.C test (lowest g.C test) → ⊥
      unused x =
          let i = lowest g.C test in
          omega (arith, ltb-true i 0 (and_true (ltb i 0) (eqb (logical_at i (formatted g s).cache) l) x.passes).0)

  -- No page is written.
  pub unwritten : (l : ℕ) → l < g.L → current g (formatted g s) l ≡ none
  unfolding current stored
  unwritten l h = rw (
    is_fresh,
    not_cached l,
    le-ltb g.C g.C (omega arith),
    directory_none (translation_page g l) (page_below ok l h),
  )

  pub format_sound : Sound g (formatted g s)
  format_sound =
      record {
        rule_1 = fits;
        rule_2 = λ r p q h k v w e. absurd (none_valid r p h v);
        rule_3 = blocks_fit;
        rule_4 = λ t h. rw (directory_none t h) (λ p k v. absurd (none_valid Translation p k v));
        rule_5 = rw is_fresh entries_fit;
        rule_5_protected = rw is_fresh (record { at_most_half = omega arith; at_most_used = omega arith });
        rule_6 = record {
          current_place = λ l h. rw (unwritten l h) (λ p k v. absurd (none_valid Data p k v));
          past_L = λ t q i h e k m. absurd (nowhere_no_place (sym (directory_none t h) ∙ e));
        };
        rule_7 = λ i h k. absurd (omega (arith, ap (λ (r : SmallRecord). r.used) is_fresh));
      }

pub format_counts : (g : Geometry) (s : State)
    → counted (format_steps g s).did ≡ record { reads = 0; programs = 0; erases = blocks g }
unfolding format_steps erasing set_directory set_cache set_small give ◌>>=◌
format_counts g s = ap counted (append-nil (erasing g (blocks g) s).did) ∙ erasing_counts g (blocks g) s

pub format_allowed : (g : Geometry) (s : State) → Allowed g (format_steps g s).did s
unfolding format_steps erasing set_directory set_cache set_small give ◌>>=◌
format_allowed g s = rw (append-nil (erasing g (blocks g) s).did) (erasing_allowed g (blocks g) s)
