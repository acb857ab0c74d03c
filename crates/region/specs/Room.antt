-- The room argument, once for a region: its owners are so few that, when but one block is erased and the others are full, some full
-- block has a page that isn't valid. A collection asks no more of its victim (`VictimLaw`); that 01's victim is such a block is a
-- law of its own, so that another rule of choice can take its place.
use Rattle.std.specs.Prelude.{ℕ, zero, suc, ◌+◌, ◌*◌, ◌-◌, ◌≤◌, ◌<◌, ◌≡◌, refl, ◌≢◌, Bool, true, false, not, ◌&&◌, List, eqb, ltb}
use Rattle.std.proofs.Common.{sym, ap, subst, ◌∙◌, ⊎_elim, arith, eqb-true, eq-eqb, ne_eqb, ltb-true, ltb-false}
use Rattle.std.proofs.lemmas.Bool.{eqb-false, not-true, not-false}
use Rattle.scope.specs.Counting.{count, some}
use Rattle.scope.specs.Geometry.{Geometry}
use Rattle.scope.specs.Regions.{Region, first_block, region_blocks, first_page, region_pages, owners, page_in, HasBlock, HasPage}
use Rattle.scope.specs.Lent.{erased, valid, State, state_of, owner_of, is_valid}
use Rattle.scope.specs.Blocks.{wholly_erased, no_erased_page, valid_pages}
use Rattle.scope.specs.Sound.{PagesFit, OwnersDiffer, WhollyErased, Full}
use Rattle.scope.specs.Room.{erased_blocks, lowest_erased, victim}
use Rattle.scope.proofs.Decided.{wholly_erased_decided, full_decided}
use Rattle.flash.specs.Bounded.{RegionBounded}
use Rattle.flash.specs.Cases.{on, same?, and_true, true_and, and_cases, clash, not_of_false}
use Rattle.flash.specs.Counting.{some_found, none_some, sum, count_same, sum_same, count_blocks, count_one, count_split, pigeonhole, count_at_most_one}
use Rattle.flash.specs.Searching.{lowest_found, fewest_found}
use Rattle.region.specs.Holds.{RegionFits, Besides}

-- What holds of each of a region's blocks by its number there holds of each.
by_number : (g : Geometry) (r : Region) (X : ℕ → Type 0) → ((i : ℕ) → i < region_blocks g r → X (first_block g r + i))
    → (b : ℕ) → HasBlock g r b → X b
by_number g r X each b h = subst X (omega (arith, h.0)) (each (b - first_block g r) (omega (arith, h.0, h.1)))

-- A block and a page more than the owners need.
room : (n P K : ℕ) → 2 ≤ n → 1 ≤ K → K ≤ (n - 1) * P - 1 → K + P < n * P
room n P K h k l =
    let m : ℕ = n - 1 in
    let e : n ≡ suc m = omega arith in
    rw e (omega arith)

pub room_left : (g : Geometry) (r : Region) → RegionBounded g r → owners g r + g.P < region_blocks g r * g.P
room_left g r bounds = room (region_blocks g r) g.P (owners g r) bounds.blocks_from bounds.owners_from bounds.owners_to

-- By pigeonhole: valid pages have different owners (rule 2), all below `owners` (rule 1).
pub valid_at_most_owners : (g : Geometry) (r : Region) (chip spare : List ℕ) → PagesFit g r chip spare → OwnersDiffer g r spare
    → count (region_pages g r) (λ i. is_valid (first_page g r + i) spare) ≤ owners g r
valid_at_most_owners g r chip spare fit differ =
    pigeonhole (region_pages g r) (owners g r) (λ i. is_valid (at i) spare) (λ i. owner_of (at i) spare)
    (λ i k p. (fit (at i) (here i k)).owned (λ e. valid_not_erased (sym (is i p) ∙ e)))
    (λ i j k l p q e. omega (arith, differ (at i) (at j) (here i k) (here j l) (is i p) (is j q) e))
  where
    at : ℕ → ℕ
    at i = first_page g r + i

    here : (i : ℕ) → i < region_pages g r → HasPage g r (at i)
    here i k = (omega arith, omega arith)

    is : (i : ℕ) → is_valid (at i) spare ≡ true → state_of (at i) spare ≡ valid
    is i p = eqb-true (state_of (at i) spare) valid p

    valid_not_erased : valid ≢ erased
    valid_not_erased = omega arith

-- The same pages counted block by block.
valid_by_blocks : (g : Geometry) (r : Region) (spare : List ℕ)
    → count (region_pages g r) (λ i. is_valid (first_page g r + i) spare)
    ≡ sum (region_blocks g r) (λ b. valid_pages g spare (first_block g r + b))
valid_by_blocks g r spare =
    count_blocks (region_blocks g r) g.P (λ i. is_valid (first_page g r + i) spare)
    ∙ sum_same (region_blocks g r) _ _ (λ b h. count_same g.P _ _ (λ i k. ap (λ p. is_valid p spare) (place b i)))
  where
    place : (b i : ℕ) → first_page g r + (b * g.P + i) ≡ page_in g (first_block g r + b) i
    place b i = omega arith

-- Where all but one of n have at least P, they have at least n - 1 times P together.
sum_all : (n P : ℕ) (size : ℕ → ℕ) → ((i : ℕ) → i < n → P ≤ size i) → n * P ≤ sum n size
sum_all zero P size h = omega arith
sum_all (suc n) P size h = omega (arith, sum_all n P size (λ i k. h i (omega arith)), h n (omega arith))

sum_but_one : (n P e : ℕ) (size : ℕ → ℕ) → ((i : ℕ) → i < n → i ≢ e → P ≤ size i) → n * P ≤ sum n size + P
sum_but_one zero P e size h = omega arith
sum_but_one (suc n) P e size h =
    same? n e
    (λ q. omega (arith, sum_all n P size (λ i k. h i (omega arith) (omega arith))))
    (λ q. omega (arith, sum_but_one n P e size (λ i k. h i (omega arith)), h n (omega arith) q))

-- All that a collection asks of the block that it empties: it is a block of the region, has no erased page, and not all of its
-- pages are valid, so that they leave room where they are moved to.
pub record VictimLaw (g : Geometry) (r : Region) (spare : List ℕ) (v : ℕ) : Type 0 where
  pub in_region : HasBlock g r v
  pub full : Full g spare v
  pub some_invalid : valid_pages g spare v < g.P

-- A region that needs a collection: its open block is full, and one block alone is erased.
pub record Crowded (g : Geometry) (r : Region) (spare : List ℕ) (e : ℕ) : Type 0 where
  pub in_region : HasBlock g r e
  pub wholly_erased : WhollyErased g spare e
  pub others_full : (b : ℕ) → HasBlock g r b → b ≢ e → Full g spare b

-- The room argument: a full block with an invalid page.
pub some_victim : (g : Geometry) (r : Region) (chip spare : List ℕ) (e : ℕ) → RegionBounded g r
    → PagesFit g r chip spare → OwnersDiffer g r spare → Crowded g r spare e → (v : ℕ) × VictimLaw g r spare v
some_victim g r chip spare e bounds fit differ crowded =
    on (some (region_blocks g r) room_in) found none_found
  where
    size : ℕ → ℕ
    size i = valid_pages g spare (first_block g r + i)

    room_in : ℕ → Bool
    room_in i = not (eqb (first_block g r + i) e) && ltb (size i) g.P

    found : some (region_blocks g r) room_in ≡ true → (v : ℕ) × VictimLaw g r spare v
    found h =
        let (i, k, p) = some_found (region_blocks g r) room_in h in
        let (apart, fewer) = and_true (not (eqb (first_block g r + i) e)) (ltb (size i) g.P) p in
        let here : HasBlock g r (first_block g r + i) = (omega arith, omega arith) in (
          first_block g r + i,
          record {
            in_region = here;
            full = crowded.others_full _ here (eqb-false (first_block g r + i) e (not-true _ apart));
            some_invalid = ltb-true (size i) g.P fewer;
          },
        )

    number : (i : ℕ) → first_block g r + i ≡ e → i ≡ e - first_block g r
    number i q = omega arith

    none_found : some (region_blocks g r) room_in ≡ false → (v : ℕ) × VictimLaw g r spare v
    none_found h =
        absurd (omega (
          arith,
          room_left g r bounds,
          valid_at_most_owners g r chip spare fit differ,
          valid_by_blocks g r spare,
          sum_but_one (region_blocks g r) g.P (e - first_block g r) size (λ i k apart.
              and_cases _ _ (none_some (region_blocks g r) room_in h i k)
              (λ q. absurd (apart (number i (eqb-true (first_block g r + i) e (not-false _ q)))))
              (λ q. ltb-false (size i) g.P q)),
        ))

-- "The victim is the block with no erased page that has the fewest valid pages": where some full block has an invalid page, so has
-- the one with the fewest valid ones.
pub victim_is_good : (g : Geometry) (r : Region) (s : State) (b : ℕ) → VictimLaw g r s.spare b
    → VictimLaw g r s.spare (victim g r s)
unfolding victim
victim_is_good g r s b law =
    by_number g r (λ b. VictimLaw g r s.spare b → VictimLaw g r s.spare (victim g r s)) chosen b law.in_region law
  where
    chosen : (i : ℕ) → i < region_blocks g r → VictimLaw g r s.spare (first_block g r + i)
        → VictimLaw g r s.spare (victim g r s)
    chosen i k good =
        let full = (full_decided g s.spare (first_block g r + i)).passes good.full in
        let found = fewest_found (region_blocks g r) (λ i. no_erased_page g s.spare (first_block g r + i))
        (λ i. valid_pages g s.spare (first_block g r + i)) i k full in
        record {
          in_region = (omega arith, omega (arith, found.below));
          full = (full_decided g s.spare _).holds found.passes;
          some_invalid = omega (arith, good.some_invalid, found.least i k full);
        }

-- ---- wholly erased blocks

-- Where there is one, the lowest is one.
pub lowest_is_erased : (g : Geometry) (r : Region) (s : State) (b : ℕ) → HasBlock g r b → WhollyErased g s.spare b
    → HasBlock g r (lowest_erased g r s) × WhollyErased g s.spare (lowest_erased g r s)
unfolding lowest_erased
lowest_is_erased g r s =
    by_number g r (λ b. WhollyErased g s.spare b → HasBlock g r _ × WhollyErased g s.spare _) (λ i k h.
    let found = lowest_found (region_blocks g r) (λ i. wholly_erased g s.spare (first_block g r + i)) i k
    ((wholly_erased_decided g s.spare _).passes h) in
    ((omega arith, omega (arith, found.below)), (wholly_erased_decided g s.spare _).holds found.passes))

-- Two different numbers that pass are counted.
count_two : (n : ℕ) (f : ℕ → Bool) (i j : ℕ) → i < n → j < n → f i ≡ true → f j ≡ true → i ≢ j → 2 ≤ count n f
count_two n f i j k l p q apart =
    omega (
      arith,
      count_split n f (λ m. eqb m i),
      count_one n (λ m. f m && eqb m i) i k (true_and p (eq-eqb i i refl)),
      count_one n (λ m. f m && not (eqb m i)) j l (true_and q (not_of_false (ne_eqb j i (λ e. apart (sym e))))),
    )

-- Of fewer than two, any is the same; of two and more, there is one besides any.
pub one_erased : (g : Geometry) (r : Region) (s : State) → erased_blocks g r s < 2 → (a b : ℕ) → HasBlock g r a → HasBlock g r b
    → WhollyErased g s.spare a → WhollyErased g s.spare b → a ≡ b
unfolding erased_blocks
one_erased g r s few a b in-a in_b empty_a empty_b =
    by_number g r (λ a. WhollyErased g s.spare a → a ≡ b) (λ i k p.
    by_number g r (λ b. WhollyErased g s.spare b → first_block g r + i ≡ b) (λ j l q.
    same? i j (ap (λ m. first_block g r + m)) (λ apart.
    absurd (omega (
      arith,
      few,
      count_two (region_blocks g r) (λ i. wholly_erased g s.spare (first_block g r + i)) i j k l
          ((wholly_erased_decided g s.spare _).passes p) ((wholly_erased_decided g s.spare _).passes q) apart,
    ))))
    b in_b empty_b)
    a in-a empty_a

pub two_erased : (g : Geometry) (r : Region) (s : State) → 2 ≤ erased_blocks g r s → (x : ℕ) → Besides g r s.spare x
unfolding erased_blocks
two_erased g r s two x =
    on (some (region_blocks g r) another)
    (λ e.
    let (i, k, p) = some_found (region_blocks g r) another e in
    let (is, apart) = and_true (empty i) (not (eqb (first_block g r + i) x)) p in
    (first_block g r + i, (omega arith, omega arith), eqb-false _ _ (not-true _ apart), (wholly_erased_decided g s.spare _).holds is))
    (λ e. absurd (omega (
      arith,
      two,
      count_at_most_one (region_blocks g r) empty (λ i j k l p q.
          omega (arith, only e i k p, only e j l q)),
    )))
  where
    empty : ℕ → Bool
    empty i = wholly_erased g s.spare (first_block g r + i)

    another : ℕ → Bool
    another i = empty i && not (eqb (first_block g r + i) x)

    only : some (region_blocks g r) another ≡ false → (i : ℕ) → i < region_blocks g r → empty i ≡ true → first_block g r + i ≡ x
    only e i k p =
        and_cases (empty i) _ (none_some (region_blocks g r) another e i k)
        (λ q. clash p q) (λ q. eqb-true _ _ (not-false _ q))

-- ---- when a region must be collected

-- The open block is full and fewer than two are erased: the lowest of these is the only one.
pub is_crowded : (g : Geometry) (r : Region) (s : State) (opened offset : ℕ)
    → RegionFits g r s.chip s.spare opened offset → Besides g r s.spare opened → g.P ≤ offset → erased_blocks g r s < 2
    → Crowded g r s.spare (lowest_erased g r s)
is_crowded g r s opened offset fits (b, here, _, empty) all few =
    let (in_region, is_empty) = lowest_is_erased g r s b here empty in
    record {
      in_region = in_region;
      wholly_erased = is_empty;
      others_full = λ c in_c apart.
          same? c opened
          (λ e. rw e (λ i k. fits.before_offset i (omega arith)))
          (λ e. ⊎_elim (λ h. absurd (apart (one_erased g r s few c _ in_c in_region h is_empty))) (λ h. h) (fits.others c in_c e));
    }

pub victim_of_crowded : (g : Geometry) (r : Region) (s : State) (opened offset e : ℕ) → RegionBounded g r
    → RegionFits g r s.chip s.spare opened offset → Crowded g r s.spare e → VictimLaw g r s.spare (victim g r s)
victim_of_crowded g r s opened offset e bounds fits crowded =
    let (v, good) = some_victim g r s.chip s.spare e bounds fits.pages_fit fits.owners_differ crowded in
    victim_is_good g r s v good
