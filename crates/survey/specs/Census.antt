-- The census as the walk over a region's blocks takes it, a block at a time.
use Rattle.std.specs.Prelude.{ℕ, ◌+◌, ◌*◌, ◌≤◌, ◌<◌, ◌≡◌, refl, ◌⊎◌, Bool, true, List, length, get_or, set}
use Rattle.std.proofs.Common.{◌∙◌, inl, inr, ⊎_elim, arith, length-set, get_or-set_same, get_or-set_other}
use Rattle.scope.specs.Geometry.{Geometry, blocks}
use Rattle.scope.specs.Lent.{state_of, is_valid, is_erased}
use Rattle.scope.specs.Regions.{Region, Data, Translation, first_block, region_blocks}
use Rattle.flash.specs.Cases.{same?, below?}
use Rattle.flash.specs.Counting.{sum, count_le}
use Rattle.words.specs.Census.{weight, Census, in_counts}
use Rattle.survey.specs.Pages.{Looked}
use Rattle.survey.specs.declared.pages.Block.{Block}

-- Each of the n blocks of P pages from block `first` on has its number, and other places are as they were.
pub record Taken (P first n : ℕ) (spare census₀ census : List ℕ) : Type 0 where
  pub as_long : length census ≡ length census₀
  pub each : (b : ℕ) → first ≤ b → b < first + n → get_or census b 0 ≡ sum P (λ i. weight (state_of (b * P + i) spare))
  pub others : (b : ℕ) → (b < first) ⊎ (first + n ≤ b) → get_or census b 0 ≡ get_or census₀ b 0

abbrev pub TakenIn : Geometry → Region → List ℕ → List ℕ → List ℕ → Type 0
TakenIn g r = Taken g.P (first_block g r) (region_blocks g r)

-- No more pages are found valid or erased than a block has.
pub few_found : {W limit : ℕ} {chip spare : List ℕ} {first n : ℕ} {fits : Bool} {b : Block} → Looked W limit chip spare first n fits b
    → (b.valid ≤ n) × (b.erased ≤ n)
few_found {spare = spare} {first = first} {n = n} found = (
  omega (arith, found.valid_are, count_le n (λ i. is_valid (first + i) spare)),
  omega (arith, found.erased_are, count_le n (λ i. is_erased (first + i) spare)),
)

module _ (P first : ℕ) (spare census₀ : List ℕ) where
  pub taken_none : Taken P first 0 spare census₀ census₀
  taken_none = record { as_long = refl; each = λ b h k. absurd (omega arith); others = λ b h. refl }

  -- What is found of a block's pages gives its number.
  pub taken_more : (W limit : ℕ) (chip : List ℕ) (i x : ℕ) (census : List ℕ) (b : Block) → Taken P first i spare census₀ census
      → first + i < length census₀ → Looked W limit chip spare ((first + i) * P) P true b → x ≡ b.valid + 256 * b.erased
      → Taken P first (i + 1) spare census₀ (set census (first + i) x)
  taken_more W limit chip i x census b taken inside found is =
      record {
        as_long = length-set census (first + i) x ∙ taken.as_long;
        each = λ c h k. same? c (first + i)
            (λ e. rw e (get_or-set_same census (first + i) x 0 (omega (arith, taken.as_long)) ∙ its_number))
            (λ d. get_or-set_other census (first + i) c x 0 d ∙ taken.each c h (omega arith));
        others = λ c apart.
            get_or-set_other census (first + i) c x 0 (λ e. ⊎_elim (λ h. omega arith) (λ h. omega arith) apart)
            ∙ taken.others c (⊎_elim inl (λ h. inr (omega arith)) apart);
      }
    where
      its_number : x ≡ sum P (λ j. weight (state_of ((first + i) * P + j) spare))
      its_number = omega (arith, found.valid_are, found.erased_are, in_counts P (λ j. state_of ((first + i) * P + j) spare))

-- The walks over both regions, one after the other.
pub both_taken : (g : Geometry) {spare census₀ census₁ census₂ : List ℕ} → blocks g ≤ length census₀
    → TakenIn g Data spare census₀ census₁ → TakenIn g Translation spare census₁ census₂ → Census g spare census₂
both_taken g long first then =
    record {
      long = omega (arith, first.as_long, then.as_long);
      each = λ b h. below? b g.D
          (λ l. then.others b (inl l) ∙ first.each b (omega arith) (omega arith))
          (λ l. then.each b l (omega arith));
    }
