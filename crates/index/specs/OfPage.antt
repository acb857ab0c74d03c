-- The entries of a translation page: the logical pages that are its own, told by one comparison, and that there are no more than W.
use Rattle.std.specs.Prelude.{◌≡◌, ℕ, suc, ◌+◌, ◌*◌, ◌-◌, ◌%◌, ◌<◌, ◌≤◌, Bool, true, false, cond, List, ◌==◌, nat_lt}
use Rattle.std.specs.Int.{from_bool}
use Rattle.std.proofs.Common.{div-add-mod', mod-lt, div-mul-le_self, le-div_iff_mul-le, arith, sym, ap, ◌∙◌, eqb-true, eq-eqb, ne_eqb, lt-ltb, le-ltb}
use Rattle.scope.specs.Geometry.{Geometry, Accepted}
use Rattle.scope.specs.Counting.{count}
use Rattle.scope.specs.Regions.{Data}
use Rattle.scope.specs.Lent.{logical_at, translation_page, translation_word}
use Rattle.flash.specs.Cases.{below?}
use Rattle.flash.specs.Counting.{pigeonhole}
use Rattle.flash.specs.Bounded.{accepted_region, owners_few}

-- The logical pages of translation page t are W from t·W on, and 32-bit numbers.
pub record OfPages (g : Geometry) (t : ℕ) : Type 0 where
  pub some : 1 ≤ g.W
  pub reach : t * g.W + g.W ≤ 4294967296

pub of_pages : {g : Geometry} → Accepted g → (l : ℕ) → l < g.L → OfPages g (translation_page g l)
of_pages {g} ok l below =
    record {
      some = ok.W_from;
      reach = omega (arith, div-mul-le_self l g.W, owners_few (accepted_region ok Data), ok.W_to);
    }

module _ {g : Geometry} {t : ℕ} (pages : OfPages g t) (l : ℕ) where
  own_begins : translation_page g l ≡ t → t * g.W ≤ l
  own_begins e = omega (arith, div-mul-le_self l g.W, ap (λ (k : ℕ). k * g.W) e)

  own_ends : translation_page g l ≡ t → l < t * g.W + g.W
  own_ends e = omega (arith, div-add-mod' l g.W, mod-lt l pages.some, ap (λ (k : ℕ). k * g.W) e)

  own : t * g.W ≤ l → l < t * g.W + g.W → translation_page g l ≡ t
  own from to =
      let least : t ≤ translation_page g l = (le-div_iff_mul-le pages.some).1 from in
      below? (translation_page g l) (suc t) (λ h. omega arith)
      (λ h. let past : suc t * g.W ≤ l = (le-div_iff_mul-le pages.some).0 h in absurd (omega arith))

  -- By how far l lies behind the page's first one, by 32 bits: one that lies before it is far behind.
  pub own_is_near : l < 4294967296 → nat_lt ((l + (4294967296 - t * g.W)) % 4294967296) g.W ≡ (translation_page g l == t)
  own_is_near small =
      let r : ℕ = (l + (4294967296 - t * g.W)) % 4294967296 in
      below? r g.W
      (λ h. lt-ltb r g.W h ∙ sym (eq-eqb (translation_page g l) t (own (omega (arith, h, small, pages.reach)) (omega (arith, h, small, pages.reach)))))
      (λ h. le-ltb r g.W h
      ∙ sym (ne_eqb (translation_page g l) t (λ e. omega (arith, h, small, pages.reach, own_begins e, own_ends e))))

-- Whether the entry at a rank is of translation page t.
abbrev pub of_page_at : Geometry → ℕ → List ℕ → ℕ → Bool
of_page_at g t cache i = translation_page g (logical_at i cache) == t

-- The number that a test is counted as.
pub counted_as : {r : ℕ} {b b' : Bool} → r ≡ from_bool b → b ≡ b' → r ≡ cond b' 1 0
counted_as {b = true} e same = e ∙ ap (λ (x : Bool). cond x 1 0) same
counted_as {b = false} e same = e ∙ ap (λ (x : Bool). cond x 1 0) same

-- How many entries the pass over the cache passes by at once.
abbrev pub stretch : ℕ
stretch = 20

-- The entries have different logical pages, so that W of them at most are of it.
pub few_of_page : (g : Geometry) → 1 ≤ g.W → (t n : ℕ) (cache : List ℕ)
    → ((i j : ℕ) → i < n → j < n → logical_at i cache ≡ logical_at j cache → i ≡ j) → count n (of_page_at g t cache) ≤ g.W
few_of_page g some t n cache different =
    pigeonhole n g.W (of_page_at g t cache) (λ i. translation_word g (logical_at i cache))
    (λ i h e. mod-lt (logical_at i cache) some)
    (λ i j h k p q w. different i j h k (same (logical_at i cache) (logical_at j cache)
    (eqb-true (translation_page g (logical_at i cache)) t p ∙ sym (eqb-true (translation_page g (logical_at j cache)) t q)) w))
  where
    same : (l k : ℕ) → translation_page g l ≡ translation_page g k → translation_word g l ≡ translation_word g k → l ≡ k
    same l k p w = cc (div-add-mod' l g.W, div-add-mod' k g.W)
