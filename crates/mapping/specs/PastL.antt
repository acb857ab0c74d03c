-- "Words past L are *none*": only the last translation page has any, behind the words that it holds for logical pages.
use Rattle.std.specs.Prelude.{ℕ, suc, ◌+◌, ◌*◌, ◌-◌, ◌≤◌, ◌<◌, ◌≡◌, refl, Bool, true, List, length, get_or, take, drop}
use Rattle.std.proofs.Common.{suc-mul, arith, sym, ap, ◌∙◌, subst, length-take, length-drop, get_or-take, get_or-drop}
use Rattle.scope.specs.Geometry.{Geometry, Accepted, M}
use Rattle.scope.specs.Laws.Decides.{Decides, by_equal, by_same, by_all}
use Rattle.scope.specs.Lent.{none, Place, Nowhere, word_of, named}
use Rattle.scope.specs.Sound.{PastL}
use Rattle.flash.specs.Cases.{below?}
use Rattle.words.specs.Erased.{only_erased}
use Rattle.mapping.specs.Translated.{page_starts, pages_cover}

-- The last translation page, and how many logical pages it holds.
abbrev pub last_page : Geometry → ℕ
last_page g = M g - 1

abbrev pub in_last : Geometry → ℕ
in_last g = g.L - last_page g * g.W

-- The w words from `page` on, but for the first n of them; a page's words past L, where the last translation page is page q.
abbrev pub behind_words : List ℕ → ℕ → ℕ → ℕ → List ℕ
behind_words chip page n w = take (page + w - (page + n)) (drop (page + n) chip)

abbrev pub past_words : Geometry → List ℕ → ℕ → List ℕ
past_words g chip q = behind_words chip (q * g.W) (in_last g) g.W

module _ (g : Geometry) (ok : Accepted g) (chip directory : List ℕ) where
  pub last_starts : last_page g * g.W < g.L
  last_starts = page_starts g ok.W_from (last_page g) (omega (arith, ok.M_from))

  pub last_holds : in_last g ≤ g.W
  last_holds =
      let is : M g ≡ suc (last_page g) = omega (arith, ok.M_from) in
      omega (arith, pages_cover g ok.W_from, ap (λ (k : ℕ). k * g.W) is, suc-mul (last_page g) g.W)

  -- A word past L is one of the last page's.
  past_is_last : (t i : ℕ) → t < M g → i < g.W → g.L ≤ t * g.W + i → t ≡ last_page g
  past_is_last t i h k past =
      below? (suc t) (M g)
      (λ more. absurd (omega (arith, page_starts g ok.W_from (suc t) more, suc-mul t g.W)))
      (λ no_more. omega arith)

  pub past_nowhere : Nowhere ≡ named (last_page g) directory → Decides true (PastL g chip directory)
  past_nowhere e =
      record {
        holds = λ _ t q i h n k past.
            let is : t ≡ last_page g = past_is_last t i h k past in
            let at_last : named (last_page g) directory ≡ Place q = subst (λ (x : ℕ). named x directory ≡ Place q) is n in
            let z : ◌≡◌ {A = ℕ} 0 1 = cc in absurd (omega arith);
        passes = λ _. refl;
      }

  module _ (q : ℕ) (e : Place q ≡ named (last_page g) directory) (fits : q * g.W + g.W ≤ length chip) where
    past_length : length (past_words g chip q) ≡ g.W - in_last g
    past_length = simp (length-take, length-drop) (omega (arith, last_holds))

    -- Word k of those past L.
    past_at : (k : ℕ) → k < g.W - in_last g → get_or (past_words g chip q) k none ≡ word_of g q (in_last g + k) chip
    past_at k h =
        get_or-take (q * g.W + g.W - (q * g.W + in_last g)) (drop (q * g.W + in_last g) chip) k none (omega arith)
        ∙ get_or-drop (q * g.W + in_last g) chip k none
        ∙ ap (λ (x : ℕ). get_or chip x none) (omega arith)

    pub past_place : Decides (only_erased (past_words g chip q)) (PastL g chip directory)
    past_place =
        by_same
        (λ x t q' i h n k past.
        let is : t ≡ last_page g = past_is_last t i h k past in
        let at_last : named (last_page g) directory ≡ Place q' = subst (λ (y : ℕ). named y directory ≡ Place q') is n in
        let same : q ≡ q' = cc in
        let from : last_page g * g.W ≡ t * g.W = ap (λ (y : ℕ). y * g.W) (sym is) in
        let j : ℕ = i - in_last g in
        let back : in_last g + j ≡ i = omega (arith, last_starts) in
        let inside : j < g.W - in_last g = omega (arith, last_starts) in
        subst (λ (y : ℕ). word_of g y i chip ≡ none) same
        (subst (λ (y : ℕ). word_of g q y chip ≡ none) back
        (sym (past_at j inside) ∙ x j (omega (arith, past_length)))))
        (λ x k h.
        let inside : k < g.W - in_last g = omega (arith, past_length) in
        past_at k inside
        ∙ x (last_page g) q (in_last g + k) (omega (arith, ok.M_from)) (sym e) (omega arith) (omega (arith, last_starts)))
        (by_all (length (past_words g chip q)) (λ k. by_equal (get_or (past_words g chip q) k none) none))

-- As the code has it: the directory's length for M.
module _ (g : Geometry) (ok : Accepted g) (chip directory : List ℕ) (m : ℕ) (is : m ≡ M g) where
  pub holds_at_most : g.L - (m - 1) * g.W ≤ g.W
  holds_at_most = subst (λ (k : ℕ). g.L - (k - 1) * g.W ≤ g.W) (sym is) (last_holds g ok chip directory)

  pub none_named : Nowhere ≡ named (m - 1) directory → Decides true (PastL g chip directory)
  none_named e = past_nowhere g ok chip directory (e ∙ ap (λ (k : ℕ). named (k - 1) directory) is)

  pub page_named : (q : ℕ) → Place q ≡ named (m - 1) directory → q * g.W + g.W ≤ length chip
      → (r : Bool) → r ≡ only_erased (behind_words chip (q * g.W) (g.L - (m - 1) * g.W) g.W) → Decides r (PastL g chip directory)
  page_named q e fits r f =
      subst (λ (b : Bool). Decides b (PastL g chip directory))
      (sym (f ∙ ap (λ (k : ℕ). only_erased (behind_words chip (q * g.W) (g.L - (k - 1) * g.W) g.W)) is))
      (past_place g ok chip directory q (e ∙ ap (λ (k : ℕ). named (k - 1) directory) is) fits)
