-- Where a logical page's word lies: "word l mod W of translation page l/W".
use Rattle.std.specs.Prelude.{ℕ, ◌+◌, ◌*◌, ◌<◌, ◌≡◌}
use Rattle.std.proofs.Common.{div-add-mod', mod-lt, div-mul-le_self, le-div_iff_mul-le, arith}
use Rattle.scope.specs.Geometry.{Geometry, Accepted, M}
use Rattle.scope.specs.Lent.{translation_page, translation_word}

module _ {g : Geometry} (ok : Accepted g) where
  pub page_below : (l : ℕ) → l < g.L → translation_page g l < M g
  page_below l h = (le-div_iff_mul-le ok.W_from).1 (omega (arith, div-mul-le_self l g.W, ok.W_from))

  pub word_below : (l : ℕ) → translation_word g l < g.W
  word_below l = mod-lt l ok.W_from

  -- The page and the word tell l.
  pub page_and_word : (l : ℕ) → translation_page g l * g.W + translation_word g l ≡ l
  page_and_word l = div-add-mod' l g.W

  pub word_tells : (l k : ℕ) → translation_page g l ≡ translation_page g k → translation_word g l ≡ translation_word g k → l ≡ k
  word_tells l k p w = cc (page_and_word l, page_and_word k)
