-- What flash stores for each logical page, by the words of its translation page: one list of words for each translation page number,
-- empty where there is no page. Update's law is about these lists; what it says of `stored` is here.
use Rattle.std.specs.Prelude.{ℕ, ◌+◌, ◌*◌, ◌≤◌, ◌<◌, ◌≡◌, length, get_or, set}
use Rattle.std.proofs.Math.Path.{refl, sym, ap}
use Rattle.std.proofs.Common.{◌∙◌, inl, inr, arith, length-set, get_or-set_same, eq-eqb, ne_eqb}
use mathlib.Core.List.{List, [], ◌∷◌}
use Rattle.std.proofs.Math.Seq.{get_or-set_other}
use Rattle.scope.specs.Geometry.{Geometry, Accepted, M}
use Rattle.scope.specs.Lent.{none, Entry, Place, Nowhere, Mapping, named, translation_page, translation_word}
use Rattle.scope.specs.Sound.{stored, PastL}
use Rattle.scope.specs.Steps.{set_words}
use Rattle.flash.specs.Cases.{same?}
use Rattle.flash.specs.Lengths.{words_at}
use Rattle.region.specs.Holds.{contents}
use Rattle.region.specs.Stored.{word_in}
use Rattle.cache.specs.Waiting.{latest, Waits}
use Rattle.promises.specs.Index.{word_below, page_and_word, word_tells}

-- The words of translation page t, as the directory names it.
abbrev pub table : Geometry → List ℕ → List ℕ → ℕ → List ℕ
table g chip directory t = contents g chip (named t directory)

pub stored_is : {g : Geometry} → Accepted g → (chip directory : List ℕ) (l : ℕ)
    → stored g chip directory l ≡ get_or (table g chip directory (translation_page g l)) (translation_word g l) none
unfolding stored
stored_is {g} ok chip directory l = word_in g chip l (named (translation_page g l) directory) ok.W_from

-- Rule 6's "Words past L are *none*", by the lists.
abbrev pub NonePastL : Geometry → List ℕ → List ℕ → Type 0
NonePastL g chip directory =
    (t i : ℕ) → t < M g → i < g.W → g.L ≤ t * g.W + i → get_or (table g chip directory t) i none ≡ none

pub past_none : (g : Geometry) (chip directory : List ℕ) → PastL g chip directory → NonePastL g chip directory
past_none g chip directory past t i h k l = go (named t directory) refl
  where
    go : (e : Entry) → named t directory ≡ e → get_or (contents g chip e) i none ≡ none
    go (Place q) e = words_at g q i chip k ∙ past t q i h e k l
    go Nowhere e = refl

pub none_past : (g : Geometry) (chip directory : List ℕ) → NonePastL g chip directory → PastL g chip directory
none_past g chip directory none_there t q i h e k l =
    sym (words_at g q i chip k) ∙ ap (λ x. get_or (contents g chip x) i none) (sym e) ∙ none_there t i h k l

-- ---- words set for mappings

-- The mappings are of logical pages of translation page t.
abbrev pub MappingsOf : Geometry → ℕ → List Mapping → Type 0
MappingsOf g t ms = (l : ℕ) → Waits ms l → (l < g.L) × (translation_page g l ≡ t)

pub length_set_words : (g : Geometry) (ms : List Mapping) (words : List ℕ) → length (set_words g ms words) ≡ length words
unfolding set_words
length_set_words g [] words = refl
length_set_words g (m ∷ ms) words =
    length_set_words g ms (set words (translation_word g m.logical) m.physical)
    ∙ length-set words (translation_word g m.logical) m.physical

module _ {g : Geometry} (ok : Accepted g) where
  -- The word of a logical page of translation page t is its latest mapping's.
  pub set_words_at : (t : ℕ) (ms : List Mapping) (words : List ℕ) → MappingsOf g t ms → length words ≡ g.W
      → (l : ℕ) → translation_page g l ≡ t
      → get_or (set_words g ms words) (translation_word g l) none ≡ latest ms l (get_or words (translation_word g l) none)
  unfolding set_words
  set_words_at t [] words h w l e = refl
  set_words_at t (m ∷ ms) words h w l e =
      let k = m.logical in
      let i = translation_word g k in
      set_words_at t ms (set words i m.physical) (λ j q. h j (inr q)) (length-set words i m.physical ∙ w) l e
      ∙ ap (latest ms l)
      (same? k l
      (λ q. rw (eq-eqb k l q, q) (get_or-set_same words (translation_word g l) m.physical none (omega (arith, word_below ok l))))
      (λ q. rw (ne_eqb k l q) (get_or-set_other words i (translation_word g l) m.physical none
      (λ z. q (word_tells ok k l ((h k (inl refl)).1 ∙ sym e) (sym z))))))

  -- Words past L stay as they are.
  pub set_words_past : (t : ℕ) (ms : List Mapping) (words : List ℕ) → MappingsOf g t ms
      → (i : ℕ) → i < g.W → g.L ≤ t * g.W + i → get_or (set_words g ms words) i none ≡ get_or words i none
  unfolding set_words
  set_words_past t [] words h i k l = refl
  set_words_past t (m ∷ ms) words h i k l =
      let j = translation_word g m.logical in
      let (below, of_t) = h m.logical (inl refl) in
      set_words_past t ms (set words j m.physical) (λ n q. h n (inr q)) i k l
      ∙ get_or-set_other words j i m.physical none
      (λ z. omega (arith, below, page_and_word ok m.logical, ap (λ (x : ℕ). x * g.W) of_t))
