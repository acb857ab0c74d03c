-- What flash holds for logical pages, by the words of the translation pages: these kept, it is kept.
use Rattle.std.specs.Prelude.{ℕ, ◌≤◌, ◌<◌, ◌≡◌, refl, List, length, get_or}
use Rattle.std.proofs.Common.{sym, ap, ◌∙◌, arith, mod-lt}
use Rattle.std.proofs.Math.ListN.{get_or-eq_default}
use Rattle.scope.specs.Geometry.{Geometry, M}
use Rattle.scope.specs.Lent.{none, Entry, Place, Nowhere, decode, named, translation_page, translation_word}
use Rattle.scope.specs.Sound.{in_page, stored}
use Rattle.flash.specs.Cases.{below?}
use Rattle.flash.specs.Lengths.{words_at}
use Rattle.region.specs.Holds.{contents}

-- Word i of the page that an entry names; *none* where it names none.
pub word_in : (g : Geometry) (chip : List ℕ) (l : ℕ) (e : Entry) → 1 ≤ g.W
    → in_page g chip l e ≡ get_or (contents g chip e) (translation_word g l) none
word_in g chip l (Place q) h = sym (words_at g q (translation_word g l) chip (mod-lt l h))
word_in g chip l Nowhere h = refl

-- What flash holds for a logical page is kept where the words of each translation page are.
pub stored_same : (g : Geometry) (chip directory chip' directory' : List ℕ) → 1 ≤ g.W
    → length directory ≡ M g → length directory' ≡ M g
    → ((t : ℕ) → t < M g → contents g chip' (named t directory') ≡ contents g chip (named t directory))
    → (l : ℕ) → stored g chip' directory' l ≡ stored g chip directory l
unfolding stored
stored_same g chip directory chip' directory' h len len' same l =
    word_in g chip' l (named (translation_page g l) directory') h
    ∙ ap (λ words. get_or words (translation_word g l) none) (each (translation_page g l))
    ∙ sym (word_in g chip l (named (translation_page g l) directory) h)
  where
    each : (t : ℕ) → contents g chip' (named t directory') ≡ contents g chip (named t directory)
    each t =
        below? t (M g) (same t) (λ past.
        ap (λ x. contents g chip' (decode x)) (get_or-eq_default directory' none (omega arith))
        ∙ sym (ap (λ x. contents g chip (decode x)) (get_or-eq_default directory none (omega arith))))
