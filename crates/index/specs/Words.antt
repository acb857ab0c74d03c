-- The words of a page set for mappings, one after the other.
use Rattle.std.specs.Prelude.{◌≡◌, ℕ, ◌+◌, ◌*◌, ◌<◌, List, [], ◌∷◌, ◌++◌, length, slice_set}
use Rattle.std.proofs.Math.Path.{refl, sym}
use Rattle.std.proofs.Common.{ap, ◌∙◌, length-set}
use Rattle.std.proofs.lemmas.List.Edits.{sets}
use Rattle.scope.specs.Geometry.{Geometry, pages}
use Rattle.scope.specs.Lent.{Mapping, words_of, translation_word}
use Rattle.scope.specs.Steps.{set_words}
use Rattle.flash.specs.Lengths.{length_words_of}
use Rattle.words.specs.Runs.{sets_own}
use Rattle.promises.specs.Stored.{length_set_words}
use Rattle.steps.specs.Lies.{ChipLent, words_lie}
use Rattle.steps.specs.Chip.{one_word_set}

-- The words of page q are those that it had, with those of the mappings set.
pub record WordsSet (g : Geometry) (q : ℕ) (chip : List ℕ) (ms : List Mapping) (chip' : List ℕ) : Type 0 where
  pub words : chip' ≡ sets chip (q * g.W) (set_words g ms (words_of g q chip))
  pub as_long : length chip' ≡ length chip

module _ {g : Geometry} {q : ℕ} {chip : List ℕ} (lent : ChipLent g chip) (on_chip : q < pages g) where
  pub none_set : WordsSet g q chip [] chip
  unfolding set_words
  none_set = record { words = sym (sets_own chip (q * g.W) g.W (words_lie lent q on_chip).words); as_long = refl }

  pub one_set : {chip₁ chip₂ : List ℕ} {ms : List Mapping} (x : Mapping) → WordsSet g q chip ms chip₁
      → chip₂ ≡ slice_set chip₁ (q * g.W + translation_word g x.logical) x.physical → WordsSet g q chip (ms ++ x ∷ []) chip₂
  one_set {chip₁} {ms = ms} x before stored =
      record {
        words = one_word_set g q ms x chip (words_of g q chip) lent.bounded.W_from
            (length_set_words g ms (words_of g q chip) ∙ length_words_of g q chip on_chip lent.chip_fits) before.words stored;
        as_long = ap length stored ∙ length-set chip₁ _ x.physical ∙ before.as_long;
      }
