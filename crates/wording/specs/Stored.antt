-- The small record as words, and the way from a call by value to its contract in words: the record is loaded, the call is made, the record
-- is stored. What comes back is what the call's definition in scope's Boundary.antt gives.
use Rattle.std.specs.Prelude.{ℕ, ◌≡◌}
use Rattle.std.proofs.Math.Path.{ap, ap₂}
use Rattle.std.proofs.Common.{sym, ◌∙◌}
use mathlib.Core.List.{List}
use Rattle.std.proofs.lemmas.List.Edits.{sets}
use Rattle.lent.specs.Model.{lend, lists_of}
use Rattle.scope.specs.Lent.{State, with_small}
use Rattle.scope.specs.SmallRecord.{SmallRecord, record_of, words_from}
use Rattle.scope.specs.Operations.{Step}
use Rattle.scope.specs.Boundary.{Words, from_words, to_words, in_words}
use Rattle.scope.specs.Holding.{Answers, Gives}
use Rattle.scope.specs.Laws.SmallRecord.{record_words_kept}

-- Numbers that come back as they were loaded change no word.
pub stored_back : (l : List ℕ) {r : SmallRecord} → r ≡ record_of l → l ≡ sets l 0 (words_from r)
stored_back l loaded = sym (record_words_kept l) ∙ ap (λ (r : SmallRecord). sets l 0 (words_from r)) (sym loaded)

module _ {A : Type 0} (w : Words) {w' : Words} {r r' : SmallRecord} {x : A} where
  -- A call by value over the loaded record, whose new numbers are stored, gives what the call in words gives.
  pub answers_in_words : (m : Step A) → r ≡ record_of w.small
      → Answers (m (with_small r (from_words w))) w.counts x (with_small r' (from_words w')) w'.counts
      → w'.small ≡ sets w.small 0 (words_from r') → Gives (in_words w m) x w'
  unfolding in_words
  answers_in_words m loaded a stored =
      let same : from_words w ≡ with_small r (from_words w) = ap (λ (n : SmallRecord). with_small n (from_words w)) (sym loaded) in
      record {
        answer = ap (λ (t : State). (m t).value) same ∙ a.value;
        lent =
            ap (λ (t : State). to_words w (m t)) same
            ∙ ap₂ (λ (t : State) (k : List ℕ). lend (lists_of t) (sets w.small 0 (words_from t.small)) k) a.after (sym a.counted)
            ∙ ap (λ (l : List ℕ). lend (lists_of (from_words w')) l w'.counts) (sym stored);
      }
