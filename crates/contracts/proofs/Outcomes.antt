-- What an outcome that a contract allows is: the definition's. A call in words comes down to the call on numbers and lists, so that the
-- demands are proved once.
use Rattle.std.specs.Prelude.{ℕ, ◌≡◌, List, length}
use Rattle.std.proofs.Common.{sym, ◌∙◌, ap}
use Rattle.std.proofs.lemmas.List.Edits.{sets}
use Rattle.scope.specs.Geometry.{Geometry}
use Rattle.scope.specs.SmallRecord.{SmallRecord, record_words, record_of, words_from}
use Rattle.scope.specs.Lent.{State, with_small}
use Rattle.scope.specs.Operations.{Outcome, no_counts, counted, apply_all, give}
use Rattle.scope.specs.Boundary.{Words, from_words, to_words, put_counts, in_words}
use Rattle.scope.specs.Laws.SmallRecord.{record_stored, record_words_kept}
use Rattle.scope.specs.Laws.Applied.{SameFlash}
use Rattle.scope.proofs.AppliedSteps.{format_applied, check_applied, read_applied, write_applied, run_applied}
use Rattle.promises.specs.Call.{Call, Format, Check, ReadPage, WritePage, Run, Answer, make}
use Rattle.contracts.specs.Made.{Lent, Numbers, AsWords, entry, exit, counts_at_entry, counts_at_exit, ContractAllows, SameLent, Whole}

-- The state that is left is the definition's where the record is whole; chip and spare are, whole or not.
pub record Says (g : Geometry) (c : Call) (a : Answer) (lent : Lent) : Type 0 where
  pub value : (make g c (entry lent)).value ≡ a
  pub counted : counts_at_exit lent ≡ put_counts (counts_at_entry lent) (counted (make g c (entry lent)).did)
  pub chip : (exit lent).chip ≡ (make g c (entry lent)).after.chip
  pub spare : (exit lent).spare ≡ (make g c (entry lent)).after.spare
  pub after : Whole lent → (make g c (entry lent)).after ≡ exit lent
  -- What does nothing leaves all that was lent.
  pub same : (x : Answer) → make g c (entry lent) ≡ give x (entry lent) → SameLent lent

-- A state stored in words whose record is whole.
state_is : (w : Words) (s : State) → length w.small ≡ record_words
    → s ≡ with_small (record_of (sets w.small 0 (words_from s.small))) s
state_is w s whole = ap (λ (r : SmallRecord). with_small r s) (sym (record_stored w.small s.small whole))

-- Words with another record and other counts: a record that is stored where it was loaded from leaves its words.
abbrev with_ends : Words → List ℕ → List ℕ → Words
with_ends w small counts =
    record { chip = w.chip; spare = w.spare; directory = w.directory; cache = w.cache; small = small; counts = counts }

pub says : (g : Geometry) (c : Call) (a : Answer) (lent : Lent) → ContractAllows g c a lent → Says g c a lent
unfolding in_words give counted
says g c a (Numbers s counts s' counts') h =
    record {
      value = h.value;
      counted = h.counted;
      chip = ap (λ (t : State). t.chip) (sym h.after);
      spare = ap (λ (t : State). t.spare) (sym h.after);
      after = λ whole. h.after;
      same = λ x e. (
        sym h.after ∙ ap (λ (o : Outcome Answer). o.after) e,
        h.counted ∙ ap (λ (o : Outcome Answer). put_counts counts (counted o.did)) e,
      );
    }
says g c a (AsWords w w') h =
    record {
      value = h.answer;
      counted = sym (ap (λ (v : Words). v.counts) h.lent);
      chip = sym (ap (λ (v : Words). v.chip) h.lent);
      spare = sym (ap (λ (v : Words). v.spare) h.lent);
      after = λ whole. state_is w (make g c (from_words w)).after whole ∙ ap from_words h.lent;
      same = λ x e. sym h.lent ∙ ap (to_words w) e
          ∙ ap (λ (small : List ℕ). with_ends w small (put_counts w.counts no_counts)) (record_words_kept w.small);
    }

-- A call's operations made its chip and its spare.
pub made_as : (g : Geometry) (c : Call) (s : State) → SameFlash (make g c s).after (apply_all g (make g c s).did s)
made_as g (Format others) s = (format_applied others).law s
made_as g (Check others) s = (check_applied others).law s
made_as g (ReadPage others l buffer) s = (read_applied others l buffer).law s
made_as g (WritePage others l buffer) s = (write_applied others l buffer).law s
made_as g (Run others requests words answers) s = (run_applied others requests words answers).law s
