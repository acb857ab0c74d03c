-- A public call that was made, of those for Rattle or of those for C: what it asked, what it answered, and what it lent, as it was at entry
-- and as it was at exit. Its outcome is one that the call's contract allows, and nothing else is known of it. That these are the contracts
-- of the shipped functions is proved where the functions stand: proofs/Held.antt of face, facepage, facerun and trianglefire.
use Rattle.std.specs.Prelude.{ℕ, ◌≡◌, ◌⊎◌, List, [], ◌∷◌, length}
use Rattle.scope.specs.Geometry.{Geometry}
use Rattle.scope.specs.SmallRecord.{record_words}
use Rattle.scope.specs.Lent.{State}
use Rattle.scope.specs.Operations.{no_counts}
use Rattle.scope.specs.Boundary.{Words, from_words, put_counts, in_words}
use Rattle.scope.specs.Holding.{Answers, Gives}
use Rattle.promises.specs.Call.{Call, Answer, make, as_lent}
use Rattle.promises.specs.Grounds.{Refusal}
use Rattle.promises.specs.Remembered.{Store, noted}

-- What is lent: for Rattle a state, its record in numbers, and the counts' slice; for C words throughout, those of the counts among them.
-- First as at entry, then as at exit.
pub data Lent : Type 0 where
  Numbers : State → List ℕ → State → List ℕ → Lent
  AsWords : Words → Words → Lent

abbrev pub entry : Lent → State
entry (Numbers s counts s' counts') = s
entry (AsWords w w') = from_words w

abbrev pub exit : Lent → State
exit (Numbers s counts s' counts') = s'
exit (AsWords w w') = from_words w'

-- The counts' slice.
abbrev pub counts_at_entry : Lent → List ℕ
counts_at_entry (Numbers s counts s' counts') = counts
counts_at_entry (AsWords w w') = w.counts

abbrev pub counts_at_exit : Lent → List ℕ
counts_at_exit (Numbers s counts s' counts') = counts'
counts_at_exit (AsWords w w') = w'.counts

pub record Made : Type 0 where
  pub call : Call
  pub answer : Answer
  pub lent : Lent

-- The call's contract allows its outcome.
abbrev pub ContractAllows : Geometry → Call → Answer → Lent → Type 0
ContractAllows g c a (Numbers s counts s' counts') = Answers (make g c s) counts a s' counts'
ContractAllows g c a (AsWords w w') = Gives (in_words w (make g c)) a w'

abbrev pub ByContract : Geometry → Made → Type 0
ByContract g m = ContractAllows g m.call m.answer m.lent

-- Every lent list is at exit what it was at entry, but that the counts are 0, 0, 0, "written whenever it has three".
abbrev pub SameLent : Lent → Type 0
SameLent (Numbers s counts s' counts') = (s' ≡ s) × (counts' ≡ put_counts counts no_counts)
SameLent (AsWords w w') =
    w' ≡ record {
      chip = w.chip;
      spare = w.spare;
      directory = w.directory;
      cache = w.cache;
      small = w.small;
      counts = put_counts w.counts no_counts;
    }

abbrev pub LeftAlone : Made → Type 0
LeftAlone m = (m.answer ≡ as_lent m.call m.answer.reply) × SameLent m.lent

-- ---- traces

-- The record is whole: in words, it has all of them.
abbrev pub Whole : Lent → Type 0
Whole (Numbers s counts s' counts') = Unit {0}
Whole (AsWords w w') = length w.small ≡ record_words

-- A call lends the node in state s and leaves it in s'; or it is refused, and then the node is as it was, whatever was lent.
abbrev pub Goes : State → Made → State → Type 0
Goes s m s' =
    ((entry m.lent ≡ s) × Whole m.lent × (exit m.lent ≡ s')) ⊎ (Refusal m.answer.reply × (s' ≡ s))

-- Calls one after the other on a node, those for Rattle and those for C as they come, and refused ones among them: each begins with what
-- the one before left.
abbrev pub Trace : Geometry → State → List Made → State → Type 0
Trace g s [] s'' = s'' ≡ s
Trace g s (m ∷ ms) s'' = (s' : State) × ByContract g m × Goes s m s' × Trace g s' ms s''

-- What a program remembers of a trace, by the calls and their answers alone.
abbrev pub remembered : Geometry → List Made → Store → Store
remembered g [] store = store
remembered g (m ∷ ms) store = remembered g ms (noted g m.call m.answer store)
