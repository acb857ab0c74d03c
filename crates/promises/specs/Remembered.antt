-- The store: what a program may remember of the calls that it made and their answers. Demand 2 says that reads tell it.
use Rattle.std.specs.Prelude.{ℕ, zero, suc, ◌≡◌, ◌⊎◌, cond, ◌&&◌, List, eqb, length, get_or}
use Rattle.scope.specs.Geometry.{Geometry}
use Rattle.scope.specs.Lent.{none, Entry, Place, Nowhere, decode, State, Request, words_of}
use Rattle.scope.specs.Sound.{current}
use Rattle.scope.specs.Replies.{DONE, UNWRITTEN}
use Rattle.scope.specs.Calls.{part, no_request}
use Rattle.promises.specs.Call.{Call, Format, Check, ReadPage, WritePage, Run, Answer}

-- The store: to each logical page its words, or nothing.
pub data Held : Type 0 where
  Holding : List ℕ → Held
  Nothing : Held

abbrev pub Store : Type 0
Store = ℕ → Held

abbrev pub with_words : ℕ → List ℕ → Store → Store
with_words l words store k = cond (eqb k l) (Holding words) (store k)

-- A run's records in order, each by its own answer: a write counts where it answered DONE.
abbrev pub noted_record : Request → List ℕ → ℕ → Store → Store
noted_record q words reply store = cond (eqb q.kind 1 && eqb reply DONE) (with_words q.page words store) store

abbrev pub noted_records : Geometry → List Request → List ℕ → List ℕ → ℕ → Store → Store
noted_records g requests words answers zero store = store
noted_records g requests words answers (suc i) store =
    noted_record (get_or requests i no_request) (part g i words) (get_or answers i none)
    (noted_records g requests words answers i store)

-- What a call and its answer do to the store.
abbrev pub noted : Geometry → Call → Answer → Store → Store
noted g (Format others) a store = cond (eqb a.reply DONE) (λ l. Nothing) store
noted g (Check others) a store = store
noted g (ReadPage others l buffer) a store = store
noted g (WritePage others l buffer) a store = cond (eqb a.reply DONE) (with_words l buffer store) store
noted g (Run others requests words answers) a store =
    cond (eqb a.reply DONE) (noted_records g requests words a.answers (length requests) store) store

-- "Held by the state begun with": the words of the page's current place.
abbrev pub words_at : Geometry → List ℕ → Entry → Held
words_at g chip (Place p) = Holding (words_of g p chip)
words_at g chip Nowhere = Nothing

abbrev pub held : Geometry → State → Store
held g s l = words_at g s.chip (decode (current g s l))

-- An answer, not a refusal, to a read of a page with this content.
abbrev pub Tells : Held → ℕ → List ℕ → Type 0
Tells content reply buffer = ((reply ≡ DONE) × (content ≡ Holding buffer)) ⊎ ((reply ≡ UNWRITTEN) × (content ≡ Nothing))
