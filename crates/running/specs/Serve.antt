-- A request of a run: what serving it asks for, what it does, and that the next one can be served.
use Rattle.std.specs.Prelude.{ℕ, ◌+◌, ◌*◌, ◌≤◌, ◌<◌, ◌≡◌, refl, ◌≢◌, cond, eqb, take, drop}
use Rattle.std.proofs.Math.Path.{sym, ap}
use Rattle.std.proofs.Common.{◌∙◌, arith, drop-drop, ne_eqb}
use mathlib.Core.List.{List, ◌++◌, append_assoc}
use Rattle.std.proofs.Math.ListN.{length}
use Rattle.std.proofs.lemmas.List.Edits.{sets, sets-eq}
use Rattle.lent.specs.Model.{counts}
use Rattle.lent.specs.Reply.{tested}
use Rattle.lent.specs.Does.{Does}
use Rattle.lent.specs.DoesLaws.{does_give, does_cond_false}
use Rattle.scope.specs.Geometry.{Geometry}
use Rattle.scope.specs.Lent.{State, Request}
use Rattle.scope.specs.Operations.{Step, give}
use Rattle.scope.specs.Replies.{DONE}
use Rattle.scope.specs.Calls.{RunReplied, run_replied, serve_record}
use Rattle.running.specs.declared.Running.{Running}
use Rattle.admission.specs.Room.{most_cost}
use Rattle.words.specs.Noted.{Noted}
use Rattle.running.specs.Asks.{Asks}

-- Request i can be served.
pub record Serving (g : Geometry) (i : ℕ) (cur : Running) (s : State) (words answers census filter : List ℕ) : Type 0 where
  pub asks : Asks g most_cost s cur.counts census filter
  pub part_fits : i * g.W + g.W ≤ length words
  pub answer_fits : i < length answers

-- A part of a run, from a to b: where the run is admitted it does m to what is lent, and nothing else.
pub record Runs (m : RunReplied → Step RunReplied) (a : Running) (s : State) (words answers : List ℕ)
    (b : Running) (s' : State) (words' answers' : List ℕ) : Type 0 where
  pub same_answer : b.answer ≡ a.answer
  pub does : Does (cond (eqb (tested a.answer) DONE) (m (run_replied words answers DONE)) (give (run_replied words answers DONE)))
      s (counts a.counts) (run_replied words' answers' DONE) s' (counts b.counts)

-- What serving request i does: it keeps the notes too.
pub record Served (g : Geometry) (i : ℕ) (q : Request) (a : Running) (s : State) (words answers census filter : List ℕ)
    (b : Running) (s' : State) (words' answers' census' filter' : List ℕ) : Type 0 where
  pub runs : Runs (serve_record g i q) a s words answers b s' words' answers'
  pub noted : Noted g s census filter → Noted g s' census' filter'

-- ---- the part of the words that was lent

-- It comes back in its place.
pub part_back : (words : List ℕ) (at k : ℕ) (buffer : List ℕ) → at + k ≤ length words → length buffer ≡ k
    → take at words ++ (buffer ++ drop k (drop at words)) ≡ sets words at buffer
part_back words at k buffer fits long =
    sym (sets-eq buffer words at (omega arith)
    ∙ append_assoc (take at words) buffer (drop (at + length buffer) words)
    ∙ ap (λ (l : List ℕ). take at words ++ (buffer ++ l))
    (ap (λ (n : ℕ). drop (at + n) words) long ∙ sym (drop-drop k at words)))

-- ---- one request

-- No request is served where the run isn't admitted.
pub not_admitted : (m : RunReplied → Step RunReplied) {a : Running} {s : State} {words answers : List ℕ} → tested a.answer ≢ DONE
    → Runs m a s words answers a s words answers
not_admitted m {a} h =
    record { same_answer = refl; does = does_cond_false _ _ _ (ne_eqb (tested a.answer) DONE h) (does_give _) }
