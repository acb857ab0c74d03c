-- A run over request words: the law by which the run goes from what its parts ensure to what it ensures. It is the law of a run in its
-- parts, with the requests that the words are.
use Rattle.std.specs.Prelude.{ℕ, ◌/◌, ◌≡◌, List, length}
use Rattle.std.proofs.Common.{sym, ◌∙◌}
use Rattle.lent.specs.declared.Record.{Record}
use Rattle.lent.specs.Model.{Lists, together}
use Rattle.scope.specs.Geometry.{Geometry}
use Rattle.scope.specs.Lent.{State}
use Rattle.scope.specs.Replies.{Size}
use Rattle.scope.specs.Calls.{run_replied, serve_records, run}
use Rattle.scope.specs.Boundary.{requests_of}
use Rattle.scope.specs.Holding.{Answers}
use Rattle.running.specs.declared.Running.{Running}
use Rattle.running.specs.Ends.{Begun, Finished}
use Rattle.running.specs.Serve.{Runs}
use Rattle.running.specs.Ran.{run_answers}
use Rattle.wording.specs.Asked.{half_as_many}

-- Begun, served to the last request and finished, with the record that is handed on, is the call.
pub run_words_answers : (g : Geometry) (ws : List ℕ) {others : List Size} {n : ℕ} {a b : Running} {s s₁ : State} {x : Lists}
    {words answers census filter words' answers' given given' : List ℕ} {answer : ℕ} {rec : Record}
    → n ≡ length ws / 2
    → Begun g others n (length words) (length answers) s a s₁ census filter
    → Runs (serve_records g (requests_of ws) (length ws / 2)) a s₁ words answers b (together x b.rec) words' answers'
    → Finished b given answer rec given'
    → Answers (run g others (requests_of ws) words answers s) given (run_replied words' answers' answer) (together x rec) given'
run_words_answers g ws half begun ran finished =
    let many = half_as_many ws in
    run_answers g (requests_of ws) (rw (half ∙ sym many) at begun) (rw (sym many) at ran) finished
