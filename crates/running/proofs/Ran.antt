-- A walk through the requests: what it does after each of them, and that with begin and finish it is the call.
use Rattle.std.specs.Prelude.{ℕ, zero, suc, ◌+◌, ◌<◌, ◌≡◌, refl, List, [], ◌∷◌, map, length, get_or}
use Rattle.std.proofs.Common.{arith}
use Rattle.std.proofs.lemmas.List.{length-map}
use Rattle.lent.specs.declared.Record.{Record}
use Rattle.lent.specs.Model.{Lists, together}
use Rattle.lent.specs.Reply.{tested}
use Rattle.scope.specs.Geometry.{Geometry}
use Rattle.scope.specs.Lent.{State, Request}
use Rattle.scope.specs.Replies.{DONE, Size, right_sizes}
use Rattle.scope.specs.Calls.{run_replied, no_request, run}
use Rattle.replies.specs.declared.Request.{Request as Asked}
use Rattle.replies.specs.Model.{request}
use Rattle.running.specs.declared.Running.{Running}
use Rattle.scope.specs.Holding.{Answers}
use Rattle.running.specs.Ends.{Begun, Finished}
use Rattle.running.specs.Serve.{Serving, Served}
use Rattle.running.specs.Ran.{Tested, Ran, runs_none, runs_more, runs_ready, run_answers}

-- Request i, whatever a place past the end would read as.
pub request_at : (asked : List Asked) (i : ℕ) (past : Asked) → i < length asked
    → request (get_or asked i past) ≡ get_or (map request asked) i no_request
request_at [] i past h = absurd (omega arith)
request_at (q ∷ asked) zero past h = refl
request_at (q ∷ asked) (suc i) past h = request_at asked i past (omega arith)

module _ {g : Geometry} {requests : List Request} {a : Running} {s : State} {words answers census filter : List ℕ} where
  pub ran_none : Ran g requests 0 a s words answers census filter a s words answers census filter
  ran_none = record { runs = runs_none g requests; noted = λ x. x }

  module _ {i : ℕ} {b : Running} {s₁ : State} {words₁ answers₁ census₁ filter₁ : List ℕ}
      (ran : Ran g requests i a s words answers census filter b s₁ words₁ answers₁ census₁ filter₁) where
    pub ran_more : {q : Request} {c : Running} {s₂ : State} {words₂ answers₂ census₂ filter₂ : List ℕ}
        → q ≡ get_or requests i no_request
        → Served g i q b s₁ words₁ answers₁ census₁ filter₁ c s₂ words₂ answers₂ census₂ filter₂
        → Ran g requests (i + 1) a s words answers census filter c s₂ words₂ answers₂ census₂ filter₂
    ran_more e served =
        record { runs = runs_more g requests i ran.runs (rw e at served.runs); noted = λ x. served.noted (ran.noted x) }

    pub ran_ready : {n : ℕ} → i < n → Tested g n a s words answers census filter → tested b.answer ≡ DONE
        → Serving g i b s₁ words₁ answers₁ census₁ filter₁
    ran_ready h admits = runs_ready g requests admits h ran.runs ran.noted

-- The whole with a lent slice of requests, which have no odd word.
pub ran_answers : (asked : List Asked) {g : Geometry} {others : List Size} {a b : Running} {s s₁ : State} {x : Lists}
    {words answers census filter words' answers' census' filter' given given' : List ℕ} {answer : ℕ} {rec : Record}
    → Begun g (record { has = 0; should = 0 } ∷ others) (length asked) (length words) (length answers) s a s₁ census filter
    → Ran g (map request asked) (length asked) a s₁ words answers census filter b (together x b.rec) words' answers' census' filter'
    → Finished b given answer rec given'
    → Answers (run g others (map request asked) words answers s) given (run_replied words' answers' answer)
    (together x rec) given'
unfolding run right_sizes
ran_answers asked {g} begun ran finished =
    let n : length (map request asked) ≡ length asked = length-map asked request in
    run_answers g (map request asked) (rw (← n) at begun) (rw (← n) at ran.runs) finished
