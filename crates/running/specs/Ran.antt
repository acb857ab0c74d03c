-- The parts of a run put together: the requests one after the other, that each can be served where the run was admitted, and that begin,
-- the requests and finish are the call of the definitions. For whoever goes through the requests.
use Rattle.std.specs.Prelude.{ℕ, suc, ◌+◌, ◌*◌, ◌<◌, ◌≡◌, refl, Bool, cond, List, eqb, leb, length, get_or}
use Rattle.std.proofs.Common.{sym, ap, subst, ◌∙◌, arith, eqb-true, eq-eqb, ne_eqb, leb-true}
use Rattle.std.proofs.Math.Bool.{true, false}
use Rattle.std.proofs.Math.Numerals.{add-one}
use Rattle.flash.specs.Cases.{same?, and_true}
use Rattle.lent.specs.declared.Record.{Record}
use Rattle.lent.specs.Model.{counts, Lists, together}
use Rattle.lent.specs.Reply.{tested}
use Rattle.lent.specs.Does.{Does}
use Rattle.lent.specs.Ready.{Ready}
use Rattle.lent.specs.DoesLaws.{does_give, does_bind, does_ends, does_value}
use Rattle.scope.specs.Geometry.{Geometry}
use Rattle.scope.specs.Lent.{State, Request, most_requests}
use Rattle.scope.specs.Operations.{Counts, give, ◌>>=◌}
use Rattle.scope.specs.Replies.{DONE, Size, first_applying, right_sizes}
use Rattle.scope.specs.Calls.{state_sizes, state_tests, RunReplied, run_replied, no_request, serve_record, serve_records, run}
use Rattle.geometry.specs.Sizes.{piece_inside}
use Rattle.running.specs.declared.Running.{Running}
use Rattle.scope.specs.Holding.{Answers}
use Rattle.replies.specs.Answers.{does_answers, refuses, admits}
use Rattle.replies.specs.Sizes.{run_right, with_run}
use Rattle.admission.specs.Tested.{state_passes, state_ready}
use Rattle.admission.specs.Room.{most_cost, room_at_first}
use Rattle.running.specs.Ends.{Begun, Finished, if_done}
use Rattle.words.specs.Noted.{Noted}
use Rattle.running.specs.Asks.{Asks, asks_less, asks_again}
use Rattle.running.specs.Serve.{Serving, Runs}
use Rattle.running.specs.Records.{records_keep}

-- ---- one request after the other

module _ (g : Geometry) (requests : List Request) {a : Running} {s : State} {words answers : List ℕ} where
  pub runs_none : Runs (serve_records g requests 0) a s words answers a s words answers
  unfolding serve_records
  runs_none = record { same_answer = refl; does = none (eqb (tested a.answer) DONE) }
    where
      none : (b : Bool)
          → Does (cond b (serve_records g requests 0 (run_replied words answers DONE)) (give (run_replied words answers DONE)))
          s (counts a.counts) (run_replied words answers DONE) s (counts a.counts)
      none true = does_give _
      none false = does_give _

  pub runs_more : (n : ℕ) {b c : Running} {s₁ s₂ : State} {words₁ answers₁ words₂ answers₂ : List ℕ}
      → Runs (serve_records g requests n) a s words answers b s₁ words₁ answers₁
      → Runs (serve_record g n (get_or requests n no_request)) b s₁ words₁ answers₁ c s₂ words₂ answers₂
      → Runs (serve_records g requests (n + 1)) a s words answers c s₂ words₂ answers₂
  unfolding serve_records give ◌>>=◌
  runs_more n {b} {c} {s₁} {s₂} {words₁} {answers₁} {words₂} {answers₂} p q =
      record {
        same_answer = q.same_answer ∙ p.same_answer;
        does = rw add-one (more (eqb (tested a.answer) DONE) p.does (rw p.same_answer at q.does));
      }
    where
      more : (d : Bool)
          → Does (cond d (serve_records g requests n (run_replied words answers DONE)) (give (run_replied words answers DONE)))
          s (counts a.counts) (run_replied words₁ answers₁ DONE) s₁ (counts b.counts)
          → Does (cond d (serve_record g n (get_or requests n no_request) (run_replied words₁ answers₁ DONE)) (give (run_replied words₁ answers₁ DONE)))
          s₁ (counts b.counts) (run_replied words₂ answers₂ DONE) s₂ (counts c.counts)
          → Does (cond d (serve_records g requests (suc n) (run_replied words answers DONE)) (give (run_replied words answers DONE)))
          s (counts a.counts) (run_replied words₂ answers₂ DONE) s₂ (counts c.counts)
      more true x y = does_bind (serve_record g n (get_or requests n no_request)) x y
      more false x y = does_bind give x y

-- ---- where the run is admitted

-- What the tests of a run of n requests give: that all of them may be asked for, and what is lent.
pub record Admitted (g : Geometry) (n : ℕ) (a : Running) (s : State) (words answers census filter : List ℕ) : Type 0 where
  pub asks : Asks g (n * most_cost) s a.counts census filter
  pub words_long : length words ≡ n * g.W
  pub answers_long : length answers ≡ n

-- For those that are served only where the run is admitted.
abbrev pub Tested : Geometry → ℕ → Running → State → List ℕ → List ℕ → List ℕ → List ℕ → Type 0
Tested g n a s words answers census filter = tested a.answer ≡ DONE → Admitted g n a s words answers census filter

pub begun_admits : {g : Geometry} {others : List Size} {n : ℕ} {s s' : State} {words answers census filter : List ℕ} {a : Running}
    → Begun g others n (length words) (length answers) s a s' census filter
    → Tested g n a s' words answers census filter
unfolding right_sizes
begun_admits {g} {others} {n} {s} {s'} {words} {answers} {census} {filter} {a} begun e =
    let right = run_right g n (length words) (length answers) others in
    let pass = state_passes g s right
    (sym e ∙ begun.tested ∙ ap (λ (b : Bool). first_applying (state_tests g b s)) (with_run g s n (length words) (length answers) others)) in
    let few = and_true (leb n most_requests) _ (and_true (right_sizes (state_sizes g s)) right pass.sizes_passed.sized).1 in
    let long = and_true (eqb (length words) (n * g.W)) _ few.1 in
    let at_most = leb-true n most_requests few.0 in
    record {
      asks = record {
        ready = subst (λ (x : State). Ready g x (n * most_cost) a.counts) (sym begun.kept)
            (state_ready g s right pass (room_at_first (omega (arith, at_most)) begun.uncounted));
        noted = if_done a.answer e begun.noted;
      };
      words_long = eqb-true (length words) (n * g.W) long.0;
      answers_long = eqb-true (length answers) n (and_true (eqb (length answers) n) (right_sizes others) long.1).0;
    }

-- Request i can be served after those before it.
pub runs_ready : (g : Geometry) (requests : List Request) {n i : ℕ} {a b : Running} {s s' : State}
    {words answers census filter words' answers' census' filter' : List ℕ}
    → Tested g n a s words answers census filter → i < n
    → Runs (serve_records g requests i) a s words answers b s' words' answers'
    → (Noted g s census filter → Noted g s' census' filter')
    → tested b.answer ≡ DONE → Serving g i b s' words' answers' census' filter'
runs_ready g requests {n} {i} {a} {b} {s} {s'} {words} {answers} admits h ran noted e =
    let admitted : tested a.answer ≡ DONE = sym (ap tested ran.same_answer) ∙ e in
    let start = admits admitted in
    let lent = run_replied words answers DONE in
    let did = rw (eq-eqb (tested a.answer) DONE admitted) at ran.does in
    let ready = start.asks.ready in
    let kept = records_keep ready.accepted requests lent s ready.lengths ready.sound n start.words_long i (omega arith) in
    let long = ap (λ (r : RunReplied). length r.words) did.value in
    record {
      asks = asks_again most_cost (i * most_cost) (asks_less (omega arith) start.asks) did kept.few kept.lengths kept.sound
          (noted start.asks.noted);
      part_fits = omega (arith, piece_inside g.W n i h, long, kept.words_long, start.words_long);
      answer_fits = omega (arith, ap (λ (r : RunReplied). length r.answers) did.value, kept.answers_long, start.answers_long);
    }

-- ---- a walk through the requests

-- The first n requests, as a walk through them says it.
pub record Ran (g : Geometry) (requests : List Request) (n : ℕ) (a : Running) (s : State) (words answers census filter : List ℕ)
    (b : Running) (s' : State) (words' answers' census' filter' : List ℕ) : Type 0 where
  pub runs : Runs (serve_records g requests n) a s words answers b s' words' answers'
  pub noted : Noted g s census filter → Noted g s' census' filter'

-- ---- the whole

-- What nothing does.
gives : {A : Type 0} {x y : A} {s s' : State} {c c' : Counts} → Does (give x) s c y s' c' → (x ≡ y) × (s ≡ s') × (c ≡ c')
unfolding give
gives {x = x} {s = s} {c = c} d = (d.value, d.after, sym (does_give {s = s} {c = c} x).counting ∙ d.counting)

-- Begun, served to the last request and finished, with the record that is handed on, is the call: the requests' answers, the state and the
-- counts after are its own.
pub run_answers : (g : Geometry) (requests : List Request) {others : List Size} {a b : Running} {s s₁ : State} {x : Lists}
    {words answers census filter words' answers' given given' : List ℕ} {answer : ℕ} {rec : Record}
    → Begun g others (length requests) (length words) (length answers) s a s₁ census filter
    → Runs (serve_records g requests (length requests)) a s₁ words answers b (together x b.rec) words' answers'
    → Finished b given answer rec given'
    → Answers (run g others requests words answers s) given
    (run_replied words' answers' answer) (together x rec) given'
unfolding run
run_answers g requests {others} {a} {b} {s} {x = x} {words} {answers} {words' = words'} {answers'} {given} {given'}
    {answer} begun ran finished =
    subst
    (λ (r : Record). Answers (run g others requests words answers s) given
    (run_replied words' answers' answer) (together x r) given')
    (sym finished.recorded)
    (does_answers {m = run g others requests words answers} {s = s} (counts b.counts)
    (same? (tested a.answer) DONE
    (λ e. rw (finished.answered ∙ ap tested ran.same_answer ∙ e)
    (admits _ (λ t. t) (run_replied words answers) (serve_records g requests (length requests) (run_replied words answers DONE))
    (sym e ∙ begun.tested)
    (rw (eq-eqb (tested a.answer) DONE e, begun.kept, begun.uncounted) at ran.does)))
    (λ e.
    let same = gives (rw (ne_eqb (tested a.answer) DONE e, begun.kept, begun.uncounted) at ran.does) in
    does_ends
    (does_value
    (refuses _ (λ t. t) (run_replied words answers) (serve_records g requests (length requests) (run_replied words answers DONE)) begun.tested e)
    (ap (λ (r : RunReplied). run_replied r.words r.answers (tested a.answer)) same.0
    ∙ ap (run_replied words' answers') (sym (finished.answered ∙ ap tested ran.same_answer))))
    same.1 same.2))
    finished.handed)
