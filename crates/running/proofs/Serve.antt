-- What serving a request does: it is refused, or its steps are its part's.
use Rattle.std.specs.Prelude.{ℕ, ◌+◌, ◌*◌, ◌≤◌, ◌≡◌, ◌≢◌, take, drop, set}
use Rattle.std.proofs.Math.Path.{refl, ap, subst}
use Rattle.std.proofs.Common.{◌∙◌, eq-eqb}
use mathlib.Core.List.{List, ◌++◌}
use Rattle.std.proofs.Math.ListN.{length}
use Rattle.std.proofs.lemmas.List.Edits.{sets}
use Rattle.lent.specs.Model.{counts}
use Rattle.lent.specs.Reply.{tested}
use Rattle.lent.specs.Does.{Does}
use Rattle.lent.specs.DoesLaws.{does_give, does_bind, does_cond_true}
use Rattle.scope.specs.Geometry.{Geometry}
use Rattle.scope.specs.Lent.{State, Request}
use Rattle.scope.specs.Replies.{DONE, first_applying}
use Rattle.scope.specs.Requests.{Replied, replied}
use Rattle.scope.specs.Calls.{request_tests, part, serve, answer_record, serve_record}
use Rattle.running.specs.declared.Running.{Running}
use Rattle.words.specs.Runs.{length_part, sets_own}
use Rattle.replies.specs.Answers.{refuses, admits}
use Rattle.running.specs.Serve.{Runs, part_back}

module _ (g : Geometry) (i : ℕ) (q : Request) (a : Running) (s : State) (words answers : List ℕ)
    (admitted : tested a.answer ≡ DONE) (fits : i * g.W + g.W ≤ length words) where
  -- The request is admitted too, or it isn't: r is what its tests and its steps hand back.
  stores : {b : Running} {s' : State} {r : Replied} → b.answer ≡ a.answer
      → Does (answer_record g q (part g i words)) s (counts a.counts) r s' (counts b.counts)
      → Runs (serve_record g i q) a s words answers b s' (sets words (i * g.W) r.buffer) (set answers i r.reply)
  unfolding serve_record
  stores e d =
      record {
        same_answer = e;
        does = does_cond_true _ _ _ (eq-eqb (tested a.answer) DONE admitted) (does_bind _ d (does_give _));
      }

  pub request_refused : {n : ℕ} → n ≡ first_applying (request_tests g s.small q) → n ≢ DONE
      → Runs (serve_record g i q) a s words answers a s words (set answers i n)
  unfolding answer_record
  request_refused {n} e h =
      subst (λ (l : List ℕ). Runs (serve_record g i q) a s words answers a s l (set answers i n))
      (sets_own words (i * g.W) g.W fits)
      (stores refl (refuses (λ s. request_tests g s.small q) (λ t. t) _ _ e h))

  pub request_served : {b : Running} {s' : State} {buffer : List ℕ} {reply k : ℕ} → b.answer ≡ a.answer → k ≡ g.W
      → DONE ≡ first_applying (request_tests g s.small q)
      → Does (serve g q (take k (drop (i * g.W) words))) s (counts a.counts) (replied buffer reply) s' (counts b.counts)
      → length buffer ≡ length (take k (drop (i * g.W) words))
      → Runs (serve_record g i q) a s words answers b s'
      (take (i * g.W) words ++ (buffer ++ drop k (drop (i * g.W) words))) (set answers i reply)
  unfolding answer_record
  request_served {buffer = buffer} {reply} {k} e w t d long =
      let as_long = long ∙ ap (λ (n : ℕ). length (take n (drop (i * g.W) words))) w ∙ length_part words (i * g.W) g.W fits in
      rw (w, part_back words (i * g.W) g.W buffer fits as_long)
      (stores e (admits (λ s. request_tests g s.small q) (λ t. t) _ _ t (rw w at d)))
