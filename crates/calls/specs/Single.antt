-- A single request, be it a read or a write, refused and served.
use Rattle.std.specs.Prelude.{ℕ, ◌≤◌, ◌≡◌, refl, ◌≢◌, Bool, List, ◌++◌, eqb, length}
use Rattle.std.proofs.Common.{ap, sym, ◌∙◌, arith}
use borrow.Author.Tests.{eqb-true}
use Rattle.flash.specs.Cases.{and_true}
use Rattle.lent.specs.Does.{Does}
use Rattle.scope.specs.Geometry.{Geometry, Accepted}
use Rattle.scope.specs.Lent.{State, Request}
use Rattle.scope.specs.Operations.{Counts, no_counts, Step, look, ◌>>=◌}
use Rattle.scope.specs.Replies.{DONE, Size, first_applying, right_sizes, admit}
use Rattle.scope.specs.Requests.{Replied, replied}
use Rattle.scope.specs.Calls.{state_sizes, buffer_sizes, state_tests, request_tests, single_tests}
use Rattle.scope.specs.Boundary.{put_counts}
use Rattle.scope.specs.Holding.{Answers}
use Rattle.words.specs.Noted.{Noted}
use Rattle.lent.specs.Ready.{ReadyFor}
use Rattle.replies.specs.Answers.{does_answers, refuses, admits}
use Rattle.replies.specs.Sizes.{buffer_right, with_others}
use Rattle.admission.specs.Tested.{request_below, single_passes, geometry_passes, state_ready}
use Rattle.admission.specs.Room.{most_cost, room_at_first}
use Rattle.admission.specs.SingleTested.{SingleTested}

-- The definition of either, by its steps.
abbrev pub single : Geometry → List Size → Request → List ℕ → Step Replied → Step Replied
single g others q buffer steps = look (λ s. single_tests g others q buffer s) >>= (λ tests. admit tests (replied buffer) steps)

module _ {g : Geometry} {others : List Size} {q : Request} (buffer : List ℕ) {s : State} {n : ℕ} {census filter : List ℕ}
    (t : SingleTested g others q (length buffer) s n census filter) where
  answered : n ≡ first_applying (single_tests g others q buffer s)
  answered =
      t.tested
      ∙ ap (λ (b : Bool). first_applying (state_tests g b s ++ request_tests g s.small q)) (with_others g s (buffer_sizes g buffer ++ others) refl)

  -- What the steps begin with.
  pub single_ready : (bound : ℕ) → (Accepted g → bound ≤ most_cost) → n ≡ DONE
      → (ReadyFor q.page g s bound (record { reads = 0; programs = 0; erases = 0 }) × (length buffer ≡ g.W))
      × Noted g s census filter
  unfolding right_sizes
  single_ready bound few e =
      let right = buffer_right g (length buffer) others in
      let pass = single_passes g s right q (sym e ∙ t.tested) in
      let sizes = pass.state_passed.sizes_passed in
      let room : bound ≤ most_cost = few (geometry_passes g s right sizes) in (
        (
          record {
            ready = state_ready g s right pass.state_passed (room_at_first (omega arith) refl);
            below = request_below g s.small q pass.request_passed;
          },
          eqb-true (length buffer) g.W (and_true (eqb (length buffer) g.W) (right_sizes others) (and_true (right_sizes (state_sizes g s)) right sizes.sized).1).0,
        ),
        t.noted e,
      )

  module _ (steps : Step Replied) {counts counts' : List ℕ} where
    pub single_refused : n ≢ DONE → counts' ≡ put_counts counts no_counts → Answers (single g others q buffer steps s) counts (replied buffer n) s counts'
    single_refused h e = does_answers no_counts (refuses _ (λ t. t) (replied buffer) steps answered h) e

    pub single_served : {x : Replied} {s' : State} (c : Counts) → n ≡ DONE → Does steps s no_counts x s' c → counts' ≡ put_counts counts c
        → Answers (single g others q buffer steps s) counts x s' counts'
    single_served c e d p = does_answers c (admits _ (λ t. t) (replied buffer) steps (sym e ∙ answered) d) p
