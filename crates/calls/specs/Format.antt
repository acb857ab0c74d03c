-- Format, refused and served.
use Rattle.std.specs.Prelude.{ℕ, ◌≡◌, ◌≢◌, Bool, ◌&&◌, List, ◌++◌}
use Rattle.std.proofs.Common.{ap, sym, ◌∙◌}
use Rattle.lent.specs.Does.{Does}
use Rattle.scope.specs.Geometry.{Geometry}
use Rattle.scope.specs.Lent.{State}
use Rattle.scope.specs.Operations.{Counts, no_counts}
use Rattle.scope.specs.Replies.{DONE, Size, first_applying, right_sizes}
use Rattle.scope.specs.Requests.{format_steps}
use Rattle.scope.specs.Calls.{state_sizes, size_tests, format}
use Rattle.formatting.specs.Fresh.{SizedState}
use Rattle.scope.specs.Boundary.{put_counts}
use Rattle.scope.specs.Holding.{Answers}
use Rattle.replies.specs.Answers.{does_answers, refuses, admits}
use Rattle.replies.specs.Sizes.{with_others}
use Rattle.admission.specs.Tested.{sizes_pass, geometry_passes, lengths_pass}

module _ (g : Geometry) (s : State) (others : List Size) {right : Bool} {n : ℕ} (named : right ≡ right_sizes others)
    (tested : n ≡ first_applying (size_tests g (right_sizes (state_sizes g s) && right))) where
  answered : n ≡ first_applying (size_tests g (right_sizes (state_sizes g s ++ others)))
  answered = tested ∙ ap (λ (b : Bool). first_applying (size_tests g b)) (with_others g s others named)

  pub format_sized : n ≡ DONE → SizedState g s
  format_sized e =
      let pass = sizes_pass g s right (sym e ∙ tested) in
      record { accepted = geometry_passes g s right pass; lengths = lengths_pass g s right pass }

  pub format_refused : {counts counts' : List ℕ} → n ≢ DONE → counts' ≡ put_counts counts no_counts
      → Answers (format g others s) counts n s counts'
  unfolding format
  format_refused h e = does_answers no_counts (refuses _ (size_tests g) (λ n. n) (format_steps g) answered h) e

  pub format_served : {s' : State} (c : Counts) {counts counts' : List ℕ} → n ≡ DONE → Does (format_steps g) s no_counts DONE s' c
      → counts' ≡ put_counts counts c → Answers (format g others s) counts DONE s' counts'
  unfolding format
  format_served c e d p = does_answers c (admits _ (size_tests g) (λ n. n) (format_steps g) (sym e ∙ answered) d) p
