-- Check: the tests' answer is the call's, and nothing is done.
use Rattle.std.specs.Prelude.{ℕ, ◌≡◌, Bool, List, ◌++◌}
use Rattle.std.proofs.Common.{ap, sym, ◌∙◌}
use Rattle.flash.specs.Cases.{same?}
use Rattle.lent.specs.Does.{Does}
use Rattle.lent.specs.DoesLaws.{does_give}
use Rattle.scope.specs.Geometry.{Geometry}
use Rattle.scope.specs.Lent.{State}
use Rattle.scope.specs.Operations.{no_counts, give}
use Rattle.scope.specs.Replies.{DONE, Size, first_applying, right_sizes}
use Rattle.scope.specs.Calls.{state_sizes, state_tests, check}
use Rattle.scope.specs.Boundary.{put_counts}
use Rattle.scope.specs.Holding.{Answers}
use Rattle.replies.specs.Answers.{does_answers, refuses, admits}
use Rattle.replies.specs.Sizes.{with_others}
use Rattle.admission.specs.Tested.{StateTested}

module _ (g : Geometry) (s : State) (others : List Size) {right : Bool} {n : ℕ} (named : right ≡ right_sizes others)
    (tested : StateTested g s right n) where
  answered : n ≡ first_applying (state_tests g (right_sizes (state_sizes g s ++ others)) s)
  answered = tested ∙ ap (λ (b : Bool). first_applying (state_tests g b s)) (with_others g s others named)

  does_check : Does (check g others) s no_counts n s no_counts
  unfolding check
  does_check =
      same? n DONE
      (λ z. rw z (admits _ (λ t. t) (λ n. n) (give DONE) (sym z ∙ answered) (does_give DONE)))
      (λ z. refuses _ (λ t. t) (λ n. n) (give DONE) answered z)

  pub check_answers : {counts counts' : List ℕ} → counts' ≡ put_counts counts no_counts → Answers (check g others s) counts n s counts'
  check_answers e = does_answers no_counts does_check e
