-- `test_single` meets its contract.
use mathlib.Core.Path.{◌∙◌}
use Rattle.lent.specs.Model.{geometry, state}
use Rattle.lent.specs.Reply.{refused_not_done, handed_on}
use Rattle.replies.specs.Model.{request}
use Rattle.admission.specs.Tested.{state_applies, state_passes, request_applies}
use Rattle.admission.specs.SingleTested.{single_tested}
use Rattle.admission.proofs.test_single.Goals as goal

pub returns-in_err-test_state : goal.returns-in_err-test_state
returns-in_err-test_state c =
    let a = c.args in
    let s = state a.chip.now a.spare.now a.directory.now a.cache.now a.rec in
    let is = handed_on _ _ c.from_residual.ensures.1 in
    let not_done = refused_not_done c.in_err-test_state.field-0.0 in
    single_tested c.page_lengths_right-right.ensures
    (is ∙ state_applies (geometry a.g) s c.page_lengths_right-right.result (request a.q) c.in_err-test_state.ensures.state_tested not_done)
    (λ e. absurd (not_done (rw is at e)))

pub returns-in_err-test_request : goal.returns-in_err-test_request
returns-in_err-test_request c =
    let a = c.args in
    let s = state a.chip.now a.spare.now a.directory.now a.cache.now a.rec in
    let pass = state_passes (geometry a.g) s c.page_lengths_right-right.result c.in_ok-test_state.ensures.state_tested in
    single_tested c.page_lengths_right-right.ensures
    (handed_on _ _ c.from_residual-in_err-test_request.ensures.1
    ∙ request_applies (geometry a.g) s c.page_lengths_right-right.result (request a.q) pass c.in_err-test_request.ensures.first)
    (λ _. c.in_ok-test_state.ensures.noted)

pub returns : goal.returns
returns c =
    let a = c.args in
    let s = state a.chip.now a.spare.now a.directory.now a.cache.now a.rec in
    let pass = state_passes (geometry a.g) s c.page_lengths_right-right.result c.in_ok-test_state.ensures.state_tested in
    single_tested c.page_lengths_right-right.ensures
    (request_applies (geometry a.g) s c.page_lengths_right-right.result (request a.q) pass c.in_ok-test_request.ensures.first)
    (λ _. c.in_ok-test_state.ensures.noted)
