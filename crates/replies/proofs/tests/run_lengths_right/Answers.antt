-- `tests::run_lengths_right` meets its contract.
use mathlib.Core.Path.{◌∙◌}
use native.Mathlib.Nat.{mul-le-mul}
use native.Mathlib.Omega.{arith}
use borrow.Author.Tests.{lt-leb}
use Rattle.scope.specs.Lent.{most_requests}
use Rattle.replies.specs.Sizes.{size_wrong, size_right, few_enough}
use Rattle.replies.proofs.tests.run_lengths_right.Goals as goal

pub returns-then-n-gt-MOST_REQUESTS : goal.returns-then-n-gt-MOST_REQUESTS
returns-then-n-gt-MOST_REQUESTS c = rw (lt-leb c.args.n most_requests c.if-n-gt-MOST_REQUESTS.true)

pub overflow_mul-n : goal.overflow_mul-n
overflow_mul-n c = let a = c.args in
    omega (arith, mul-le-mul {n₁ = a.n} {m₁ = a.g.w} {n₂ = most_requests} {m₂ = 4294967296} c.if-n-gt-MOST_REQUESTS.false (omega arith))

pub returns-then-words-n : goal.returns-then-words-n
returns-then-words-n c = few_enough c.if-n-gt-MOST_REQUESTS.false (size_wrong _ c.if-words-n.true)

pub returns-then-answers-n : goal.returns-then-answers-n
returns-then-answers-n c = few_enough c.if-n-gt-MOST_REQUESTS.false (size_wrong _ c.if-answers-n.true ∙ size_right _ c.if-words-n.false)

pub returns-then-odd_words-ne0 : goal.returns-then-odd_words-ne0
returns-then-odd_words-ne0 c = few_enough c.if-n-gt-MOST_REQUESTS.false
    (size_wrong _ c.if-odd_words-ne0.true ∙ size_right _ c.if-answers-n.false ∙ size_right _ c.if-words-n.false)

pub returns : goal.returns
returns c = few_enough c.if-n-gt-MOST_REQUESTS.false
    (c.lengths_right.ensures
    ∙ size_right _ c.if-odd_words-ne0.false
    ∙ size_right _ c.if-answers-n.false
    ∙ size_right _ c.if-words-n.false)
