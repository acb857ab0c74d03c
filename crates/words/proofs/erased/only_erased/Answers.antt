-- `erased::only_erased` meets its contract. The loop's invariant: the bits tell whether the words of the first k stretches are erased.
use native.Mathlib.Omega.{arith}
use mathlib.Core.Path.{◌≡◌, ap, ◌∙◌}
use Prim.Native.Nat.{ℕ, ◌+◌, ◌-◌, ◌*◌, ◌%◌}
use lib.ListN.{length}
use Rattle.scope.specs.Counting.{all}
use Rattle.words.specs.Erased.{is_erased_word, swept_on}
use Rattle.words.proofs.erased.only_erased.Goals as goal

pub loop-k-preserved : goal.loop-k-preserved
loop-k-preserved c = let turn = c.loop-k in
    let words = c.args.words.now in
    let next : turn.k * 256 + 256 ≡ (turn.k + 1) * 256 = omega arith in
    swept_on words (turn.k * 256) 256 turn.bits c.sweep-bits.result turn.invariant c.sweep-bits.ensures
    ∙ ap (λ (n : ℕ). all n (is_erased_word words)) next

pub returns : goal.returns
returns c = let words = c.args.words.now in
    let turn = c.loop-k in
    let rest = length words % 256 in
    let done : turn.k * 256 ≡ length words - rest = omega arith in
    let end : length words - rest + rest ≡ length words = omega arith in
    swept_on words (length words - rest) rest turn.bits c.sweep.result
    (turn.invariant ∙ ap (λ (n : ℕ). all n (is_erased_word words)) done) c.sweep.ensures
    ∙ ap (λ (n : ℕ). all n (is_erased_word words)) end
