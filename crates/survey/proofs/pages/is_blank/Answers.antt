-- `pages::is_blank` meets its contract.
use Prim.Native.Nat.{ℕ, ◌*◌}
use mathlib.Core.List.{List}
use mathlib.Core.Path.{ap, ◌∙◌}
use native.Mathlib.Nat.{add-sub_cancel_left}
use lib.ListN.{length, take, drop}
use Rattle.scope.specs.Counting.{all}
use Rattle.words.specs.Erased.{is_erased_word}
use Rattle.survey.specs.Pages.{blank_part}
use Rattle.survey.proofs.pages.is_blank.Goals as goal

pub returns : goal.returns
returns c = let a = c.args in
    let w : ℕ = a.w in
    let chip : List ℕ = a.chip.now in
    let at : ℕ = a.p * w in
    c.only_erased.ensures
    ∙ ap (λ (n : ℕ). all (length (take n (drop at chip))) (is_erased_word (take n (drop at chip)))) (add-sub_cancel_left at w)
    ∙ blank_part w chip a.p c.requires
