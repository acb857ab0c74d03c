-- `words::runs::fill_erased` meets its contract: the part filled holds the words stored one after the other.
use Rattle.std.proofs.Common.{ℕ, ◌+◌, ◌-◌, ◌≡◌, ◌∙◌, arith, length, sym, ap, take_all, replicate}
use Rattle.std.proofs.lemmas.List.{length-replicate}
use Rattle.std.proofs.lemmas.Slice.{put_mid-paste}
use Rattle.std.proofs.lemmas.List.Edits.{sets}
use Rattle.scope.specs.Lent.{erased}
use Rattle.words.specs.Runs.{length_part, sets_pasted}
use Rattle.words.proofs.runs.fill_erased.Goals as goal

pub returns : goal.returns
returns c = let a = c.args in
    let vs = replicate a.n erased in
    let long : length vs ≡ a.n = length-replicate a.n erased in
    put_mid-paste _ _ _ _ vs a.n
    (c.fill.ensures.after (λ y e. e)
    ∙ ap (λ (m : ℕ). replicate m erased) (length_part a.s.now a.at (a.at + a.n - a.at) (omega arith) ∙ omega arith))
    (omega arith) (sym long)
    ∙ sets_pasted a.s.now a.at vs a.n (omega arith) (omega arith)
    ∙ ap (sets a.s.now a.at) (take_all a.n vs (omega arith))
