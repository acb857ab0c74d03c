-- `words::entries::shift_back` meets its contract: what the slice's method writes over are stores one after the other.
use Rattle.std.proofs.Common.{◌-◌, ◌≡◌, ◌∙◌, arith}
use Rattle.scope.specs.Lent.{entry_words}
use Rattle.words.specs.Runs.{sets_pasted}
use Rattle.words.proofs.entries.shift_back.Goals as goal

pub returns : goal.returns
returns c = let a = c.args in
    let n : a.n - 0 ≡ a.n = omega arith in
    c.copy_within.ensures.after ∙ (rw n (sets_pasted a.s.now entry_words a.s.now a.n (omega arith) (omega arith)))
