-- `words::runs::copy_in` meets its contract: the part written over holds the words stored one after the other.
use Rattle.std.proofs.Common.{arith, length, refl, ap, ◌∙◌, take_all}
use Rattle.std.proofs.lemmas.Slice.{put_mid-paste}
use Rattle.std.proofs.lemmas.List.Edits.{sets}
use Rattle.words.specs.Runs.{sets_pasted}
use Rattle.words.proofs.runs.copy_in.Goals as goal

pub returns : goal.returns
returns c = let a = c.args in
    let n = length a.src.now in
    put_mid-paste _ _ _ _ a.src.now n c.copy_from_slice.ensures.after (omega arith) refl
    ∙ sets_pasted a.dst.now a.at a.src.now n (omega arith) (omega arith)
    ∙ ap (sets a.dst.now a.at) (take_all n a.src.now (omega arith))
