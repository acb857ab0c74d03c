-- `words::runs::copy_out` meets its contract. The invariant: the first i words are stored.
use mathlib.Core.Path.{sym, ◌∙◌}
use native.Mathlib.Omega.{arith}
use lib.ListN.{length, take, drop}
use Rattle.words.specs.Runs.{none_stored, one_stored, all_stored, sets_whole, length_part, part_at}
use Rattle.words.proofs.runs.copy_out.Goals as goal

pub loop-i-init : goal.loop-i-init
loop-i-init c = none_stored

pub loop-i-preserved : goal.loop-i-preserved
loop-i-preserved c = let a = c.args in
    one_stored c.loop-i.invariant
    (omega (arith, length_part a.src.now a.from (length a.dst.now) c.requires))
    (omega arith)
    (sym (part_at a.src.now a.from (length a.dst.now) c.loop-i.i (omega arith)))

pub returns : goal.returns
returns c = let a = c.args in
    let len = length_part a.src.now a.from (length a.dst.now) c.requires in
    all_stored c.loop-i.invariant (omega arith)
    ∙ sets_whole a.dst.now (take (length a.dst.now) (drop a.from a.src.now)) len
