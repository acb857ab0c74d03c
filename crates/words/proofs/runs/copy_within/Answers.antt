-- `words::runs::copy_within` meets its contract. The invariant: the first i words are stored. What is still to be read has not been
-- written over, since the runs lie apart or the words move towards the front.
use Prim.Native.Nat.{◌+◌}
use mathlib.Core.Path.{refl, sym, ◌∙◌}
use mathlib.Core.Logic.{inl, inr, ⊎_elim}
use native.Mathlib.Omega.{arith}
use Rattle.words.specs.Runs.{one_stored, all_stored, stored_kept, length_part, part_at}
use Rattle.words.proofs.runs.copy_within.Goals as goal

pub loop-i-preserved : goal.loop-i-preserved
loop-i-preserved c = let a = c.args in
    let i = c.loop-i.i in
    one_stored c.loop-i.invariant (omega (arith, length_part a.s.now a.from a.n c.requires.n_in_bounds.0)) refl
    (stored_kept c.loop-i.invariant (a.from + i) (⊎_elim (λ h. inl (omega arith)) (λ h. inr (omega arith)) c.requires.fact)
    ∙ sym (part_at a.s.now a.from a.n i (omega arith)))

pub returns : goal.returns
returns c = let a = c.args in
    all_stored c.loop-i.invariant (omega (arith, length_part a.s.now a.from a.n c.requires.n_in_bounds.0))
