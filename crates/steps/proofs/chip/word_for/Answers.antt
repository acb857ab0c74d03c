-- `steps::chip::word_for` meets its contract, for a place and for none.
use mathlib.Core.Path.{refl, sym, ap, ◌∙◌}
use native.Mathlib.Omega.{arith}
use Rattle.scope.specs.Lent.{none}
use Rattle.steps.specs.Lies.{word_lies}
use Rattle.steps.specs.Chip.{word_does, read_if_place}
use Rattle.scope.specs.Sound.{in_page}
use Rattle.words.specs.Runs.{get_d_any}
use Rattle.lent.specs.declared.Entry.{Entry}
use Rattle.lent.specs.Model.{geometry, counts, entry}
use Rattle.steps.proofs.chip.word_for.Goals as goal

pub returns-in_default : goal.returns-in_default
returns-in_default c = let a = c.args in
    let g = geometry a.g in
    word_does g a.l (entry a.page) c.requires.on_chip.0.bounded.W_from
    (sym (ap (λ (e : Entry). in_page g a.chip.now a.l (entry e)) c.in_default.is))
    refl (sym (ap (λ (e : Entry). read_if_place (entry e) (counts a.work.now.counts)) c.in_default.is))

pub bounds-chip-q : goal.bounds-chip-q
bounds-chip-q c = omega (arith, word_lies c.requires.on_chip.0 _ c.args.l (c.requires.on_chip.1 _ (ap entry c.in-Place.is)))

pub returns : goal.returns
returns c = let a = c.args in
    let g = geometry a.g in
    let named = c.in-Place.is in
    let lies = word_lies c.requires.on_chip.0 _ a.l (c.requires.on_chip.1 _ (ap entry named)) in
    word_does g a.l (entry a.page) c.requires.on_chip.0.bounded.W_from
    (get_d_any a.chip.now _ 0 none lies.inside
    ∙ sym (ap (λ (e : Entry). in_page g a.chip.now a.l (entry e)) named))
    refl
    (c.add_read.ensures ∙ sym (ap (λ (e : Entry). read_if_place (entry e) (counts a.work.now.counts)) named))
