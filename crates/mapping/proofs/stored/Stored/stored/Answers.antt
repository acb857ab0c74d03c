-- `stored::Stored::stored` meets its contract, whatever words stand in the two slices.
use mathlib.Core.Path.{◌≡◌, ap, sym, ◌∙◌}
use Prim.Native.Nat.{◌+◌, ◌*◌, ◌/◌, ◌%◌}
use lib.ListN.{get_or}
use borrow.Author.Rules.{rules}
use Rattle.scope.specs.Lent.{decode, none}
use Rattle.lent.specs.Model.{geometry, entry}
use Rattle.mapping.specs.Stored.{stored_nowhere, stored_place}
use Rattle.mapping.proofs.stored.Stored.stored.Goals as goal

pub returns-in_default : goal.returns-in_default
returns-in_default c = let s = c.args.self.now in
    let word : c.unwrap_or-word.result ≡ get_or s.directory.now (c.args.l / s.g.w) none = search rules in
    stored_nowhere (geometry s.g) s.chip.now s.directory.now c.args.l
    (ap entry (sym c.in_default.is) ∙ c.decode.ensures ∙ ap decode word)

pub returns : goal.returns
returns c = let s = c.args.self.now in
    let word : c.unwrap_or-word.result ≡ get_or s.directory.now (c.args.l / s.g.w) none = search rules in
    let held : c.unwrap_or.result ≡ get_or s.chip.now (c.in-Place.q * s.g.w + c.args.l % s.g.w) none = search rules in
    held
    ∙ stored_place (geometry s.g) s.chip.now s.directory.now c.args.l _
    (ap entry (sym c.in-Place.is) ∙ c.decode.ensures ∙ ap decode word)
