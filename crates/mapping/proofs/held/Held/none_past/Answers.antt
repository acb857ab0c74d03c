-- `held::Held::none_past` meets its contract: where the last translation page is named, its words behind those for logical pages
-- are tested.
use native.Mathlib.Omega.{arith}
use mathlib.Core.Path.{ap, sym, ◌∙◌}
use Prim.Native.Nat.{◌-◌}
use lib.ListN.{length}
use Rattle.lent.specs.Model.{geometry, entry}
use Rattle.mapping.specs.PastL.{holds_at_most, none_named, page_named}
use Rattle.mapping.specs.Translated.{read_here, read_on_chip}
use Rattle.mapping.proofs.held.Held.none_past.Goals as goal

pub returns-in_default : goal.returns-in_default
returns-in_default c = let s = c.args.self.now in
    none_named (geometry s.g) s.accepted s.chip.now s.directory.now (length s.directory.now) s.directory_len
    (ap entry (sym c.in_default.is) ∙ c.decode.ensures
    ∙ read_here s.directory.now (length s.directory.now - 1) (omega (arith, s.directory_len, s.accepted.M_from)))

pub slice_bounds-only_erased-end : goal.slice_bounds-only_erased-end
slice_bounds-only_erased-end c = let s = c.args.self.now in
    omega (
      arith,
      holds_at_most (geometry s.g) s.accepted s.chip.now s.directory.now (length s.directory.now) s.directory_len,
      read_on_chip (geometry s.g) s.chip.now s.directory.now (length s.directory.now - 1) _ s.chip_len s.directory_len s.names_on_chip
          (omega (arith, s.directory_len, s.accepted.M_from)) (ap entry (sym c.in-Place.is) ∙ c.decode.ensures),
    )

pub returns : goal.returns
returns c = let s = c.args.self.now in
    let e = ap entry (sym c.in-Place.is) ∙ c.decode.ensures in
    page_named (geometry s.g) s.accepted s.chip.now s.directory.now (length s.directory.now) s.directory_len _
    (e ∙ read_here s.directory.now (length s.directory.now - 1) (omega (arith, s.directory_len, s.accepted.M_from)))
    (read_on_chip (geometry s.g) s.chip.now s.directory.now (length s.directory.now - 1) _ s.chip_len s.directory_len s.names_on_chip
    (omega (arith, s.directory_len, s.accepted.M_from)) e)
    c.only_erased.result c.only_erased.ensures
