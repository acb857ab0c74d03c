-- `held::Held::tally_from` meets its contract: a page that the directory names is on the chip, and where it names none as many words
-- are missing as the pages up to the run's end would hold.
use native.Mathlib.Omega.{arith}
use mathlib.Core.Path.{ap, sym, refl, ◌∙◌}
use Prim.Native.Nat.{ℕ, ◌+◌, ◌*◌, ◌-◌}
use Rattle.lent.specs.Model.{geometry, entry}
use Rattle.geometry.specs.Bounds.{data_few}
use Rattle.mapping.specs.Tally.{room_less}
use Rattle.mapping.specs.Translated.{pages_nowhere, page_place, page_starts, read_here, read_on_chip}
use Rattle.mapping.proofs.held.Held.tally_from.Goals as goal

pub returns-in_default : goal.returns-in_default
returns-in_default c = let s = c.args.self.now in
    let run = c.erased_run-next in record {
      goes_on = omega (arith, run.ensures.starts);
      ends = omega (arith, run.ensures.ends, s.directory_len);
      counted = pages_nowhere (geometry s.g) s.accepted (data_few s.accepted) s.chip.now s.spare.now s.directory.now c.args.t run.result
          c.args.sum.now _
          (ap entry (sym c.in_default.is) ∙ c.decode.ensures
          ∙ read_here s.directory.now c.args.t (omega (arith, s.directory_len, c.requires.0)))
          run.ensures
          (ap (λ (k : ℕ). c.args.sum.now.nones + (k - c.args.t * s.g.w)) c.min.ensures) refl;
    }

pub tally_held-requires : goal.tally_held-requires
tally_held-requires c = let s = c.args.self.now in (
  read_on_chip (geometry s.g) s.chip.now s.directory.now c.args.t _ s.chip_len s.directory_len s.names_on_chip c.requires.0
      (ap entry (sym c.in-Place.is) ∙ c.decode.ensures),
  omega (arith, page_starts (geometry s.g) s.accepted.W_from c.args.t c.requires.0),
  room_less s.g.w (s.g.l + s.g.w) (omega arith) c.requires.1,
)

pub returns : goal.returns
returns c = let s = c.args.self.now in
    let e = ap entry (sym c.in-Place.is) ∙ c.decode.ensures in record {
      goes_on = omega arith;
      ends = omega (arith, c.requires.0);
      counted = page_place (geometry s.g) s.accepted (data_few s.accepted) s.chip.now s.spare.now s.directory.now c.args.t c.args.sum.now
          c.tally_held.new.sum _ c.requires.0
          (e ∙ read_here s.directory.now c.args.t (omega (arith, s.directory_len, c.requires.0)))
          (read_on_chip (geometry s.g) s.chip.now s.directory.now c.args.t _ s.chip_len s.directory_len s.names_on_chip c.requires.0 e)
          c.tally_held.ensures;
    }
