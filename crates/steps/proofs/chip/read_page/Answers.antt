-- `steps::chip::read_page` meets its contract.
use Prim.Native.Nat.{ℕ, ◌*◌}
use mathlib.Core.Path.{refl, sym, ap, ◌∙◌}
use native.Mathlib.Omega.{arith}
use lib.ListN.{take, drop}
use Rattle.steps.specs.Lies.{words_lie}
use Rattle.steps.specs.Chip.{read_by_chip}
use Rattle.lent.specs.Model.{geometry}
use Rattle.lent.specs.DoesLaws.{does_value}
use Rattle.steps.proofs.chip.read_page.Goals as goal

pub copy_out-requires : goal.copy_out-requires
copy_out-requires c =
    omega (arith, words_lie c.requires.on_chip.0 c.args.p c.requires.on_chip.1, c.requires.buffer_long.0)

pub returns : goal.returns
returns c = let a = c.args in
    λ s. does_value
    (read_by_chip (geometry a.g) a.p refl c.add_read.ensures s)
    (sym (c.copy_out.ensures ∙ ap (λ (n : ℕ). take n (drop (a.p * a.g.w) a.chip.now)) c.requires.buffer_long.0))
