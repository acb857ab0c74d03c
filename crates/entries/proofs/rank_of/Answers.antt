-- `entries::rank_of` meets its contract.
use mathlib.Core.Path.{sym, ap, ◌∙◌}
use Rattle.words.specs.Bitmap.{has}
use native.Mathlib.Omega.{arith}
use Rattle.scope.specs.Sound.{rank_of}
use Rattle.lent.specs.Model.{geometry}
use Rattle.entries.specs.Filter.{filter_misses}
use Rattle.entries.proofs.rank_of.Goals as goal

pub returns-then-not-has : goal.returns-then-not-has
returns-then-not-has c = (omega arith, filter_misses c.requires.filter (geometry c.args.g) c.args.l (ap (has c.args.filter.now) (sym c.bit_of.ensures) ∙ sym c.has.ensures ∙ c.if-not-has.true))

pub returns : goal.returns
unfolding rank_of
returns c = (c.rank_of.ensures.0, sym c.rank_of.ensures.1)
