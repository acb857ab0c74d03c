-- `entries::entry_fits` meets its contract: the page that the filter takes is the entry's. The check finds this alone; given, it says which
-- other page a filter has.
use native.Mathlib.Omega.{arith}
use mathlib.Core.Path.{ap, ◌∙◌}
use Prim.Native.Nat.{◌*◌}
use Rattle.scope.specs.Lent.{none}
use Rattle.words.specs.Bitmap.{put}
use Rattle.words.specs.Runs.{get_d_any}
use Rattle.mapping.proofs.entries.entry_fits.Goals as goal

pub returns-clause-filter_after : goal.returns-clause-filter_after
returns-clause-filter_after c = let a = c.args in
    λ p. c.put.ensures ∙ ap (put a.filter.now) (get_d_any a.cache.now (a.i * 3) 0 none (omega (arith, c.requires.0)))
