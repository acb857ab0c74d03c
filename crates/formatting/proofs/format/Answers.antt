-- `formatting::format` meets its contract: what the erases of all blocks leave is what four runs of erased words leave.
use mathlib.Core.Path.{refl}
use Rattle.lent.specs.Model.{geometry}
use Rattle.formatting.specs.Fresh.{format_does}
use Rattle.formatting.proofs.format.Goals as goal

pub returns : goal.returns
returns c = λ old.
    let a = c.args in
    format_does (geometry a.g) a.chip.now a.spare.now a.directory.now a.cache.now old _ _ _ _ _ c.requires refl
    c.erase_words.ensures c.erase_words-2.ensures c.erase_words-3.ensures c.erase_words-4.ensures
