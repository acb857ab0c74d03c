-- `formatting::erase_words` meets its contract: a run as long as the list is all that is left of it.
use mathlib.Core.Path.{◌∙◌}
use lib.ListN.{length, length-replicate}
use Rattle.words.specs.Runs.{sets_whole}
use Rattle.formatting.proofs.erase_words.Goals as goal

pub returns : goal.returns
returns c = let s = c.args.s.now in
    c.fill_erased.ensures ∙ sets_whole s _ (length-replicate (length s) 4294967295)
