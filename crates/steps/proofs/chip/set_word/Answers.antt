-- `steps::chip::set_word` meets its contract: the word lies in the chip.
use native.Mathlib.Omega.{arith}
use Rattle.steps.specs.Lies.{word_lies}
use Rattle.steps.proofs.chip.set_word.Goals as goal

pub bounds-chip-q : goal.bounds-chip-q
bounds-chip-q c = omega (arith, word_lies c.requires.0 c.args.q c.args.l c.requires.1)
