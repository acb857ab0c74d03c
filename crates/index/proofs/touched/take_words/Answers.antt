-- `index::touched::take_words` meets its contract: the first i mappings are taken out or left.
use Rattle.index.specs.Taking.{none_taken, one_taken}
use Rattle.index.proofs.touched.take_words.Goals as goal

pub loop-i-init : goal.loop-i-init
loop-i-init c = none_taken c.requires.0 c.requires.1 c.requires.2

pub loop-i-preserved : goal.loop-i-preserved
loop-i-preserved c = one_taken c.requires.0 c.requires.1 c.requires.2 c.loop-i.invariant c.loop-i-test.true c.take.ensures
