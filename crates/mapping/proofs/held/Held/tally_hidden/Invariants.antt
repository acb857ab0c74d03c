-- `held::Held::tally_hidden` meets its contract: what the entries before rank i hide is counted.
use Rattle.lent.specs.Model.{geometry}
use Rattle.mapping.specs.Tally.{nothing, Tallied}
use Rattle.mapping.specs.Translated.{hidden_none, hidden_good}
use Rattle.mapping.proofs.held.Held.tally_hidden.Given as goal

abbrev pub invariant-loop-i : goal.invariant-loop-i
invariant-loop-i l = Tallied nothing l.sum l.i
    (hidden_none (geometry l.self.g) l.self.chip.now l.self.directory.now l.cache)
    (hidden_good (geometry l.self.g) l.self.chip.now l.self.spare.now l.self.directory.now l.cache)
