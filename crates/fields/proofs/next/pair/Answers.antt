-- Two bytes make the number of two.
use Rattle.fields.specs.Numbers.{number_two}
use Rattle.fields.proofs.next.pair.Goals as goal

pub returns-clause-value : goal.returns-clause-value
returns-clause-value c = let a = c.args in
    number_two a.bytes.now a.at
