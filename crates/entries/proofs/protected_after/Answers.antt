-- `entries::protected_after` meets its contract: a hit in protected, one in trial below the limit, one at it.
use Rattle.lent.specs.Model.{geometry}
use Rattle.entries.specs.Entries.{hit_in_protected, hit_below_limit, hit_at_limit}
use Rattle.entries.proofs.protected_after.Goals as goal

pub returns-then-i-n : goal.returns-then-i-n
returns-then-i-n c = let a = c.args in hit_in_protected (geometry a.g) a.i a.n c.if-i-n.true

pub returns-then-n-g : goal.returns-then-n-g
returns-then-n-g c = let a = c.args in
    hit_below_limit (geometry a.g) a.i a.n c.if-i-n.false c.if-n-g.true

pub returns : goal.returns
returns c = let a = c.args in
    hit_at_limit (geometry a.g) a.i a.n c.if-i-n.false c.if-n-g.false
