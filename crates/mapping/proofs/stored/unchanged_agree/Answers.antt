-- `stored::unchanged_agree` meets its contract.
use Rattle.flash.specs.Tests.{decides_by, passed_done}
use Rattle.lent.specs.Model.{geometry}
use Rattle.mapping.specs.Stored.{agree_decided}
use Rattle.mapping.proofs.stored.unchanged_agree.Goals as goal

pub returns : goal.returns
returns c = let a = c.args in
    decides_by (passed_done _ _ c.loop-i.invariant c.loop-i-test.false)
    (agree_decided (geometry a.g) a.chip.now a.directory.now a.cache.now a.used c.requires.used_le_c)
