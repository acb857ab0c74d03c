-- `calls::check` meets its contract.
use Rattle.lent.specs.Model.{geometry}
use Rattle.calls.specs.Check.{check_answers}
use Rattle.calls.proofs.check.Goals as goal

pub returns : goal.returns
returns c = let a = c.args in
    rw c.into.ensures (check_answers (geometry a.g) _ _ c.lengths_right-right.ensures c.test_for_check-tests.ensures c.put_none.ensures)
