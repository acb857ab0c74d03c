-- `tests::test_sizes` meets its contract.
use mathlib.Core.Path.{◌≡◌}
use mathlib.Core.Bool.{true}
use borrow.Author.Tests.{not-true, not-false}
use Rattle.lent.specs.Model.{geometry}
use Rattle.scope.specs.Geometry.{accepted}
use Rattle.scope.specs.Replies.{right_sizes}
use Rattle.scope.proofs.Decided.{accepted_decided}
use Rattle.flash.specs.Tests.{refused, passed}
use Rattle.geometry.specs.Sizes.{sizes}
use Rattle.replies.specs.Tests.{geometry_refused, length_refused, other_refused, size_admitted}
use Rattle.flash.specs.Cases.{not_of_false, not_of_true}
use Rattle.replies.proofs.tests.test_sizes.Goals as goal

pub returns-then-not-accepts : goal.returns-then-not-accepts
returns-then-not-accepts c = geometry_refused (geometry c.args.g) (let a = c.args in right_sizes (sizes (geometry a.g) a.chip a.spare a.directory a.cache)) c.args.others (refused c.accepts.ensures (not_of_false c.if-not-accepts.true))

pub sizes_right-requires : goal.sizes_right-requires
sizes_right-requires c = let is_accepted : accepted (geometry c.args.g) ≡ true = passed c.accepts.ensures (not_of_true c.if-not-accepts.false) in
    (accepted_decided _).holds is_accepted

pub returns-then-not-sizes_right : goal.returns-then-not-sizes_right
returns-then-not-sizes_right c = let is_accepted : accepted (geometry c.args.g) ≡ true = passed c.accepts.ensures (not_of_true c.if-not-accepts.false) in
    length_refused (geometry c.args.g) (let a = c.args in right_sizes (sizes (geometry a.g) a.chip a.spare a.directory a.cache)) c.args.others is_accepted
    (refused c.sizes_right.ensures (not_of_false c.if-not-sizes_right.true))

pub returns-then-not-others : goal.returns-then-not-others
returns-then-not-others c = let is_accepted : accepted (geometry c.args.g) ≡ true = passed c.accepts.ensures (not_of_true c.if-not-accepts.false) in
    other_refused (geometry c.args.g) (let a = c.args in right_sizes (sizes (geometry a.g) a.chip a.spare a.directory a.cache)) c.args.others is_accepted
    (passed c.sizes_right.ensures (not_of_true c.if-not-sizes_right.false)) (not-true c.args.others (not_of_false c.if-not-others.true))

pub returns : goal.returns
returns c = let is_accepted : accepted (geometry c.args.g) ≡ true = passed c.accepts.ensures (not_of_true c.if-not-accepts.false) in
    size_admitted (geometry c.args.g) (let a = c.args in right_sizes (sizes (geometry a.g) a.chip a.spare a.directory a.cache)) c.args.others is_accepted
    (passed c.sizes_right.ensures (not_of_true c.if-not-sizes_right.false)) (not-false c.args.others (not_of_true c.if-not-others.false))
