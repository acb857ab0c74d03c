-- `tests::test_request` meets its contract: each test where those before it pass.
use Prim.Native.Nat.{ℕ}
use mathlib.Core.Path.{◌≡◌}
use mathlib.Core.Bool.{false}
use lib.Dec.{leb}
use native.Mathlib.Omega.{arith}
use borrow.Author.Tests.{le-leb, lt-leb}
use Rattle.lent.specs.Reply.{handed_on}
use Rattle.scope.specs.Calls.{kinds}
use Rattle.scope.specs.Replies.{first_applying}
use Rattle.replies.specs.declared.Kind.{Kind}
use Rattle.replies.specs.declared.Kind.TheVariants.{Read, Write}
use Rattle.replies.specs.Model.{kind}
use Rattle.replies.proofs.tests.test_request.Goals as goal

-- The number of a kind is not refused.
of_kind : (k : Kind) {n : ℕ} → kind k ≡ n → leb kinds n ≡ false
of_kind Read {n} e = lt-leb kinds n (omega (arith, e))
of_kind Write {n} e = lt-leb kinds n (omega (arith, e))

pub returns-in_err-kind-clause-first : goal.returns-in_err-kind-clause-first
unfolding first_applying
returns-in_err-kind-clause-first c =
    let (e, h) = c.in_err-kind.ensures in
    rw (handed_on _ _ c.from_residual.ensures.1, e, le-leb kinds c.args.q.kind h)

pub returns-then-g-q-clause-first : goal.returns-then-g-q-clause-first
unfolding first_applying
returns-then-g-q-clause-first c = let a = c.args in
    rw (of_kind _ c.in_ok-kind.ensures, le-leb a.g.l a.q.page c.if-g-q.true)

pub returns-clause-first : goal.returns-clause-first
unfolding first_applying
returns-clause-first c = let a = c.args in
    rw (of_kind _ c.in_ok-kind.ensures, lt-leb a.g.l a.q.page c.if-g-q.false)
