-- `session::serve::Node::read_page` meets its contract: for a DONE read the first word is printed, and for no other answer.
use Rattle.std.proofs.Common.{rules, refl}
use Rattle.scope.specs.Tables.Play.{R}
use Rattle.session.specs.Called.{call_serves, done_word, no_word}
use Rattle.session.proofs.serve.Node.read_page.Goals.{then-reply-eq0, else-reply-eq0}
use Rattle.session.proofs.serve.Node.read_page.Goals as goal

pub returns : goal.returns
returns c =
    rw (← c.self.view_is)
    (elim c.if-reply-eq0.branch [
      | then-reply-eq0 w ↦
          rw (w.out-is, w.result-is)
          (call_serves (R c.args.page) _ _ _ (search rules) refl c.tf_read-reply.ensures
          (done_word c.args.page _ w.if-reply-eq0.true (search rules)) w.put_word.ensures)
      | else-reply-eq0 w ↦
          rw (w.out-is, w.result-is)
          (call_serves (R c.args.page) _ _ _ (search rules) refl c.tf_read-reply.ensures
          (no_word c.args.page _ w.if-reply-eq0.false) w.put_answer.ensures)
    ])
