-- `session::serve::Node::write_page` meets its contract: of a write no word is printed.
use Rattle.std.proofs.Common.{rules, refl}
use Rattle.scope.specs.Tables.Play.{W, first_word}
use Rattle.session.specs.Called.{call_serves}
use Rattle.session.proofs.serve.Node.write_page.Goals as goal

pub returns : goal.returns
unfolding first_word
returns c =
    rw (← c.self.view_is)
    (call_serves (W c.args.page c.args.value) _ _ _ (search rules) refl c.tf_write-reply.ensures refl c.put_answer.ensures)
