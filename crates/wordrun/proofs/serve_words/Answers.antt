-- `wordrun::serve_words` meets its contract: each request can be served where the run was admitted, and they are served in their order.
use mathlib.Core.Path.{sym, ◌∙◌}
use Rattle.running.proofs.Ran.{ran_none, ran_more, ran_ready}
use Rattle.wording.specs.Asked.{request_at}
use Rattle.wordrun.proofs.serve_words.Goals as goal

pub loop-i-init : goal.loop-i-init
loop-i-init c = ran_none

pub serve-cur-requires : goal.serve-cur-requires
serve-cur-requires c = ran_ready c.loop-i.invariant c.loop-i-test.true c.requires

pub loop-i-preserved : goal.loop-i-preserved
loop-i-preserved c =
    ran_more c.loop-i.invariant (c.request_at-q.ensures ∙ sym (request_at c.args.requests.now c.loop-i.i c.loop-i-test.true)) c.serve-cur.ensures
