-- `facerun::served::serve_all` meets its contract: each request can be served where the run was admitted, and they are served in their order.
use Rattle.facerun.specs.Served.{request_at, serve_all_none, serve_all_more, serve_all_ready}
use Rattle.facerun.proofs.served.serve_all.Goals as goal

pub loop-i-init : goal.loop-i-init
loop-i-init c = serve_all_none

pub serve-cur-requires : goal.serve-cur-requires
serve-cur-requires c = serve_all_ready c.loop-i.invariant c.loop-i-test.true c.requires

pub loop-i-preserved : goal.loop-i-preserved
loop-i-preserved c = serve_all_more c.loop-i.invariant (request_at _ _ _ c.loop-i-test.true) c.serve-cur.ensures
