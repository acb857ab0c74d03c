-- `facerun::run` meets its contract: a run in its parts.
use Rattle.facerun.specs.Served.{run_before_serve_all, run_by}
use Rattle.facerun.proofs.run.Goals as goal

pub serve_all-last-requires : goal.serve_all-last-requires
serve_all-last-requires c = run_before_serve_all c.begin-first.ensures

pub returns : goal.returns
returns c = run_by c.args.requests.now c.begin-first.ensures c.serve_all-last.ensures c.finish-out.ensures
