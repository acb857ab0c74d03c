-- `facerun::served::serve_all`: the requests before i are served.
use mathlib.Core.List.{map}
use Rattle.lent.specs.Model.{geometry, state}
use Rattle.replies.specs.Model.{request}
use Rattle.running.specs.Ran.{Ran}
use Rattle.facerun.proofs.served.serve_all.Given as goal

abbrev pub invariant-loop-i : goal.invariant-loop-i
invariant-loop-i l =
    Ran (geometry l.g) (map request l.requests) l.i
    l.initial.cur (state l.initial.chip l.initial.spare l.initial.directory l.initial.cache l.initial.cur.rec)
    l.initial.words l.initial.answers l.initial.census l.initial.filter
    l.cur (state l.chip l.spare l.directory l.cache l.cur.rec) l.words l.answers l.census l.filter
