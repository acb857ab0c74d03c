-- `wordrun::serve_words`: the requests before i are served.
use Rattle.lent.specs.Model.{geometry, state}
use Rattle.scope.specs.Boundary.{requests_of}
use Rattle.running.specs.Ran.{Ran}
use Rattle.wordrun.proofs.serve_words.Given as goal

abbrev pub invariant-loop-i : goal.invariant-loop-i
invariant-loop-i l =
    Ran (geometry l.g) (requests_of l.requests) l.i
    l.initial.cur (state l.initial.chip l.initial.spare l.initial.directory l.initial.cache l.initial.cur.rec)
    l.initial.words l.initial.answers l.initial.census l.initial.filter
    l.cur (state l.chip l.spare l.directory l.cache l.cur.rec) l.words l.answers l.census l.filter
