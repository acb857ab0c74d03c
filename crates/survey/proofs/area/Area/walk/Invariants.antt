-- `area::Area::walk` meets its contract. The invariant: rules 1 and 3 hold of the blocks before i, whose valid pages are counted, and which
-- have their numbers.
use Rattle.survey.specs.Census.{Taken}
use Rattle.survey.specs.Survey.{Walked}
use Rattle.survey.proofs.area.Area.walk.Given as goal

abbrev pub invariant-loop-i : goal.invariant-loop-i
invariant-loop-i l = let a = l.self in record {
  walked : Walked a.w a.limit a.p a.first a.chip.now a.spare.now l.opened l.i l.total l.valid;
  taken : Taken a.p a.first l.i a.spare.now l.initial.census l.census;
}
