-- `entries::rank_from_last` meets its contract. Both loops' invariant: no entry in use from those that are left on has the page.
use Prim.Native.Nat.{◌+◌, ◌*◌}
use Rattle.entries.specs.Entries.{NoneHas}
use Rattle.entries.proofs.rank_from_last.Given as goal

abbrev pub invariant-loop-turn : goal.invariant-loop-turn
invariant-loop-turn l = NoneHas l.l (l.rest + l.turn * 4) l.used l.cache

abbrev pub invariant-loop-i : goal.invariant-loop-i
invariant-loop-i l = NoneHas l.l l.i l.used l.cache
