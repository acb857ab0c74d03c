-- `held::Held::tally_cached` meets its contract: the places before rank i are counted.
use Prim.Native.Nat.{◌*◌}
use Rattle.mapping.specs.Tally.{nothing, Tallied}
use Rattle.mapping.specs.Translated.{cached_none, cached_good}
use Rattle.mapping.proofs.held.Held.tally_cached.Given as goal

abbrev pub invariant-loop-i : goal.invariant-loop-i
invariant-loop-i l = Tallied nothing l.sum l.i (cached_none l.cache) (cached_good (l.self.g.d * l.self.g.p) l.cache l.self.spare.now)
