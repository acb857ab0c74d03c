-- `held::Held::tally_stored` meets its contract: what the first t translation pages store is counted.
use Prim.Native.Nat.{◌-◌, ◌≤◌}
use lib.ListN.{length}
use Rattle.lent.specs.Model.{geometry}
use Rattle.mapping.specs.Tally.{nothing}
use Rattle.mapping.specs.Translated.{TalliedPages}
use Rattle.mapping.proofs.held.Held.tally_stored.Given as goal

abbrev pub invariant-loop-t : goal.invariant-loop-t
invariant-loop-t l = (l.t ≤ length l.self.directory.now)
    × TalliedPages (geometry l.self.g) l.self.chip.now l.self.spare.now l.self.directory.now l.t nothing l.sum

abbrev pub decreases-loop-t : goal.decreases-loop-t
decreases-loop-t l = length l.self.directory.now - l.t
