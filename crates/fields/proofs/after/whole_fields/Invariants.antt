-- Field by field: what stands behind a whole one decides.
use Rattle.std.proofs.Common.{◌≡◌, length}
use Rattle.settings.specs.Fields.{whole_fields}
use Rattle.fields.proofs.after.whole_fields.Given as goal

abbrev pub invariant-loop-behind : goal.invariant-loop-behind
invariant-loop-behind l = whole_fields l.last 0 l.bytes ≡ whole_fields l.last 0 l.rest

abbrev pub decreases-loop-behind : goal.decreases-loop-behind
decreases-loop-behind l = length l.rest
