-- The replies of src/reply.rt as the numbers of 01's table.
use Rattle.std.specs.Prelude.{ℕ, ◌≡◌, ◌≢◌, Result, Ok, Err, IsErrAnd}
use Rattle.std.proofs.Common.{ap, arith}
use Rattle.lent.specs.declared.reply.Refusal.{Refusal}
use Rattle.lent.specs.declared.reply.Refusal.TheVariants.{Geometry, Length, Damaged, Kind, Page}
use Rattle.lent.specs.declared.reply.Reply.{Reply}
use Rattle.lent.specs.declared.reply.Reply.TheVariants.{Done, Unwritten, Refused}
use Rattle.scope.specs.Replies.{DONE, UNWRITTEN, GEOMETRY, LENGTH, DAMAGED, KIND, PAGE}

abbrev pub refusal : Refusal → ℕ
refusal Geometry = GEOMETRY
refusal Length = LENGTH
refusal Damaged = DAMAGED
refusal Kind = KIND
refusal Page = PAGE

abbrev pub reply : Reply → ℕ
reply Done = DONE
reply Unwritten = UNWRITTEN
reply (Refused r) = refusal r

-- The number of the first test that applies; DONE where none does, whatever the tests hand on then.
abbrev pub tested : {A : Type 0} → Result A Refusal → ℕ
tested (Ok x) = DONE
tested (Err r) = refusal r

-- No refusal has the number of DONE.
pub refused_not_done : (r : Refusal) → refusal r ≢ DONE
refused_not_done Geometry e = absurd (omega arith)
refused_not_done Length e = absurd (omega arith)
refused_not_done Damaged e = absurd (omega arith)
refused_not_done Kind e = absurd (omega arith)
refused_not_done Page e = absurd (omega arith)

-- What a `?` hands on is the same refusal.
pub handed_on : {A : Type 0} (r : Result A Refusal) (e : Refusal) → IsErrAnd r (λ y. y ≡ e) → tested r ≡ refusal e
handed_on (Ok x) e h = absurd h
handed_on (Err y) e h = ap refusal h
