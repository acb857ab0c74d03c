-- The public calls as one type, each with all that it lends but the state, and what a call answers. The demands speak of these.
use Rattle.std.specs.Prelude.{ℕ, List, []}
use Rattle.scope.specs.Geometry.{Geometry}
use Rattle.scope.specs.Lent.{Request}
use Rattle.scope.specs.Operations.{Outcome, Step}
use Rattle.scope.specs.Replies.{Size}
use Rattle.scope.specs.Calls.{format, check, read, write, run}

-- A call, with the sizes that it tests beside those of the state and of its own buffers.
pub data Call : Type 0 where
  Format : List Size → Call
  Check : List Size → Call
  ReadPage : List Size → ℕ → List ℕ → Call
  WritePage : List Size → ℕ → List ℕ → Call
  Run : List Size → List Request → List ℕ → List ℕ → Call

-- What a call hands back beside the state and the counts: its number, the words of its page buffer or of a run's data buffer, and a run's
-- answers. A list that a call doesn't lend is empty.
pub record Answer : Type 0 where
  pub reply : ℕ
  pub words : List ℕ
  pub answers : List ℕ

abbrev pub answer : {A : Type 0} → Outcome A → (A → Answer) → Outcome Answer
answer o f = record { value = f o.value; after = o.after; did = o.did }

-- The call's definition, whatever it is that it hands back.
abbrev pub make : Geometry → Call → Step Answer
make g (Format others) s = answer (format g others s) (λ n. record { reply = n; words = []; answers = [] })
make g (Check others) s = answer (check g others s) (λ n. record { reply = n; words = []; answers = [] })
make g (ReadPage others l buffer) s =
    answer (read g others l buffer s) (λ r. record { reply = r.reply; words = r.buffer; answers = [] })
make g (WritePage others l buffer) s =
    answer (write g others l buffer s) (λ r. record { reply = r.reply; words = r.buffer; answers = [] })
make g (Run others requests words answers) s =
    answer (run g others requests words answers s) (λ r. record { reply = r.reply; words = r.words; answers = r.answers })

-- The answer n, with every list that the call lent as it was.
abbrev pub as_lent : Call → ℕ → Answer
as_lent (Format others) n = record { reply = n; words = []; answers = [] }
as_lent (Check others) n = record { reply = n; words = []; answers = [] }
as_lent (ReadPage others l buffer) n = record { reply = n; words = buffer; answers = [] }
as_lent (WritePage others l buffer) n = record { reply = n; words = buffer; answers = [] }
as_lent (Run others requests words answers) n = record { reply = n; words = words; answers = answers }
