-- Demand 1 of the five calls and of a record of a run: the one law of Tests.antt at the grounds of each. A read and a write are, where they
-- pass, the steps of their requests.
use Rattle.std.specs.Prelude.{ℕ, zero, suc, ◌≡◌, refl, List, length}
use Rattle.std.proofs.Common.{arith}
use Rattle.scope.specs.Geometry.{Geometry}
use Rattle.scope.specs.Lent.{State, Request}
use Rattle.scope.specs.Operations.{give, look, ◌>>=◌}
use Rattle.scope.specs.Replies.{DONE, Size}
use Rattle.scope.specs.Requests.{replied, format_steps}
use Rattle.scope.specs.Calls.{read_of, write_of, run_replied, serve, answer_record, serve_record, serve_records, format, check, read, write, run}
use Rattle.promises.specs.Call.{Format, Check, Run}
use Rattle.promises.specs.Grounds.{request_grounds, single_grounds, grounds}
use Rattle.promises.proofs.Serve.{serve_hands_back}
use Rattle.promises.specs.Tests.{ByGrounds, by_grounds}
use Rattle.promises.specs.GroundsDecided.{request_decided, format_decided, check_decided, single_decided, run_decided}

-- A run's own reply.
pub run_reply : (g : Geometry) (requests : List Request) (n : ℕ) (words answers : List ℕ) (s : State)
    → (serve_records g requests n (run_replied words answers DONE) s).value.reply ≡ DONE
unfolding serve_records serve_record give ◌>>=◌
run_reply g requests zero words answers s = refl
run_reply g requests (suc n) words answers s = refl

-- ---- a record of a run

pub record_by_grounds : (g : Geometry) (q : Request) (buffer : List ℕ) (s : State)
    → ByGrounds (request_grounds g s.small q) (λ r. r.reply) (replied buffer) (serve g q buffer) s (answer_record g q buffer s)
unfolding answer_record look ◌>>=◌
record_by_grounds g q buffer s =
    by_grounds (request_grounds g s.small q) (request_decided g s.small q) (omega arith) (λ r. r.reply) (replied buffer)
    (serve g q buffer) s (λ n. refl) (serve_hands_back g q buffer s).within

-- ---- the calls

pub format_by_grounds : (g : Geometry) (others : List Size) (s : State)
    → ByGrounds (grounds g (Format others) s) (λ n. n) (λ n. n) (format_steps g) s (format g others s)
unfolding format look give ◌>>=◌ format_steps
format_by_grounds g others s =
    by_grounds (grounds g (Format others) s) (format_decided g others s) (omega arith) (λ n. n) (λ n. n) (format_steps g) s
    (λ n. refl) (omega arith)

pub check_by_grounds : (g : Geometry) (others : List Size) (s : State)
    → ByGrounds (grounds g (Check others) s) (λ n. n) (λ n. n) (give DONE) s (check g others s)
unfolding check look give ◌>>=◌
check_by_grounds g others s =
    by_grounds (grounds g (Check others) s) (check_decided g others s) (omega arith) (λ n. n) (λ n. n) (give DONE) s
    (λ n. refl) (omega arith)

module _ (g : Geometry) (others : List Size) (l : ℕ) (buffer : List ℕ) (s : State) where
  pub read_by_grounds : ByGrounds (single_grounds g others (read_of l) buffer s) (λ r. r.reply) (replied buffer)
      (serve g (read_of l) buffer) s (read g others l buffer s)
  unfolding read serve look ◌>>=◌
  read_by_grounds =
      by_grounds (single_grounds g others (read_of l) buffer s) (single_decided g others (read_of l) buffer s) (omega arith)
      (λ r. r.reply) (replied buffer) (serve g (read_of l) buffer) s (λ n. refl) (serve_hands_back g (read_of l) buffer s).within

  pub write_by_grounds : ByGrounds (single_grounds g others (write_of l) buffer s) (λ r. r.reply) (replied buffer)
      (serve g (write_of l) buffer) s (write g others l buffer s)
  unfolding write serve look ◌>>=◌
  write_by_grounds =
      by_grounds (single_grounds g others (write_of l) buffer s) (single_decided g others (write_of l) buffer s) (omega arith)
      (λ r. r.reply) (replied buffer) (serve g (write_of l) buffer) s (λ n. refl) (serve_hands_back g (write_of l) buffer s).within

pub run_by_grounds : (g : Geometry) (others : List Size) (requests : List Request) (words answers : List ℕ) (s : State)
    → ByGrounds (grounds g (Run others requests words answers) s) (λ r. r.reply) (run_replied words answers)
    (serve_records g requests (length requests) (run_replied words answers DONE)) s (run g others requests words answers s)
unfolding run look ◌>>=◌
run_by_grounds g others requests words answers s =
    by_grounds (grounds g (Run others requests words answers) s) (run_decided g others requests words answers s) (omega arith)
    (λ r. r.reply) (run_replied words answers) (serve_records g requests (length requests) (run_replied words answers DONE)) s
    (λ n. refl) (omega (arith, run_reply g requests (length requests) words answers s))
