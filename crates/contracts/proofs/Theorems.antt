-- The demands (Demands.antt), of every call that a contract allows; and that the definition's own outcome is such a one, so that they are
-- demands of the definitions too.
use Rattle.std.specs.Prelude.{refl, ℕ, List}
use Rattle.scope.specs.Geometry.{Geometry}
use Rattle.scope.specs.Lent.{State}
use Rattle.scope.specs.Operations.{counted}
use Rattle.scope.specs.Boundary.{put_counts}
use Rattle.scope.specs.Holding.{answers_one_outcome, gives_one_outcome}
use Rattle.promises.specs.Call.{Call, make}
use Rattle.contracts.specs.Made.{Numbers, ByContract}
use Rattle.contracts.specs.Demands.{CallsMeet}
use Rattle.contracts.proofs.Demand1.{demand_1, done_as_listed}
use Rattle.contracts.proofs.Traces.{demands_after, checked, formatted}

pub calls_meet : (g : Geometry) → CallsMeet g
calls_meet g =
    record {
      demand_1 = demand_1 g;
      one_outcome = λ c s counts a b s' s'' counts' counts'' h k. answers_one_outcome h k;
      one_outcome_in_words = λ c w a b w' w'' h k. gives_one_outcome h k;
      done_as_listed = done_as_listed g;
      demands_after = demands_after;
      checked = checked;
      formatted = formatted;
    }

pub definition_allowed : (g : Geometry) (c : Call) (s : State) (counts : List ℕ) →
    ByContract g (record {
      call = c;
      answer = (make g c s).value;
      lent = Numbers s counts (make g c s).after (put_counts counts (counted (make g c s).did));
    })
definition_allowed g c s counts = record { value = refl; after = refl; counted = refl }
