-- What a request asks of the state: that its steps may begin, with room in the counts, and that the notes are true. And that after a request,
-- or any number of them, the next may ask it again.
use Rattle.std.specs.Prelude.{ℕ, ◌+◌, ◌≤◌, List}
use Rattle.std.proofs.Common.{subst}
use Rattle.flash.specs.Moments.{cost}
use Rattle.flash.specs.Lengths.{Lengths}
use Rattle.scope.specs.Geometry.{Geometry}
use Rattle.scope.specs.Lent.{State}
use Rattle.scope.specs.Sound.{Sound}
use Rattle.scope.specs.Operations.{Step}
use Rattle.lent.specs.declared.Counts.{Counts as Counted}
use Rattle.lent.specs.Model.{counts}
use Rattle.lent.specs.Does.{Does}
use Rattle.lent.specs.Ready.{Ready, fewer_begin, countable_after}
use Rattle.words.specs.Noted.{Noted}

-- There is room for n operations.
pub record Asks (g : Geometry) (n : ℕ) (s : State) (c : Counted) (census filter : List ℕ) : Type 0 where
  pub ready : Ready g s n c
  pub noted : Noted g s census filter

module _ {g : Geometry} {s : State} {c : Counted} {census filter : List ℕ} where
  -- Fewer may be asked for.
  pub asks_less : {n m : ℕ} → n ≤ m → Asks g m s c census filter → Asks g n s c census filter
  asks_less h asks = record { ready = fewer_begin h asks.ready; noted = asks.noted }

  -- After steps of at most k operations that keep a sound state, its lengths and true notes, n more may be asked for.
  pub asks_again : {A : Type 0} {m : Step A} {x : A} {s' : State} {c' : Counted} {census' filter' : List ℕ} (n k : ℕ)
      → Asks g (n + k) s c census filter → Does m s (counts c) x s' (counts c')
      → cost (m s).did ≤ k → Lengths g (m s).after → Sound g (m s).after → Noted g s' census' filter'
      → Asks g n s' c' census' filter'
  asks_again n k asks does few lengths sound noted =
      record {
        ready = record {
          accepted = asks.ready.accepted;
          lengths = subst (Lengths g) does.after lengths;
          sound = subst (Sound g) does.after sound;
          countable = countable_after n k asks.ready.countable few does;
        };
        noted = noted;
      }
