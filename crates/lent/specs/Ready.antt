-- What the steps of a call ask where they begin: an accepted geometry, lists of its lengths, a sound state, and room in the counts. And
-- the lent lists and the small record as one state, as contracts write it.
use Rattle.std.specs.Prelude.{ℕ, ◌+◌, ◌≤◌, ◌<◌, List}
use Rattle.scope.specs.Geometry.{Geometry, Accepted}
use Rattle.scope.specs.Lent.{State}
use Rattle.scope.specs.Sound.{Sound}
use Rattle.scope.specs.Operations.{Step, Counts}
use Rattle.flash.specs.Lengths.{Lengths}
use Rattle.flash.specs.Moments.{cost}
use Rattle.lent.specs.declared.Counts.{Counts as Counted}
use Rattle.lent.specs.declared.Work.{Work}
use Rattle.lent.specs.Model.{state, counts}
use Rattle.lent.specs.Does.{Does}
use Rattle.lent.specs.Shapes.{RoomToCount, room_after, less_room}

abbrev pub lent : List ℕ → List ℕ → List ℕ → List ℕ → Work → State
lent chip spare directory cache w = state chip spare directory cache w.rec

-- From one state to another, with the counts of what travels by value.
abbrev pub DoesAll : {A : Type 0} → Step A → State → Work → A → State → Work → Type 0
DoesAll m s w x s' w' = Does m s (counts w.counts) x s' (counts w'.counts)

-- A step of at most n operations may begin.
pub record Ready (g : Geometry) (s : State) (n : ℕ) (c : Counted) : Type 0 where
  pub accepted : Accepted g
  pub lengths : Lengths g s
  pub sound : Sound g s
  pub countable : RoomToCount n c

-- The state that it speaks of; the state that a step has left. Steps that are lent some of the lists do the same in it.
abbrev pub ready_state : {g : Geometry} {s : State} {n : ℕ} {c : Counted} → Ready g s n c → State
ready_state {s = s} ready = s

abbrev pub left_by : {A : Type 0} {m : Step A} {s s' : State} {c c' : Counts} {x : A} → Does m s c x s' c' → State
left_by {s' = s'} does = s'

-- The same for a step about logical page l.
pub record ReadyFor (l : ℕ) (g : Geometry) (s : State) (n : ℕ) (c : Counted) : Type 0 where
  pub ready : Ready g s n c
  pub below : l < g.L

-- Fewer operations may begin too.
module _ {g : Geometry} {s : State} {n m : ℕ} {c : Counted} (h : n ≤ m) where
  pub fewer_begin : Ready g s m c → Ready g s n c
  fewer_begin ready =
      record {
        accepted = ready.accepted;
        lengths = ready.lengths;
        sound = ready.sound;
        countable = less_room h ready.countable;
      }

  pub ready_less : {l : ℕ} → ReadyFor l g s m c → ReadyFor l g s n c
  ready_less a = record { ready = fewer_begin a.ready; below = a.below }

-- Room for n more is left after a step of at most k, where there was room for both.
pub countable_after : {A : Type 0} {m : Step A} {s s' : State} {x : A} {c c' : Counted} (n k : ℕ)
    → RoomToCount (n + k) c → cost (m s).did ≤ k → Does m s (counts c) x s' (counts c') → RoomToCount n c'
countable_after {m = m} {s = s} {c = c} {c' = c'} n k room few does = room_after n k c c' (m s).did room few does.counting
