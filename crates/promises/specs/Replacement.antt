-- 02, P5: what a translation promises of the cache's order, from any sound state: which logical page each rank has then, and how many entries
-- are protected.
use Prim.Native.Nat.{ℕ, suc, ◌≤◌, ◌<◌}
use Rattle.std.specs.Prelude.{◌≡◌}
use Rattle.scope.specs.Geometry.{Geometry}
use Rattle.scope.specs.Lent.{State, most_protected, logical_at}
use Rattle.scope.specs.Sound.{rank_of}

-- A hit at rank i, between the state before and the state after.
pub record OnHit (g : Geometry) (i : ℕ) (s s' : State) : Type 0 where
  -- Its entry is foremost, those before it are one rank further, and those behind it stay; as many are in use.
  pub front : logical_at 0 s'.cache ≡ logical_at i s.cache
  pub further : (j : ℕ) → j < i → logical_at (suc j) s'.cache ≡ logical_at j s.cache
  pub stay : (j : ℕ) → i < j → logical_at j s'.cache ≡ logical_at j s.cache
  pub used : s'.small.used ≡ s.small.used
  -- "A hit in protected moves to its front."
  pub in_protected : i < s.small.protected → s'.small.protected ≡ s.small.protected
  -- "A hit in trial moves to the protected front; if protected is then over its limit, its last goes to the trial front."
  pub in_trial : s.small.protected ≤ i → s.small.protected < most_protected g → s'.small.protected ≡ suc s.small.protected
  pub at_limit : s.small.protected ≤ i → s.small.protected ≡ most_protected g → s'.small.protected ≡ most_protected g

-- A miss of page l.
pub record OnMiss (g : Geometry) (l : ℕ) (s s' : State) : Type 0 where
  -- "A miss enters at the trial front." The protected entries stay as they are, and the others are one rank further.
  pub front : logical_at s.small.protected s'.cache ≡ l
  pub stay : (j : ℕ) → j < s.small.protected → logical_at j s'.cache ≡ logical_at j s.cache
  pub protected : s'.small.protected ≡ s.small.protected
  pub further : (j : ℕ) → s.small.protected ≤ j → suc j < s'.small.used → logical_at (suc j) s'.cache ≡ logical_at j s.cache
  -- "The victim is the trial part's last": where all C are used, one goes, and it is the one that no rank has then.
  pub one_more : s.small.used < g.C → s'.small.used ≡ suc s.small.used
  pub as_many : g.C ≤ s.small.used → s'.small.used ≡ s.small.used

-- Page l's, where it is cached and where it isn't.
pub record Replaces (g : Geometry) (l : ℕ) (s s' : State) : Type 0 where
  pub hit : rank_of g s.cache s.small.used l < g.C → OnHit g (rank_of g s.cache s.small.used l) s s'
  pub miss : g.C ≤ rank_of g s.cache s.small.used l → OnMiss g l s s'
