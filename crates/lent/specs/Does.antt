-- The shape of every step's contract: the lent lists and numbers after are the definition's, and so is what is handed back; the counts
-- have grown by those of its operations. Laws put contracts together as the definition puts steps together.
use Rattle.std.specs.Prelude.{◌≡◌}
use Rattle.scope.specs.Lent.{State}
use Rattle.scope.specs.Operations.{Step, Counts, counts_add, counted}

pub record Does {A : Type 0} (m : Step A) (s : State) (c : Counts) (x : A) (s' : State) (c' : Counts) : Type 0 where
  pub value : (m s).value ≡ x
  pub after : (m s).after ≡ s'
  pub counting : counts_add c (counted (m s).did) ≡ c'
