-- What demand 3 is said with: one valid page for each written one, "below the limit", and the bounds of a read and of a write.
use Rattle.std.specs.Prelude.{ℕ, ◌+◌, ◌*◌, ◌≤◌, ◌<◌, ◌≡◌, ◌⊎◌, not, List, eqb}
use Rattle.scope.specs.Counting.{count}
use Rattle.scope.specs.Geometry.{Geometry}
use Rattle.scope.specs.SmallRecord.{SmallRecord}
use Rattle.scope.specs.Lent.{none, valid, State, Request, state_of, owner_of, is_valid}
use Rattle.scope.specs.Regions.{Data, region_pages, HasPage}
use Rattle.scope.specs.Sound.{Written, current}
use Rattle.scope.specs.Operations.{Operation}
use Rattle.scope.specs.Replies.{DONE, UNWRITTEN}
use Rattle.flash.specs.Moments.{cost}

-- "The valid data pages are one for each written logical page."
pub record OneForEach (g : Geometry) (s : State) : Type 0 where
  pub page_of : (l : ℕ) → l < g.L → Written g s l
      → (p : ℕ) × HasPage g Data p × (state_of p s.spare ≡ valid) × (owner_of p s.spare ≡ l)
  pub one : (p q : ℕ) → HasPage g Data p → HasPage g Data q → state_of p s.spare ≡ valid → state_of q s.spare ≡ valid
      → owner_of p s.spare ≡ owner_of q s.spare → p ≡ q
  pub written : (p : ℕ) → HasPage g Data p → state_of p s.spare ≡ valid
      → (owner_of p s.spare < g.L) × Written g s (owner_of p s.spare)
  pub as_many : count (region_pages g Data) (λ p. is_valid p s.spare) ≡ count g.L (λ l. not (eqb (current g s l) none))

abbrev pub read_bound : Geometry → ℕ
read_bound g = 2 * g.P + 3

abbrev pub write_bound : Geometry → ℕ
write_bound g = (2 * g.P + 1) * (g.P + 1)

-- "Below the limit": what is asked of a request beside right geometry and lengths, with the small record as it is then. It is said in demand
-- 3's own words, and not by demand 1's table of grounds: else a refusal more would narrow it without a word of it being changed.
abbrev pub BelowLimit : Geometry → SmallRecord → Request → Type 0
BelowLimit g small q = q.page < g.L

-- A read, and a write, by its answer and its operations.
abbrev pub ReadsWell : Geometry → ℕ → List Operation → Type 0
ReadsWell g reply did = ((reply ≡ DONE) ⊎ (reply ≡ UNWRITTEN)) × (cost did ≤ read_bound g)

abbrev pub WritesWell : Geometry → ℕ → List Operation → Type 0
WritesWell g reply did = (reply ≡ DONE) × (cost did ≤ write_bound g)

-- A request by its kind, be it a single call's or a record's.
pub record ServesWell (g : Geometry) (q : Request) (reply : ℕ) (did : List Operation) : Type 0 where
  pub as_read : q.kind ≡ 0 → ReadsWell g reply did
  pub as_write : q.kind ≡ 1 → WritesWell g reply did
