-- Contracts of steps that touch some of the lent lists only: they do their definition whatever the others hold, and leave these as
-- they are. And room in the counts for what a step adds to them.
use Rattle.std.specs.Prelude.{ℕ, ◌+◌, ◌≤◌, ◌<◌, ◌≡◌, List}
use Rattle.std.proofs.Common.{ap, arith}
use Rattle.lent.specs.declared.Counts.{Counts as Counted}
use Rattle.lent.specs.declared.Work.{Work}
use Rattle.scope.specs.Lent.{State, with_flash, with_directory, with_cache}
use Rattle.scope.specs.Operations.{Operation, Step, Counts, counts_add, counted}
use Rattle.flash.specs.Moments.{cost}
use Rattle.lent.specs.Model.{with_rec, counts}
use Rattle.lent.specs.Does.{Does}
use Rattle.lent.specs.DoesLaws.{one_read}

-- Chip and spare, and what travels by value.
abbrev pub DoesFlash : {A : Type 0} → Step A → List ℕ → List ℕ → Work → A → List ℕ → List ℕ → Work → Type 0
DoesFlash m chip spare w x chip' spare' w' =
    (s : State)
    → Does m (with_flash chip spare (with_rec w.rec s)) (counts w.counts) x
    (with_flash chip' spare' (with_rec w'.rec s)) (counts w'.counts)

-- The chip, or the spare, seen and left as it is, and what travels by value.
abbrev pub DoesByChip : {A : Type 0} → Step A → List ℕ → Work → A → Work → Type 0
DoesByChip m chip w x w' =
    (s : State)
    → Does m (with_flash chip s.spare (with_rec w.rec s)) (counts w.counts) x
    (with_flash chip s.spare (with_rec w'.rec s)) (counts w'.counts)

abbrev pub DoesBySpare : {A : Type 0} → Step A → List ℕ → Work → A → Work → Type 0
DoesBySpare m spare w x w' =
    (s : State)
    → Does m (with_flash s.chip spare (with_rec w.rec s)) (counts w.counts) x
    (with_flash s.chip spare (with_rec w'.rec s)) (counts w'.counts)

-- The directory, and what travels by value; the cache, and what travels by value.
abbrev pub DoesDirectory : {A : Type 0} → Step A → List ℕ → Work → A → List ℕ → Work → Type 0
DoesDirectory m directory w x directory' w' =
    (s : State)
    → Does m (with_directory directory (with_rec w.rec s)) (counts w.counts) x
    (with_directory directory' (with_rec w'.rec s)) (counts w'.counts)

abbrev pub DoesCache : {A : Type 0} → Step A → List ℕ → Work → A → List ℕ → Work → Type 0
DoesCache m cache w x cache' w' =
    (s : State)
    → Does m (with_cache cache (with_rec w.rec s)) (counts w.counts) x
    (with_cache cache' (with_rec w'.rec s)) (counts w'.counts)

-- Each count may grow by n and is still a 32-bit number.
pub record RoomToCount (n : ℕ) (c : Counted) : Type 0 where
  pub reads : c.reads + n < 4294967296
  pub programs : c.programs + n < 4294967296
  pub erases : c.erases + n < 4294967296

-- Room for more is room for less.
pub less_room : {n m : ℕ} {c : Counted} → n ≤ m → RoomToCount m c → RoomToCount n c
less_room h room =
    record {
      reads = omega (arith, room.reads);
      programs = omega (arith, room.programs);
      erases = omega (arith, room.erases);
    }

-- Equal counts, number by number, for omega to read.
pub record Told (c d : Counts) : Type 0 where
  pub reads : c.reads ≡ d.reads
  pub programs : c.programs ≡ d.programs
  pub erases : c.erases ≡ d.erases

pub told : {c d : Counts} → c ≡ d → Told c d
told e =
    record {
      reads = ap (λ (x : Counts). x.reads) e;
      programs = ap (λ (x : Counts). x.programs) e;
      erases = ap (λ (x : Counts). x.erases) e;
    }

-- Less room is left after a step, by no more than its operations cost.
pub room_after : (n k : ℕ) (c c' : Counted) (os : List Operation) → RoomToCount (n + k) c → cost os ≤ k
    → counts_add (counts c) (counted os) ≡ counts c' → RoomToCount n c'
room_after n k c c' os room most e = omega (arith, told e)

pub room_after_read : (n : ℕ) (c c' : Counted) → RoomToCount (n + 1) c → counts c' ≡ one_read (counts c) → RoomToCount n c'
room_after_read n c c' room e = omega (arith, told e)
