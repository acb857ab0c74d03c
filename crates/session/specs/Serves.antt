-- 01, "A session in full": "A program formats G, reads lines .. and prints answer, three counts and, for a DONE read, the first word."
-- What serving a line prints and leaves, in the words of scope's sessions (Tables/Play.antt), of which its table proves 01's session.
use Rattle.std.specs.Prelude.{ℕ, ◌≤◌, ◌≡◌, List, [], length, take, Option, Some, None}
use Rattle.scope.specs.SmallRecord.{record_of}
use Rattle.scope.specs.Lent.{State}
use Rattle.scope.specs.Tables.Play.{Line, W, R, made, printed}
use Rattle.scope.specs.Tables.Session.{G}
use Rattle.lines.specs.declared.Request.{Request}
use Rattle.lines.specs.declared.Request.TheVariants.{Write, Read}
use Rattle.lines.specs.Digits.{line, Puts}

-- The program's five arrays as a state.
abbrev pub held : List ℕ → List ℕ → List ℕ → List ℕ → List ℕ → State
held chip spare directory cache words =
    record { chip = chip; spare = spare; directory = directory; cache = cache; small = record_of words }

-- The bytes that are printed for a line, and the state after it.
pub record Shown : Type 0 where
  pub bytes : List ℕ
  pub left : State

abbrev pub answered : Line → State → Shown
answered l s = let o = made G l s in record { bytes = line (printed l o); left = o.after }

-- "Other lines are skipped."
abbrev pub shown : Option Request → State → Shown
shown (Some (Write page value)) s = answered (W page value) s
shown (Some (Read page)) s = answered (R page) s
shown None s = record { bytes = []; left = s }

-- A line was served: its bytes stand at the front of `out`, n of them, and the state is the one after it.
pub record Serves (what : Shown) (s' : State) (out out' : List ℕ) (n : ℕ) : Type 0 where
  pub puts : Puts out 0 what.bytes out' n
  pub left : what.left ≡ s'
  pub within : n ≤ length out'
  pub counted : n ≡ length (take n out')
