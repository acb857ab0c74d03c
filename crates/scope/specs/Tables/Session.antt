-- 01, "A session in full": its eight lines, the state afterwards and its six marked cases, as one table about the definitions.
use Rattle.std.specs.Prelude.{ℕ, ◌≡◌, refl, List, [], ◌∷◌}
use Rattle.scope.specs.Geometry.{Geometry}
use Rattle.scope.specs.SmallRecord.{words_from}
use Rattle.scope.specs.Lent.{none, erased, valid, invalid, State, words_of}
use Rattle.scope.specs.Replies.{DONE, UNWRITTEN, GEOMETRY, PAGE}
use Rattle.scope.specs.Tables.Play.{computed, Line, W, R, first_format, formatted, made, printed, play}

-- "Geometry G: P=2, W=2, D=3, T=3, L=3, C=1 (M=2)."
abbrev pub G : Geometry
G = record { P = 2; W = 2; D = 3; T = 3; L = 3; C = 1 }

-- "Input `W 0 10`, `W 1 11`, `W 0 12`, `W 2 13`, `W 1 14`, `R 0`, `R 0`, `W 0 15`".
abbrev pub input : List Line
input = W 0 10 ∷ W 1 11 ∷ W 0 12 ∷ W 2 13 ∷ W 1 14 ∷ R 0 ∷ R 0 ∷ W 0 15 ∷ []

-- "Prints exactly, without a header".
abbrev pub output : List (List ℕ)
output =
    (0 ∷ 0 ∷ 1 ∷ 0 ∷ [])
    ∷ (0 ∷ 1 ∷ 2 ∷ 0 ∷ [])
    ∷ (0 ∷ 2 ∷ 2 ∷ 0 ∷ [])
    ∷ (0 ∷ 1 ∷ 2 ∷ 0 ∷ [])
    ∷ (0 ∷ 2 ∷ 3 ∷ 1 ∷ [])
    ∷ (0 ∷ 3 ∷ 1 ∷ 1 ∷ 12 ∷ [])
    ∷ (0 ∷ 1 ∷ 0 ∷ 0 ∷ 12 ∷ [])
    ∷ (0 ∷ 2 ∷ 3 ∷ 1 ∷ [])
    ∷ []

-- What 01 says of a state: the spare, pages 9 and 11, the directory, the cache and the small record.
unfoldable pub told : State → List (List ℕ)
told s =
    s.spare ∷ words_of G 9 s.chip ∷ words_of G 11 s.chip ∷ s.directory ∷ s.cache ∷ words_from s.small ∷ []

-- "Afterwards: pages 0 and 1 are valid (owners 1, 0), 2 invalid (owner 0), 3 valid (owner 2), 4 to 7 erased, 8 invalid (0), 9 valid (1),
-- 10 invalid (0), 11 valid (0). Page 9 holds 3, *none*; page 11 holds 2, 0. Directory 11, 9. Cache 0, 1, changed. Small record 0, 2, 5,
-- 2, 1." Of one entry none is protected: the word that 02's P5 adds is 0.
abbrev pub afterwards : List (List ℕ)
afterwards =
    (valid ∷ 1 ∷ valid ∷ 0 ∷ invalid ∷ 0 ∷ valid ∷ 2
    ∷ erased ∷ none ∷ erased ∷ none ∷ erased ∷ none ∷ erased ∷ none
    ∷ invalid ∷ 0 ∷ valid ∷ 1 ∷ invalid ∷ 0 ∷ valid ∷ 0 ∷ [])
    ∷ (3 ∷ none ∷ [])
    ∷ (2 ∷ 0 ∷ [])
    ∷ (11 ∷ 9 ∷ [])
    ∷ (0 ∷ 1 ∷ 1 ∷ [])
    ∷ (0 ∷ 2 ∷ 5 ∷ 2 ∷ 1 ∷ 0 ∷ [])
    ∷ []

-- "More marked cases: G with L=4, and G with L=0, GEOMETRY; G with T=2, GEOMETRY; G with P=1 and L=1, accepted": the numbers of P, T
-- and L that each changes.
abbrev pub G_with : ℕ → ℕ → ℕ → Geometry
G_with p t l = record { P = p; W = 2; D = 3; T = t; L = l; C = 1 }

-- The table. What 01 says stands on the left, what the definitions give on the right.
pub record As01Says : Type 0 where
  pub eight_lines : output ≡ (play G input (formatted G)).lines
  pub state_afterwards : afterwards ≡ told (play G input (formatted G)).left
  -- Format's replies, on lists of the sizes that each geometry gives them.
  pub four_geometries : GEOMETRY ∷ GEOMETRY ∷ GEOMETRY ∷ DONE ∷ []
      ≡ (first_format (G_with 2 3 4)).value ∷ (first_format (G_with 2 3 0)).value
      ∷ (first_format (G_with 2 2 3)).value ∷ (first_format (G_with 1 3 1)).value ∷ []
  pub refused_geometry : GEOMETRY ≡ (made (G_with 2 3 4) (R 0) (formatted G)).value.reply
  pub read_3 : PAGE ∷ 0 ∷ 0 ∷ 0 ∷ [] ≡ printed (R 3) (made G (R 3) (formatted G))
  pub read_2 : UNWRITTEN ∷ 0 ∷ 0 ∷ 0 ∷ [] ≡ printed (R 2) (made G (R 2) (formatted G))
  pub cache_after_read_2 : 2 ∷ none ∷ 0 ∷ [] ≡ (made G (R 2) (formatted G)).after.cache

pub session_is_as_01_says : As01Says
unfolding computed told
session_is_as_01_says =
    record {
      eight_lines = refl;
      state_afterwards = refl;
      four_geometries = refl;
      refused_geometry = refl;
      read_3 = refl;
      read_2 = refl;
      cache_after_read_2 = refl;
    }
