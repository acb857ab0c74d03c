-- Sessions on tiny geometries, by computation, for the cases that 01's session does not reach. After each call the state is sound by the
-- decision, each program was of an erased page, the bound held, and a read gave what was last written.
use Rattle.std.specs.Prelude.{ℕ, ◌+◌, ◌*◌, ◌≡◌, refl, Bool, true, cond, ◌&&◌, List, [], ◌∷◌, ◌++◌, eqb, leb, get_or, set, replicate}
use Rattle.scope.specs.Geometry.{Geometry}
use Rattle.scope.specs.SmallRecord.{record_of}
use Rattle.scope.specs.Lent.{none, erased, valid, invalid, is_erased, words_of, State}
use Rattle.scope.specs.Decisions.{sound}
use Rattle.scope.specs.Operations.{Operation, Read, Program, Mark, Erase, Outcome, apply, counted}
use Rattle.scope.specs.Replies.{DONE, UNWRITTEN}
use Rattle.scope.specs.Requests.{Replied}
use Rattle.scope.specs.Tables.Play.{computed, Line, W, R, formatted, made, printed, play}

-- "Only erased pages are programmed": of a list of operations, each at its moment.
unfoldable pub programs_erased : Geometry → List Operation → State → Bool
programs_erased g [] s = true
programs_erased g (Read p ∷ os) s = programs_erased g os s
programs_erased g (Program p owner words ∷ os) s =
    is_erased p s.spare && programs_erased g os (apply g (Program p owner words) s)
programs_erased g (Mark p ∷ os) s = programs_erased g os (apply g (Mark p) s)
programs_erased g (Erase b ∷ os) s = programs_erased g os (apply g (Erase b) s)

-- "(2P+1)(P+1) reads, programs and erases" for a write; "2P+3" for a read.
unfoldable pub bound : Geometry → Line → ℕ
bound g (W l value) = (2 * g.P + 1) * (g.P + 1)
bound g (R l) = 2 * g.P + 3

unfoldable pub within_bound : Geometry → Line → Outcome Replied → Bool
within_bound g line o =
    let c = counted o.did in
    leb (c.reads + c.programs + c.erases) (bound g line)

-- What was last written to each page: its value, *none* where nothing was.
unfoldable pub noted : Line → List ℕ → List ℕ
noted (W l value) last = set last l value
noted (R l) last = last

unfoldable pub as_written : Line → List ℕ → Replied → Bool
as_written (W l value) last r = eqb r.reply DONE
as_written (R l) last r =
    cond (eqb (get_or last l none) none)
    (eqb r.reply UNWRITTEN)
    (eqb r.reply DONE && eqb (get_or r.buffer 0 none) (get_or last l none))

-- What a line prints, and which of the four does not hold: 1 not sound, 2 a programmed page programmed, 3 over the bound, 4 another word.
unfoldable pub fault : ℕ → Bool → List ℕ
fault n holds = cond holds [] (n ∷ [])

unfoldable pub faults : Geometry → Line → List ℕ → State → Outcome Replied → List ℕ
faults g line last s o =
    fault 1 (sound g o.after) ++ fault 2 (programs_erased g o.did s)
    ++ fault 3 (within_bound g line o) ++ fault 4 (as_written line last o.value)

unfoldable pub watch : Geometry → List Line → List ℕ → State → List (List (List ℕ))
watch g [] last s = []
watch g (line ∷ lines) last s =
    let o = made g line s in
    (printed line o ∷ faults g line last s o ∷ []) ∷ watch g lines (noted line last) o.after

unfoldable pub watched : Geometry → List Line → List (List (List ℕ))
watched g lines = watch g lines (replicate g.L none) (formatted g)

-- A line that prints so, and nothing is wrong.
abbrev pub good : List ℕ → List (List ℕ)
good line = line ∷ [] ∷ []

abbrev pub geometry : ℕ → ℕ → ℕ → ℕ → ℕ → ℕ → Geometry
geometry p w d t l c = record { P = p; W = w; D = d; T = t; L = l; C = c }

pub record Instances : Type 0 where
  -- An unchanged entry is dropped and not written back; a changed one is.
  pub dropped_entries :
      good (1 ∷ 0 ∷ 0 ∷ 0 ∷ []) ∷ good (0 ∷ 0 ∷ 1 ∷ 0 ∷ []) ∷ good (1 ∷ 0 ∷ 1 ∷ 0 ∷ []) ∷ good (0 ∷ 2 ∷ 0 ∷ 0 ∷ 11 ∷ []) ∷ []
      ≡ watched (geometry 2 1 3 3 3 1) (R 1 ∷ W 0 11 ∷ R 1 ∷ R 0 ∷ [])
  -- D and T of 2: the open block, once full, is the only victim; the update's own page moves when its region makes room.
  pub two_blocks :
      good (0 ∷ 0 ∷ 1 ∷ 0 ∷ []) ∷ good (0 ∷ 0 ∷ 2 ∷ 0 ∷ []) ∷ good (0 ∷ 1 ∷ 2 ∷ 0 ∷ []) ∷ good (0 ∷ 7 ∷ 7 ∷ 2 ∷ [])
      ∷ good (0 ∷ 5 ∷ 3 ∷ 1 ∷ 12 ∷ []) ∷ []
      ≡ watched (geometry 3 1 2 2 2 1) (W 0 10 ∷ W 1 11 ∷ W 0 12 ∷ W 1 13 ∷ R 0 ∷ [])
  -- P of 1: every collection moves nothing.
  pub one_page_blocks :
      good (0 ∷ 0 ∷ 1 ∷ 0 ∷ []) ∷ good (0 ∷ 0 ∷ 1 ∷ 0 ∷ []) ∷ good (0 ∷ 0 ∷ 1 ∷ 1 ∷ []) ∷ good (0 ∷ 0 ∷ 1 ∷ 1 ∷ [])
      ∷ good (0 ∷ 1 ∷ 0 ∷ 0 ∷ 13 ∷ []) ∷ []
      ≡ watched (geometry 1 1 3 3 1 2) (W 0 10 ∷ W 0 11 ∷ W 0 12 ∷ W 0 13 ∷ R 0 ∷ [])
  -- A moved page's entry behind the front takes the new place, is changed, and keeps its rank.
  pub moved_behind_the_front :
      good (0 ∷ 0 ∷ 1 ∷ 0 ∷ []) ∷ good (0 ∷ 0 ∷ 1 ∷ 0 ∷ []) ∷ good (0 ∷ 0 ∷ 1 ∷ 0 ∷ []) ∷ good (0 ∷ 2 ∷ 3 ∷ 1 ∷ [])
      ∷ good (0 ∷ 1 ∷ 0 ∷ 0 ∷ 12 ∷ []) ∷ []
      ≡ watched (geometry 3 1 2 2 2 2) (W 0 10 ∷ W 1 11 ∷ W 1 12 ∷ W 0 13 ∷ R 1 ∷ [])
  -- Of two blocks with as few valid pages the lower is the victim.
  pub lowest_on_a_tie :
      good (0 ∷ 0 ∷ 1 ∷ 0 ∷ []) ∷ good (0 ∷ 0 ∷ 2 ∷ 0 ∷ []) ∷ good (0 ∷ 1 ∷ 2 ∷ 0 ∷ []) ∷ good (0 ∷ 0 ∷ 1 ∷ 0 ∷ [])
      ∷ good (0 ∷ 3 ∷ 3 ∷ 1 ∷ []) ∷ []
      ≡ watched (geometry 2 1 3 3 3 1) (W 2 10 ∷ W 0 11 ∷ W 2 12 ∷ W 2 13 ∷ W 0 14 ∷ [])
  -- Moved entries of two translation pages wait: both are updated, the lower first.
  pub two_pages_touched :
      good (0 ∷ 0 ∷ 1 ∷ 0 ∷ []) ∷ good (0 ∷ 0 ∷ 1 ∷ 0 ∷ []) ∷ good (0 ∷ 0 ∷ 2 ∷ 0 ∷ []) ∷ good (0 ∷ 0 ∷ 2 ∷ 0 ∷ [])
      ∷ good (0 ∷ 0 ∷ 1 ∷ 0 ∷ []) ∷ good (0 ∷ 0 ∷ 1 ∷ 0 ∷ []) ∷ good (0 ∷ 4 ∷ 5 ∷ 1 ∷ []) ∷ []
      ≡ watched (geometry 3 1 3 3 5 2) (W 3 10 ∷ W 1 11 ∷ W 0 12 ∷ W 2 13 ∷ W 0 14 ∷ W 0 15 ∷ W 2 16 ∷ [])
  -- Two moved entries of one translation page wait: it is updated once.
  pub one_page_touched_twice :
      good (0 ∷ 0 ∷ 1 ∷ 0 ∷ []) ∷ good (0 ∷ 0 ∷ 1 ∷ 0 ∷ []) ∷ good (0 ∷ 0 ∷ 1 ∷ 0 ∷ []) ∷ good (0 ∷ 0 ∷ 2 ∷ 0 ∷ [])
      ∷ good (0 ∷ 1 ∷ 2 ∷ 0 ∷ []) ∷ good (0 ∷ 0 ∷ 1 ∷ 0 ∷ []) ∷ good (0 ∷ 4 ∷ 4 ∷ 1 ∷ []) ∷ []
      ≡ watched (geometry 3 2 3 2 4 2) (W 0 10 ∷ W 0 11 ∷ W 1 12 ∷ W 2 13 ∷ W 3 14 ∷ W 3 15 ∷ W 2 16 ∷ [])
  -- The translation region is collected while the data region is, and the pages of both are found.
  pub collections_in_a_collection :
      good (0 ∷ 0 ∷ 1 ∷ 0 ∷ []) ∷ good (0 ∷ 0 ∷ 2 ∷ 0 ∷ []) ∷ good (0 ∷ 0 ∷ 2 ∷ 0 ∷ []) ∷ good (0 ∷ 1 ∷ 2 ∷ 0 ∷ [])
      ∷ good (0 ∷ 1 ∷ 2 ∷ 0 ∷ []) ∷ good (0 ∷ 1 ∷ 2 ∷ 0 ∷ []) ∷ good (0 ∷ 9 ∷ 10 ∷ 3 ∷ []) ∷ []
      ≡ watched (geometry 3 1 3 3 5 1) (W 4 10 ∷ W 2 11 ∷ W 0 12 ∷ W 4 13 ∷ W 3 14 ∷ W 4 15 ∷ W 1 16 ∷ [])

pub instances_hold : Instances
unfolding computed programs_erased bound within_bound noted as_written fault faults watch watched
instances_hold =
    record {
      dropped_entries = refl;
      two_blocks = refl;
      one_page_blocks = refl;
      moved_behind_the_front = refl;
      lowest_on_a_tie = refl;
      two_pages_touched = refl;
      one_page_touched_twice = refl;
      collections_in_a_collection = refl;
    }

-- ---- 02, P2: neighbours written back together

-- What lines leave in the cache and in page p.
unfoldable pub left_in : ℕ → Geometry → List Line → State → List (List ℕ)
left_in p g lines s =
    let left = (play g lines s).left in
    left.cache ∷ words_of g p left.chip ∷ []

-- Four entries. The last, 1, is changed and has not the last word of its translation page; 0 and 2 are of the same page, one unchanged and
-- one changed, and 3 is of another. No translation page has been programmed.
abbrev pub H : Geometry
H = geometry 2 3 4 3 5 4

abbrev pub four_cached : State
four_cached =
    record {
      chip = replicate 3 11 ++ replicate 3 12 ++ replicate 3 13 ++ replicate 33 erased;
      spare = valid ∷ 1 ∷ valid ∷ 2 ∷ valid ∷ 3 ∷ replicate 22 erased;
      directory = none ∷ none ∷ [];
      cache = 3 ∷ 2 ∷ 1 ∷ 2 ∷ 1 ∷ 1 ∷ 0 ∷ none ∷ 0 ∷ 1 ∷ 0 ∷ 1 ∷ [];
      small = record_of (1 ∷ 1 ∷ 4 ∷ 0 ∷ 4 ∷ 0 ∷ []);
    }

-- A changed entry at *none*, whose word on flash is still a place that it had. Behind it is a changed entry of the same translation page.
abbrev pub N : Geometry
N = geometry 2 4 3 2 3 2

abbrev pub one_at_none : State
one_at_none =
    record {
      chip = replicate 4 10 ++ replicate 4 11 ++ replicate 16 erased ++ (none ∷ 1 ∷ none ∷ none ∷ []) ++ replicate 12 erased;
      spare = valid ∷ 0 ∷ invalid ∷ 1 ∷ replicate 8 erased ++ (valid ∷ 0 ∷ []) ++ replicate 6 erased;
      directory = 6 ∷ [];
      cache = 1 ∷ none ∷ 1 ∷ 0 ∷ 0 ∷ 1 ∷ [];
      small = record_of (0 ∷ 2 ∷ 3 ∷ 1 ∷ 2 ∷ 0 ∷ []);
    }

-- Two entries are cached and changed when the other two of their translation page, 0 and 1, are moved.
abbrev pub K : Geometry
K = geometry 3 4 3 2 4 2

pub record Neighbours : Type 0 where
  -- A dropped entry's neighbour is set with it and becomes unchanged, at the rank that it has. An unchanged one stays as it is, and so does a
  -- changed entry of another translation page.
  pub one_left :
      (4 ∷ none ∷ 0 ∷ 3 ∷ 2 ∷ 1 ∷ 2 ∷ 1 ∷ 0 ∷ 0 ∷ none ∷ 0 ∷ []) ∷ (none ∷ 0 ∷ 1 ∷ []) ∷ [] ≡ left_in 8 H (R 4 ∷ []) four_cached
  -- It is one update. Then an unchanged entry is dropped and writes none back, the neighbour is dropped and not written again, and each is
  -- found where it was set.
  pub written_back :
      good (1 ∷ 0 ∷ 1 ∷ 0 ∷ []) ∷ good (0 ∷ 2 ∷ 0 ∷ 0 ∷ 11 ∷ []) ∷ good (1 ∷ 1 ∷ 0 ∷ 0 ∷ []) ∷ good (0 ∷ 2 ∷ 1 ∷ 0 ∷ 12 ∷ []) ∷ []
      ≡ watch H (R 4 ∷ R 1 ∷ R 0 ∷ R 2 ∷ []) (none ∷ 11 ∷ 12 ∷ 13 ∷ none ∷ []) four_cached
  -- "Those at *none* too": the word becomes *none*, and the page is unwritten still once its entry is gone.
  pub none_left : (2 ∷ none ∷ 0 ∷ 1 ∷ none ∷ 0 ∷ []) ∷ (0 ∷ none ∷ none ∷ none ∷ []) ∷ [] ≡ left_in 7 N (R 2 ∷ []) one_at_none
  pub none_written_back :
      good (1 ∷ 2 ∷ 1 ∷ 0 ∷ []) ∷ good (0 ∷ 2 ∷ 0 ∷ 0 ∷ 10 ∷ []) ∷ good (1 ∷ 1 ∷ 0 ∷ 0 ∷ []) ∷ good (0 ∷ 0 ∷ 1 ∷ 0 ∷ []) ∷ []
      ≡ watch N (R 2 ∷ R 0 ∷ R 1 ∷ W 1 12 ∷ []) (10 ∷ none ∷ none ∷ []) one_at_none
  -- Drops only: a collection sets what it moved, and no neighbour.
  pub moved_alone :
      (3 ∷ 8 ∷ 1 ∷ 2 ∷ 5 ∷ 1 ∷ []) ∷ (6 ∷ 7 ∷ none ∷ none ∷ []) ∷ []
      ≡ left_in 10 K (W 0 10 ∷ W 1 11 ∷ W 2 12 ∷ W 3 13 ∷ W 2 14 ∷ W 2 15 ∷ W 3 16 ∷ []) (formatted K)

pub neighbours_hold : Neighbours
unfolding computed programs_erased bound within_bound noted as_written fault faults watch left_in
neighbours_hold =
    record {
      one_left = refl;
      written_back = refl;
      none_left = refl;
      none_written_back = refl;
      moved_alone = refl;
    }
