-- What the counts of src/tally.rt and src/part.rt say, of one word and of a list of words.
use Rattle.std.specs.Prelude.{ℕ, ◌+◌, ◌-◌, ◌≤◌, ◌<◌, ◌≡◌, refl, Bool, false, cond, List, length, get_or}
use Rattle.std.proofs.Common.{arith, add-one, ap, ◌∙◌, eq-eqb}
use Rattle.scope.specs.Counting.{count}
use Rattle.scope.specs.Geometry.{most_pages}
use Rattle.scope.specs.Lent.{none}
use Rattle.flash.specs.Counting.{count_le, count_add, count_each, count_none}
use Rattle.words.specs.Erased.{ErasedRun}
use Rattle.words.specs.States.{count_next}
use Rattle.mapping.specs.Named.{owns, is_none, none_owned, past_owned}
use Rattle.mapping.specs.declared.tally.Tally.{Tally}
use Rattle.mapping.specs.declared.part.Run.{Run}

-- How far a count may go: further than any slice is long.
abbrev pub most_counted : ℕ
most_counted = 4294967295

-- Both counts can grow by n.
pub record Room (t : Tally) (n : ℕ) : Type 0 where
  pub nones_fit : t.nones + n ≤ most_counted
  pub good_fit : t.good + n ≤ most_counted

-- Neither count is above n.
pub record Counted (t : Tally) (n : ℕ) : Type 0 where
  pub nones_most : t.nones ≤ n
  pub good_most : t.good ≤ n

-- The counts of t with one word more; with n words more.
pub record TalliedWord (t r : Tally) (nowhere good : Bool) : Type 0 where
  pub nones_more : r.nones ≡ t.nones + cond nowhere 1 0
  pub good_more : r.good ≡ t.good + cond good 1 0

pub record Tallied (t r : Tally) (n : ℕ) (nowhere good : ℕ → Bool) : Type 0 where
  pub nones_more : r.nones ≡ t.nones + count n nowhere
  pub good_more : r.good ≡ t.good + count n good

-- A run of n words, from word i to word `at`: the first test passes for so many of them, the second for so many.
pub record RunCounted (i at n : ℕ) (nowhere : ℕ → Bool) (nones : ℕ) (good : ℕ → Bool) (found : ℕ) : Type 0 where
  pub starts : i ≤ at
  pub ends : at ≤ n
  pub nones_more : count at nowhere ≡ count i nowhere + nones
  pub good_more : count at good ≡ count i good + found

-- The k words from word `at` on name pages below `end`.
abbrev pub Places : List ℕ → ℕ → ℕ → ℕ → Type 0
Places words at k end = (j : ℕ) → j < k → get_or words (at + j) none < end

-- Nothing counted yet.
abbrev pub nothing : Tally
nothing = record { nones = 0; good = 0 }

pub room_enough : Room nothing most_counted
room_enough = record { nones_fit = omega arith; good_fit = omega arith }

pub room_less : {t : Tally} (m n : ℕ) → m ≤ n → Room t n → Room t m
room_less m n h room = record { nones_fit = omega (arith, room.nones_fit); good_fit = omega (arith, room.good_fit) }

-- The tests of word i of a list: it is *none*; it names the page of the owner `from + i`.
abbrev pub word_none : List ℕ → ℕ → Bool
word_none words i = is_none (get_or words i none)

abbrev pub word_good : List ℕ → ℕ → List ℕ → ℕ → ℕ → ℕ → Bool
word_good words from spare first n i = owns first n spare (from + i) (get_or words i none)

-- The counts of t with the words of a list more, for the owners from `from` on, of the n pages from page 0 on.
abbrev pub TalliedWords : List ℕ → ℕ → List ℕ → ℕ → Tally → Tally → Type 0
TalliedWords words from spare n t r = Tallied t r (length words) (word_none words) (word_good words from spare 0 n)

-- A word more.
pub tallied_more : (t s r : Tally) (i : ℕ) (nowhere good : ℕ → Bool) → Tallied t s i nowhere good → TalliedWord s r (nowhere i) (good i)
    → Tallied t r (i + 1) nowhere good
tallied_more t s r i nowhere good h w =
    record {
      nones_more = rw (add-one i) (omega (arith, h.nones_more, w.nones_more));
      good_more = rw (add-one i) (omega (arith, h.good_more, w.good_more));
    }

-- ---- runs

pub run_more : (i at had now n : ℕ) (nowhere good : ℕ → Bool) → RunCounted i at n nowhere 0 good had → at < n
    → nowhere at ≡ false → now ≡ cond (good at) 1 0 → RunCounted i (at + 1) n nowhere 0 good (had + now)
run_more i at had now n nowhere good h inside some is =
    record {
      starts = omega (arith, h.starts);
      ends = omega arith;
      nones_more = rw (add-one at, some) (omega (arith, h.nones_more));
      good_more = rw (add-one at) (omega (arith, h.good_more));
    }

-- k words more, which all do.
pub run_by : (k i at had now n : ℕ) (nowhere good : ℕ → Bool) → RunCounted i at n nowhere 0 good had → at + k ≤ n
    → ((j : ℕ) → j < k → nowhere (at + j) ≡ false) → now ≡ count k (λ j. good (at + j))
    → RunCounted i (at + k) n nowhere 0 good (had + now)
run_by k i at had now n nowhere good h inside some is =
    record {
      starts = omega (arith, h.starts);
      ends = inside;
      nones_more = omega (arith, count_add at k nowhere, count_none k (λ j. nowhere (at + j)) some, h.nones_more);
      good_more = omega (arith, count_add at k good, h.good_more);
    }

pub run_most : {i at n nones found : ℕ} {nowhere good : ℕ → Bool} → RunCounted i at n nowhere nones good found → found ≤ n
run_most {at = at} {good = good} h = omega (arith, h.good_more, h.ends, count_le at good)

-- Word i, which may be *none*, and the words behind it, which are.
pub record NonesRun (words : List ℕ) (i : ℕ) (r : Run) : Type 0 where
  pub behind : ErasedRun words (i + 1) r.at
  pub counts : r.found ≡ cond (word_none words i) 1 0 + (r.at - (i + 1))

-- A count over a word and those behind it.
count_behind : (f : ℕ → Bool) (i at : ℕ) → i + 1 ≤ at → count at f ≡ count i f + (cond (f i) 1 0 + count (at - (i + 1)) (λ j. f (i + 1 + j)))
count_behind f i at h =
    let end : at ≡ i + 1 + (at - (i + 1)) = omega arith in
    let parts : count at f ≡ count (i + 1) f + count (at - (i + 1)) (λ j. f (i + 1 + j)) = ap (λ (k : ℕ). count k f) end ∙ count_add (i + 1) (at - (i + 1)) f in
    omega (arith, count_next f i (count i f) (cond (f i) 1 0) refl refl)

-- Where word i names no page, none of the run does.
pub nones_counted : (words : List ℕ) (i : ℕ) (r : Run) (from : ℕ) (spare : List ℕ) (first n : ℕ) → first + n ≤ most_pages
    → first + n ≤ get_or words i none → NonesRun words i r
    → RunCounted i r.at (length words) (word_none words) r.found (word_good words from spare first n) 0
nones_counted words i r from spare first n small past run =
    let rest : ℕ = r.at - (i + 1) in
    let is_none_at : (j : ℕ) → j < rest → get_or words (i + 1 + j) none ≡ none = λ j h. run.behind.each (i + 1 + j) (omega arith) (omega arith) in
    let nones = count_each rest (λ j. word_none words (i + 1 + j)) (λ j h. eq-eqb (get_or words (i + 1 + j) none) none (is_none_at j h)) in
    let owned = count_none rest (λ j. word_good words from spare first n (i + 1 + j)) (λ j h.
    none_owned first n spare (from + (i + 1 + j)) (get_or words (i + 1 + j) none) small (is_none_at j h)) in
    let not_owned = past_owned first n spare (from + i) (get_or words i none) past in
    record {
      starts = omega (arith, run.behind.starts);
      ends = run.behind.ends;
      nones_more = omega (arith, run.counts, count_behind (word_none words) i r.at run.behind.starts);
      good_more = rw (not_owned, owned) at (count_behind (word_good words from spare first n) i r.at run.behind.starts);
    }

pub tallied_run : (t s r : Tally) (i at n nones found : ℕ) (nowhere good : ℕ → Bool) → Tallied t s i nowhere good
    → RunCounted i at n nowhere nones good found → r.nones ≡ s.nones + nones → r.good ≡ s.good + found → Tallied t r at nowhere good
tallied_run t s r i at n nones found nowhere good h run more better =
    record {
      nones_more = omega (arith, h.nones_more, run.nones_more);
      good_more = omega (arith, h.good_more, run.good_more);
    }

-- What was counted leaves room for the rest.
pub tallied_room : (t s : Tally) (i m n : ℕ) (nowhere good : ℕ → Bool) → Tallied t s i nowhere good → Room t n → i + m ≤ n → Room s m
tallied_room t s i m n nowhere good h room fits =
    record {
      nones_fit = omega (arith, h.nones_more, count_le i nowhere, room.nones_fit);
      good_fit = omega (arith, h.good_more, count_le i good, room.good_fit);
    }

pub tallied_most : (s : Tally) (i n : ℕ) (nowhere good : ℕ → Bool) → Tallied nothing s i nowhere good → i ≤ n → Counted s n
tallied_most s i n nowhere good h most =
    record {
      nones_most = omega (arith, h.nones_more, count_le i nowhere);
      good_most = omega (arith, h.good_more, count_le i good);
    }
