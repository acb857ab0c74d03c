-- Each row of the grounds is decided by its test of scope's Calls.antt, and so is each call's table. And what it is to pass them: demand 3's
-- "below the limit" does.
use Rattle.std.specs.Prelude.{ℕ, ◌≤◌, ◌<◌, ◌≡◌, refl, ◌⊎◌, Bool, true, false, not, ◌&&◌, List, [], ◌∷◌, ◌++◌, eqb, leb, length}
use Rattle.std.proofs.Common.{sym, ◌∙◌, inl, inr, arith, leb-false}
use Rattle.std.proofs.lemmas.Bool.{lt-leb, not-true}
use Rattle.flash.specs.Cases.{clash, not_of_false, twice_not}
use Rattle.scope.specs.Geometry.{Geometry, Accepted, accepted}
use Rattle.scope.specs.SmallRecord.{SmallRecord}
use Rattle.scope.specs.Lent.{State, Request, most_requests}
use Rattle.scope.specs.Sound.{Sound}
use Rattle.scope.specs.Decisions.{sound}
use Rattle.scope.specs.Replies.{DONE, UNWRITTEN, GEOMETRY, LENGTH, DAMAGED, KIND, PAGE, Size, first_applying, right_sizes}
use Rattle.scope.specs.Calls.{state_sizes, buffer_sizes, run_sizes, kinds, request_tests, read_of}
use Rattle.scope.specs.Laws.Decides.{Decides, by_equal, by_and, by_not, by_most}
use Rattle.scope.proofs.Decided.{accepted_decided, sound_decided}
use Rattle.promises.specs.Call.{Format, Check, Run}
use Rattle.promises.specs.Grounds.{Right, Wrong, AllPassed, size_grounds, state_ground, state_grounds, request_grounds, single_grounds, grounds}
use Rattle.promises.specs.Tests.{Decided, AllDecided, decided_then, done_exactly}
use Rattle.promises.specs.Bounds.{BelowLimit}

-- ---- the lengths, as propositions

-- Two lists of sizes.
pub right_both : (zs ys : List Size) → Right zs → Right ys → Right (zs ++ ys)
right_both [] ys a b = b
right_both (z ∷ zs) ys a b = (a.0, right_both zs ys a.1 b)

pub right_behind : (zs ys : List Size) → Right (zs ++ ys) → Right ys
right_behind [] ys a = a
right_behind (z ∷ zs) ys a = right_behind zs ys a.1

pub right_before : (zs ys : List Size) → Right (zs ++ ys) → Right zs
right_before [] ys a = tt
right_before (z ∷ zs) ys a = (a.0, right_before zs ys a.1)

pub right_decided : (zs : List Size) → Decides (right_sizes zs) (Right zs)
unfolding right_sizes
right_decided [] = record { holds = λ _. tt; passes = λ _. refl }
right_decided (z ∷ zs) = by_and (by_equal z.has z.should) (right_decided zs)

-- A conjunction fails where one part does.
pub by_either : (b c : Bool) {X Y : Type 0} → Decides (not b) X → Decides (not c) Y → Decides (not (b && c)) (X ⊎ Y)
by_either b c {X} {Y} d e = go b d
  where
    go : (b : Bool) → Decides (not b) X → Decides (not (b && c)) (X ⊎ Y)
    go true d = record { holds = λ h. inr (e.holds h); passes = λ h. either h }
      where
        either : X ⊎ Y → not c ≡ true
        either (inl x) = clash (d.passes x) refl
        either (inr y) = e.passes y
    go false d = record { holds = λ h. inl (d.holds refl); passes = λ h. refl }

pub wrong_decided : (zs : List Size) → Decides (not (right_sizes zs)) (Wrong zs)
unfolding right_sizes
wrong_decided [] = record { holds = λ h. clash h refl; passes = λ h. absurd h }
wrong_decided (z ∷ zs) = by_either (eqb z.has z.should) (right_sizes zs) (by_not (by_equal z.has z.should))
    (wrong_decided zs)

pub above_decided : (a b : ℕ) → Decides (not (leb a b)) (b < a)
above_decided a b =
    record {
      holds = λ h. leb-false a b (not-true (leb a b) h);
      passes = λ h. not_of_false (lt-leb a b h);
    }

-- ---- the rows

-- Given unless P, which b decides; Q is P's contrary.
abbrev given_unless : (n : ℕ) (b : Bool) {P Q : Type 0} → Decides b P → Decides (not b) Q
    → Decided (record { number = n; Holds = Q; Passes = P })
given_unless n b d e =
    record {
      test = not b;
      given = e;
      passed = record { holds = λ h. d.holds (sym (twice_not b) ∙ h); passes = λ h. twice_not b ∙ d.passes h };
    }

-- Given from a limit on.
abbrev given_from : (n limit x : ℕ) → Decided (record { number = n; Holds = limit ≤ x; Passes = x < limit })
given_from n limit x = record { test = leb limit x; given = by_most limit x; passed = above_decided limit x }

-- The lists of rows. `b` is the test of the lengths.
abbrev size_decided : (g : Geometry) (b : Bool) {fits misfits : Type 0} → Decides b fits → Decides (not b) misfits
    → AllDecided (size_grounds g fits misfits)
size_decided g b d e =
    (given_unless GEOMETRY (accepted g) (accepted_decided g) (by_not (accepted_decided g)), (given_unless LENGTH b d e, tt))

abbrev state_decided : (g : Geometry) (s : State) (b : Bool) {fits misfits : Type 0} → Decides b fits → Decides (not b) misfits
    → AllDecided (state_grounds g s fits misfits)
state_decided g s b {fits} {misfits} d e =
    decided_then (size_grounds g fits misfits) (state_ground g s ∷ []) (size_decided g b d e)
    (given_unless DAMAGED (sound g s) (sound_decided g s) (by_not (sound_decided g s)), tt)

abbrev pub request_decided : (g : Geometry) (small : SmallRecord) (q : Request) → AllDecided (request_grounds g small q)
request_decided g small q = (given_from KIND kinds q.kind, (given_from PAGE g.L q.page, tt))

-- ---- the table of each call

abbrev pub format_decided : (g : Geometry) (others : List Size) (s : State) → AllDecided (grounds g (Format others) s)
format_decided g others s =
    let sizes = state_sizes g s ++ others in size_decided g (right_sizes sizes) (right_decided sizes) (wrong_decided sizes)

abbrev pub check_decided : (g : Geometry) (others : List Size) (s : State) → AllDecided (grounds g (Check others) s)
check_decided g others s =
    let sizes = state_sizes g s ++ others in state_decided g s (right_sizes sizes) (right_decided sizes) (wrong_decided sizes)

abbrev pub single_decided : (g : Geometry) (others : List Size) (q : Request) (buffer : List ℕ) (s : State)
    → AllDecided (single_grounds g others q buffer s)
single_decided g others q buffer s =
    let sizes = state_sizes g s ++ buffer_sizes g buffer ++ others in
    decided_then (state_grounds g s (Right sizes) (Wrong sizes)) (request_grounds g s.small q)
    (state_decided g s (right_sizes sizes) (right_decided sizes) (wrong_decided sizes))
    (request_decided g s.small q)

abbrev pub run_decided : (g : Geometry) (others : List Size) (requests : List Request) (words answers : List ℕ) (s : State)
    → AllDecided (grounds g (Run others requests words answers) s)
run_decided g others requests words answers s =
    let sizes = state_sizes g s ++ run_sizes g requests words answers ++ others in
    let few = leb (length requests) most_requests in
    state_decided g s (right_sizes sizes && few)
    (by_and (right_decided sizes) (by_most (length requests) most_requests))
    (by_either (right_sizes sizes) few (wrong_decided sizes) (above_decided (length requests) most_requests))

-- ---- what it is to pass a table

module _ (g : Geometry) (small : SmallRecord) where
  -- What is asked of a read below the limit is its page.
  pub read_below : (l : ℕ) → l < g.L → BelowLimit g small (read_of l)
  read_below l h = h

  pub page_below : (q : Request) → BelowLimit g small q → q.page < g.L
  page_below q h = h

module _ (g : Geometry) (small : SmallRecord) (q : Request) where
  -- A request below the limit is refused for its kind alone.
  pub below_passes : q.kind < kinds → BelowLimit g small q → AllPassed (request_grounds g small q)
  below_passes kind below = (kind, (below, tt))

  pub tests_passed : first_applying (request_tests g small q) ≡ DONE → AllPassed (request_grounds g small q)
  tests_passed = (done_exactly UNWRITTEN (request_grounds g small q) (request_decided g small q) (omega arith)).0

  pub kind_passed : AllPassed (request_grounds g small q) → q.kind < kinds
  kind_passed h = h.0

  pub page_passed : AllPassed (request_grounds g small q) → q.page < g.L
  page_passed h = h.1.0

module _ (g : Geometry) (others : List Size) (q : Request) (buffer : List ℕ) (s : State) where
  pub single_passes : Accepted g → Right (state_sizes g s ++ buffer_sizes g buffer ++ others) → Sound g s
      → AllPassed (request_grounds g s.small q) → AllPassed (single_grounds g others q buffer s)
  single_passes ok right holds h = (ok, (right, (holds, h)))

  module _ (h : AllPassed (single_grounds g others q buffer s)) where
    pub buffer_passed : length buffer ≡ g.W
    buffer_passed = (right_behind (state_sizes g s) (buffer_sizes g buffer ++ others) h.1.0).0

    pub own_passed : AllPassed (request_grounds g s.small q)
    own_passed = h.1.1.1
