-- The two ends of a run: what `begin` and `finish` do.
use Rattle.std.specs.Prelude.{ℕ, ◌≡◌, refl, ◌≢◌, Bool, true, false, ◌&&◌, List, ◌++◌, leb, Result, Ok, Err, is_err, OnOk}
use Rattle.std.proofs.Common.{sym, ap, ◌∙◌, true≢false}
use Rattle.lent.specs.declared.Record.{Record}
use Rattle.lent.specs.declared.reply.Refusal.{Refusal}
use Rattle.lent.specs.Model.{counts}
use Rattle.lent.specs.Reply.{tested, refused_not_done}
use Rattle.scope.specs.Geometry.{Geometry}
use Rattle.scope.specs.Lent.{State, most_requests}
use Rattle.scope.specs.Operations.{no_counts}
use Rattle.scope.specs.Replies.{DONE, Test, Size, first_applying, right_sizes}
use Rattle.scope.specs.Boundary.{put_counts}
use Rattle.scope.specs.Calls.{state_sizes, state_tests}
use Rattle.running.specs.declared.Running.{Running}
use Rattle.words.specs.Noted.{Noted}
use Rattle.replies.specs.Sizes.{sizes_of_run, run_right, with_run}
use Rattle.admission.specs.Tested.{StateTested}

-- The tests of a run of n requests, by the lengths of what it lends.
abbrev pub run_tests : Geometry → List Size → ℕ → ℕ → ℕ → State → List Test
run_tests g others n words answers s =
    state_tests g (right_sizes (state_sizes g s ++ sizes_of_run g n words answers ++ others) && leb n most_requests) s

-- The code tests with `right`, its own name for whether the lengths beside the state's are right.
pub run_tested : (g : Geometry) (s : State) (n words answers : ℕ) (others : List Size) {r : ℕ} {right : Bool}
    → right ≡ run_right g n words answers others → StateTested g s right r
    → r ≡ first_applying (run_tests g others n words answers s)
run_tested g s n words answers others named is =
    (rw named at is) ∙ ap (λ (b : Bool). first_applying (state_tests g b s)) (sym (with_run g s n words answers others))

-- The tests made, and where the run is admitted the notes taken; nothing else.
pub record Begun (g : Geometry) (others : List Size) (n words answers : ℕ) (s : State) (r : Running) (s' : State)
    (census filter : List ℕ) : Type 0 where
  pub tested : tested r.answer ≡ first_applying (run_tests g others n words answers s)
  pub uncounted : counts r.counts ≡ no_counts
  pub kept : s' ≡ s
  pub noted : OnOk r.answer (Noted g s' census filter)

-- What holds of an admitted run holds where its tests' number is that of DONE.
pub if_done : {A P : Type 0} (r : Result A Refusal) → tested r ≡ DONE → OnOk r P → P
if_done (Ok x) e h = h
if_done (Err w) e h = absurd (refused_not_done w e)

-- The number is that of DONE where no test refuses, and nowhere else.
pub is_done : {A : Type 0} (r : Result A Refusal) → is_err r ≡ false → tested r ≡ DONE
is_done (Ok x) e = refl
is_done (Err w) e = absurd (true≢false e)

pub not_done : {A : Type 0} (r : Result A Refusal) → is_err r ≡ true → tested r ≢ DONE
not_done (Ok x) e = absurd (true≢false (sym e))
not_done (Err w) e = refused_not_done w

-- The counts handed over.
pub record Finished (cur : Running) (given : List ℕ) (answer : ℕ) (rec : Record) (given' : List ℕ) : Type 0 where
  pub answered : answer ≡ tested cur.answer
  pub recorded : rec ≡ cur.rec
  pub handed : given' ≡ put_counts given (counts cur.counts)
