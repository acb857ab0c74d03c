-- Demand 1 over any list of tests that decide a table of grounds: each number is answered exactly where it is given, and a refusal changes
-- nothing. "Tests go in number order and the first that applies answers."
use Prim.Native.Nat.{ℕ, ◌≤◌, ◌<◌}
use Rattle.std.specs.Prelude.{◌≡◌, refl, ◌≢◌, ◌↔◌, Bool, false, not, List, [], ◌∷◌, ◌++◌}
use Rattle.std.proofs.Common.{sym, ◌∙◌, arith, eq-eqb, ne_eqb}
use Rattle.flash.specs.Cases.{on, same?, clash}
use Rattle.scope.specs.Lent.{State}
use Rattle.scope.specs.Operations.{Outcome, Step, give}
use Rattle.scope.specs.Replies.{DONE, UNWRITTEN, Test, first_applying, admit}
use Rattle.scope.specs.Laws.Decides.{Decides}
use Rattle.promises.specs.Grounds.{Ground, GivenFor, Refuses, Refusal, AllPassed}

-- A test of a row, which decides both what it is given for and what passes it, so that no statement says "not not".
pub record Decided (row : Ground) : Type 0 where
  pub test : Bool
  pub given : Decides test row.Holds
  pub passed : Decides (not test) row.Passes

abbrev pub AllDecided : List Ground → Type 0
AllDecided [] = Unit {0}
AllDecided (row ∷ rows) = Decided row × AllDecided rows

abbrev pub decided_then : (rows more : List Ground) → AllDecided rows → AllDecided more → AllDecided (rows ++ more)
decided_then [] more d e = e
decided_then (row ∷ rows) more d e = (d.0, decided_then rows more d.1 e)

abbrev pub tests_of : (rows : List Ground) → AllDecided rows → List Test
tests_of [] d = []
tests_of (row ∷ rows) d = record { number = row.number; applies = d.0.test } ∷ tests_of rows d.1

-- "In number order", all above k.
abbrev pub Rising : ℕ → List Ground → Type 0
Rising k [] = Unit {0}
Rising k (row ∷ rows) = (k < row.number) × Rising row.number rows

-- A test that doesn't apply is passed.
fails : {row : Ground} (d : Decided row) → d.test ≡ false → row.Passes
fails d e = d.passed.holds (rw e)

passes : {row : Ground} (d : Decided row) → row.Passes → d.test ≡ false
passes d h = on d.test (λ e. clash (d.passed.passes h) (rw e)) (λ e. e)

-- The answer is DONE or the number of one of the rows, all of which are above k.
answer_above : (k : ℕ) (rows : List Ground) (d : AllDecided rows) → Rising k rows → first_applying (tests_of rows d) ≢ DONE
    → k < first_applying (tests_of rows d)
unfolding first_applying
answer_above k [] d o h = absurd (h refl)
answer_above k (row ∷ rows) d o h =
    on d.0.test
    (λ e. rw e o.0)
    (λ e. rw e (let ih = answer_above row.number rows d.1 o.1 (rw e at h) in omega (arith, o.0)))

-- Each number is answered exactly where it is given, and DONE where all rows are passed.
answered_exactly : (k : ℕ) (rows : List Ground) (d : AllDecided rows) → Rising k rows → (n : ℕ) → n ≢ DONE
    → (first_applying (tests_of rows d) ≡ n) ↔ GivenFor rows n
unfolding first_applying
answered_exactly k [] d o n m = (λ e. absurd (m (sym e)), λ h. absurd h)
answered_exactly k (row ∷ rows) d o n m =
    same? row.number n
    (λ e. rw (eq-eqb row.number n e)
    (on d.0.test
    (λ t. rw t (λ _. d.0.given.holds t, λ _. e))
    (λ t. rw t (λ q. absurd (later e q), λ h. clash (d.0.given.passes h) t))))
    (λ e. rw (ne_eqb row.number n e)
    (on d.0.test
    (λ t. rw t (λ q. absurd (e q), λ h. clash t (passes d.0 h.0)))
    (λ t. let ih = answered_exactly row.number rows d.1 o.1 n m in rw t (λ q. (fails d.0 t, ih.0 q), λ h. ih.1 h.1))))
  where
    later : row.number ≡ n → first_applying (tests_of rows d.1) ≡ n → ⊥
    later e q = omega (arith, answer_above row.number rows d.1 o.1 (λ z. m (sym q ∙ z)))

pub done_exactly : (k : ℕ) (rows : List Ground) (d : AllDecided rows) → Rising k rows
    → (first_applying (tests_of rows d) ≡ DONE) ↔ AllPassed rows
unfolding first_applying
done_exactly k [] d o = (λ _. tt, λ _. refl)
done_exactly k (row ∷ rows) d o =
    on d.0.test
    (λ t. rw t (λ q. absurd (omega (arith, o.0)), λ h. clash t (passes d.0 h.0)))
    (λ t. let ih = done_exactly row.number rows d.1 o.1 in rw t (λ q. (fails d.0 t, ih.0 q), λ h. ih.1 h.1))

-- A call that tests first: `o` is what `admit` makes of tests that decide the rows, of the refusal and of the steps from state s.
pub record ByGrounds {A : Type 0} (rows : List Ground) (reply : A → ℕ) (refused : ℕ → A) (steps : Step A) (s : State)
    (o : Outcome A) : Type 0 where
  pub answers : Refuses (reply o.value) rows
  -- A refusal is its number and nothing else: the state is as it was, and there are no operations.
  pub refuses : Refusal (reply o.value) → o ≡ give (refused (reply o.value)) s
  -- Where all rows are passed the steps are made, and not otherwise.
  pub serves : AllPassed rows → o ≡ steps s
  pub served : reply o.value ≤ UNWRITTEN → AllPassed rows × (o ≡ steps s)

admit_serves : {A : Type 0} (ts : List Test) (refused : ℕ → A) (steps : Step A) → first_applying ts ≡ DONE
    → admit ts refused steps ≡ steps
unfolding admit
admit_serves ts refused steps e = rw (eq-eqb (first_applying ts) DONE e)

admit_refuses : {A : Type 0} (ts : List Test) (refused : ℕ → A) (steps : Step A) → first_applying ts ≢ DONE
    → admit ts refused steps ≡ give (refused (first_applying ts))
unfolding admit
admit_refuses ts refused steps e = rw (ne_eqb (first_applying ts) DONE e)

module _ {A : Type 0} (rows : List Ground) (d : AllDecided rows) (rising : Rising UNWRITTEN rows) (reply : A → ℕ) (refused : ℕ → A)
    (steps : Step A) (s : State) (numbered : (n : ℕ) → reply (refused n) ≡ n) (within : reply (steps s).value ≤ UNWRITTEN) where
  -- The law of every call: Demand 1 but for what its grounds are.
  pub by_grounds : ByGrounds rows reply refused steps s (admit (tests_of rows d) refused steps s)
  unfolding give
  by_grounds = same? (first_applying (tests_of rows d)) DONE admitted turned_away
    where
      n : ℕ
      n = first_applying (tests_of rows d)

      admitted : n ≡ DONE → ByGrounds rows reply refused steps s (admit (tests_of rows d) refused steps s)
      admitted e =
          rw (admit_serves (tests_of rows d) refused steps e)
          record {
            answers = λ m h. (
              λ q. absurd (omega arith),
              λ x. absurd (omega (arith, (answered_exactly UNWRITTEN rows d rising m (omega arith)).1 x)),
            );
            refuses = λ h. absurd (omega arith);
            serves = λ _. refl;
            served = λ _. ((done_exactly UNWRITTEN rows d rising).0 e, refl);
          }

      turned_away : n ≢ DONE → ByGrounds rows reply refused steps s (admit (tests_of rows d) refused steps s)
      turned_away e =
          let above : UNWRITTEN < n = answer_above UNWRITTEN rows d rising e in
          rw (admit_refuses (tests_of rows d) refused steps e)
          record {
            answers = λ m h. rw (numbered n) (answered_exactly UNWRITTEN rows d rising m (omega arith));
            refuses = λ h. rw (numbered n);
            serves = λ h. absurd (e ((done_exactly UNWRITTEN rows d rising).1 h));
            served = λ h. absurd (omega (arith, numbered n));
          }
