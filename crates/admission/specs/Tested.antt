-- What the tests' answer tells: 0 only where the geometry is accepted, the lengths are right, the state is sound and the request passes, so
-- that the steps of a request may begin. And that a test that applies answers for all that follow it.
use Rattle.std.specs.Prelude.{ℕ, ◌<◌, ◌≡◌, refl, ◌≢◌, Bool, true, false, ◌&&◌, List, [], ◌∷◌, ◌++◌}
use Rattle.std.proofs.Common.{sym, ◌∙◌, arith}
use Rattle.flash.specs.Cases.{on, same?, and_true}
use Rattle.flash.specs.Lengths.{Lengths}
use Rattle.scope.specs.Geometry.{Geometry, Accepted, accepted}
use Rattle.scope.specs.SmallRecord.{SmallRecord}
use Rattle.scope.specs.Lent.{State, Request}
use Rattle.scope.specs.Sound.{Sound}
use Rattle.scope.specs.Decisions.{sound}
use Rattle.scope.specs.Replies.{DONE, DAMAGED, Test, first_applying, right_sizes}
use Rattle.scope.specs.Calls.{state_sizes, size_tests, state_tests, request_tests}
use Rattle.scope.proofs.Decided.{accepted_decided, sound_decided}
use Rattle.promises.specs.GroundsDecided.{tests_passed, page_passed}
use Rattle.lent.specs.declared.Counts.{Counts as Counted}
use Rattle.lent.specs.Shapes.{RoomToCount}
use Rattle.lent.specs.Ready.{Ready}
use Rattle.geometry.specs.Sizes.{sizes_fit}

-- The first of more tests.
earlier_applies : (ts us : List Test) {n : ℕ} → n ≡ first_applying ts → n ≢ DONE → n ≡ first_applying (ts ++ us)
unfolding first_applying
earlier_applies [] us e h = absurd (h e)
earlier_applies (t ∷ ts) us e h =
    on t.applies
    (λ a. rw a (rw a at e))
    (λ a. rw a (earlier_applies ts us (rw a at e) h))

-- A request that passes its tests is of a page below L.
pub request_below : (g : Geometry) (small : SmallRecord) (q : Request) → DONE ≡ first_applying (request_tests g small q) → q.page < g.L
request_below g small q e = page_passed g small q (tests_passed g small q (sym e))

-- n is the answer of a state's tests; `others`: whether the lengths beside the state's are right.
abbrev pub StateTested : Geometry → State → Bool → ℕ → Type 0
StateTested g s others n = n ≡ first_applying (state_tests g (right_sizes (state_sizes g s) && others) s)

module _ (g : Geometry) (s : State) (others : Bool) where
  abbrev sizes : Bool
  sizes = right_sizes (state_sizes g s) && others

  -- GEOMETRY and LENGTH passed.
  pub record SizesPass : Type 0 where
    pub accepts : accepted g ≡ true
    pub sized : sizes ≡ true

  pub sizes_pass : DONE ≡ first_applying (size_tests g sizes) → SizesPass
  unfolding first_applying
  sizes_pass =
      on (accepted g)
      (λ a. on sizes (λ z. λ _. record { accepts = a; sized = z }) (λ z. rw (a, z) (λ e. absurd (omega arith))))
      (λ a. rw a (λ e. absurd (omega arith)))

  -- Then the geometry is accepted, and the state's lists have its lengths.
  pub geometry_passes : SizesPass → Accepted g
  geometry_passes p = (accepted_decided g).holds p.accepts

  pub lengths_pass : SizesPass → Lengths g s
  lengths_pass p = sizes_fit g s (and_true (right_sizes (state_sizes g s)) others p.sized).0

  -- The next test's answer, and that of one before it.
  pub size_applies : {n : ℕ} → n ≡ first_applying (size_tests g sizes) → n ≢ DONE → n ≡ first_applying (state_tests g sizes s)
  size_applies = earlier_applies (size_tests g sizes) _

  pub damaged : SizesPass → sound g s ≡ false → DAMAGED ≡ first_applying (state_tests g sizes s)
  unfolding first_applying
  damaged p e = rw (p.accepts, p.sized, e)

  pub undamaged : SizesPass → sound g s ≡ true → DONE ≡ first_applying (state_tests g sizes s)
  unfolding first_applying
  undamaged p e = rw (p.accepts, p.sized, e)

  -- DAMAGED passed too.
  pub record StatePasses : Type 0 where
    pub sizes_passed : SizesPass
    pub is_sound : sound g s ≡ true

  pub state_passes : DONE ≡ first_applying (state_tests g sizes s) → StatePasses
  unfolding first_applying
  state_passes =
      on (accepted g)
      (λ a. on sizes
      (λ z. on (sound g s)
      (λ d. λ _. record { sizes_passed = record { accepts = a; sized = z }; is_sound = d })
      (λ d. rw (a, z, d) (λ e. absurd (omega arith))))
      (λ z. rw (a, z) (λ e. absurd (omega arith))))
      (λ a. rw a (λ e. absurd (omega arith)))

  pub soundness_passes : StatePasses → Sound g s
  soundness_passes p = (sound_decided g s).holds p.is_sound

  -- Then steps may begin, of as many operations as there is room to count.
  pub state_ready : {n : ℕ} {c : Counted} → StatePasses → RoomToCount n c → Ready g s n c
  state_ready p room =
      record {
        accepted = geometry_passes p.sizes_passed;
        lengths = lengths_pass p.sizes_passed;
        sound = soundness_passes p;
        countable = room;
      }

  -- A request's tests come after the state's.
  module _ (q : Request) where
    pub state_applies : {n : ℕ} → n ≡ first_applying (state_tests g sizes s) → n ≢ DONE
        → n ≡ first_applying (state_tests g sizes s ++ request_tests g s.small q)
    state_applies = earlier_applies (state_tests g sizes s) (request_tests g s.small q)

    pub request_applies : {n : ℕ} → StatePasses → n ≡ first_applying (request_tests g s.small q)
        → n ≡ first_applying (state_tests g sizes s ++ request_tests g s.small q)
    unfolding first_applying
    request_applies p e = rw (p.sizes_passed.accepts, p.sizes_passed.sized, p.is_sound) e

    -- All passed.
    pub record SinglePasses : Type 0 where
      pub state_passed : StatePasses
      pub request_passed : DONE ≡ first_applying (request_tests g s.small q)

    pub single_passes : DONE ≡ first_applying (state_tests g sizes s ++ request_tests g s.small q) → SinglePasses
    single_passes e =
        same? (first_applying (state_tests g sizes s)) DONE
        (λ d. let p = state_passes (sym d) in record { state_passed = p; request_passed = e ∙ sym (request_applies p refl) })
        (λ d. absurd (d (sym (e ∙ sym (state_applies refl d)))))
