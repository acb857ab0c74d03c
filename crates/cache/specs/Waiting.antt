-- Mappings that wait: the last one for a page decides where it is. What one more does, and those of one translation page.
use Prim.Native.Nat.{ℕ, zero, suc, ◌+◌, ◌≤◌}
use native.Mathlib.Omega.{arith}
use Rattle.std.specs.Prelude.{◌≡◌, ◌≢◌, ◌⊎◌, cond, List, [], ◌∷◌, ◌++◌, eqb, length}
use Rattle.std.proofs.Math.Path.{refl}
use Rattle.std.proofs.Common.{ap, sym, ◌∙◌, inl, inr, ⊎_elim, eq-eqb, ne_eqb}
use Rattle.flash.specs.Cases.{same?}
use Rattle.scope.specs.Geometry.{Geometry}
use Rattle.scope.specs.Lent.{Mapping, translation_page}
use Rattle.scope.specs.Steps.{of_page}

-- The place that the last mapping of l names; `place` where there is none.
abbrev pub latest : List Mapping → ℕ → ℕ → ℕ
latest [] l place = place
latest (x ∷ w) l place = latest w l (cond (eqb x.logical l) x.physical place)

-- A page waits.
abbrev pub Waits : List Mapping → ℕ → Type 0
Waits [] l = ⊥
Waits (x ∷ w) l = (x.logical ≡ l) ⊎ Waits w l

-- A page that doesn't wait keeps its place.
pub latest_none : (w : List Mapping) (l place : ℕ) → (Waits w l → ⊥) → latest w l place ≡ place
latest_none [] l place n = refl
latest_none (x ∷ w) l place n = rw (ne_eqb x.logical l (λ e. n (inl e))) (latest_none w l place (λ q. n (inr q)))

pub latest_++ : (w v : List Mapping) (l place : ℕ) → latest (w ++ v) l place ≡ latest v l (latest w l place)
latest_++ [] v l place = refl
latest_++ (x ∷ w) v l place = latest_++ w v l (cond (eqb x.logical l) x.physical place)

-- One more that waits decides for its page, and for no other.
pub latest_here : (w : List Mapping) (l p place : ℕ) → latest (w ++ record { logical = l; physical = p } ∷ []) l place ≡ p
latest_here w l p place = latest_++ w (record { logical = l; physical = p } ∷ []) l place ∙ (rw (eq-eqb l l refl))

pub latest_elsewhere : (w : List Mapping) (l p k place : ℕ) → k ≢ l
    → latest (w ++ record { logical = l; physical = p } ∷ []) k place ≡ latest w k place
latest_elsewhere w l p k place d =
    latest_++ w (record { logical = l; physical = p } ∷ []) k place ∙ (rw (ne_eqb l k (λ e. d (sym e))))

pub waits_append : (w v : List Mapping) (l : ℕ) → Waits (w ++ v) l → Waits w l ⊎ Waits v l
waits_append [] v l q = inr q
waits_append (x ∷ w) v l (inl e) = inl (inl e)
waits_append (x ∷ w) v l (inr q) = ⊎_elim (λ k. inl (inr k)) inr (waits_append w v l q)

-- ---- the mappings of one translation page

pub of_page_waits : (g : Geometry) (t : ℕ) (w : List Mapping) (l : ℕ)
    → Waits (of_page g t w) l → (translation_page g l ≡ t) × Waits w l
unfolding of_page
of_page_waits g t [] l q = absurd q
of_page_waits g t (x ∷ w) l q =
    same? (translation_page g x.logical) t
    (λ e.
    let q' : (x.logical ≡ l) ⊎ Waits (of_page g t w) l = rw (eq-eqb (translation_page g x.logical) t e) at q in
    ⊎_elim (λ k. (ap (translation_page g) (sym k) ∙ e, inl k)) (λ k. later (of_page_waits g t w l k)) q')
    (λ e. later (of_page_waits g t w l (rw (ne_eqb (translation_page g x.logical) t e) at q)))
  where
    later : (translation_page g l ≡ t) × Waits w l → (translation_page g l ≡ t) × ((x.logical ≡ l) ⊎ Waits w l)
    later r = (r.0, inr r.1)

-- They decide for the page's own as all do.
pub of_page_latest : (g : Geometry) (w : List Mapping) (l place : ℕ)
    → latest (of_page g (translation_page g l) w) l place ≡ latest w l place
unfolding of_page
of_page_latest g [] l place = refl
of_page_latest g (x ∷ w) l place =
    same? (translation_page g x.logical) (translation_page g l)
    (λ e. rw (eq-eqb (translation_page g x.logical) (translation_page g l) e)
    (of_page_latest g w l (cond (eqb x.logical l) x.physical place)))
    (λ e.
    let other : x.logical ≢ l = λ k. e (ap (translation_page g) k) in
    rw (ne_eqb (translation_page g x.logical) (translation_page g l) e, ne_eqb x.logical l other) (of_page_latest g w l place))

-- ---- how many wait

-- How many wait for translation pages below n: what the updates of these set.
unfoldable pub waiting_below : Geometry → ℕ → List Mapping → ℕ
waiting_below g zero w = 0
waiting_below g (suc n) w = waiting_below g n w + length (of_page g n w)

module _ (g : Geometry) (x : Mapping) (w : List Mapping) where
  length_of_page : (t : ℕ) → translation_page g x.logical ≡ t → length (of_page g t (x ∷ w)) ≡ suc (length (of_page g t w))
  unfolding of_page
  length_of_page t e = rw (eq-eqb (translation_page g x.logical) t e)

  length_of_other : (t : ℕ) → translation_page g x.logical ≢ t → length (of_page g t (x ∷ w)) ≡ length (of_page g t w)
  unfolding of_page
  length_of_other t e = rw (ne_eqb (translation_page g x.logical) t e)

  waiting_before : (n : ℕ) → n ≤ translation_page g x.logical → waiting_below g n (x ∷ w) ≡ waiting_below g n w
  unfolding waiting_below
  waiting_before zero h = refl
  waiting_before (suc n) h = rw (waiting_before n (omega arith), length_of_other n (omega arith))

  waiting_first : (n : ℕ) → waiting_below g n (x ∷ w) ≤ suc (waiting_below g n w)
  unfolding waiting_below
  waiting_first zero = omega arith
  waiting_first (suc n) =
      same? (translation_page g x.logical) n
      (λ e. omega (arith, length_of_page n e, waiting_before n (omega arith)))
      (λ e. omega (arith, length_of_other n e, waiting_first n))

none_waiting : (g : Geometry) (n : ℕ) → waiting_below g n [] ≡ 0
unfolding waiting_below of_page
none_waiting g zero = refl
none_waiting g (suc n) = rw (none_waiting g n)

pub waiting_below_le : (g : Geometry) (n : ℕ) (w : List Mapping) → waiting_below g n w ≤ length w
waiting_below_le g n [] = omega (arith, none_waiting g n)
waiting_below_le g n (x ∷ w) = omega (arith, waiting_first g x w n, waiting_below_le g n w)
