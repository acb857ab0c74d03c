-- A test decides a proposition: it passes exactly where the proposition holds. One law for each form that the tests have.
use Rattle.std.specs.Prelude.{ℕ, zero, suc, ◌≤◌, ◌<◌, ◌≡◌, refl, ◌⊎◌, Bool, true, false, not, cond, ◌&&◌, ◌||◌, eqb, ltb, leb}
use Rattle.std.proofs.Common.{sym, subst, inl, inr, arith}
use borrow.Author.Tests.{eqb-true, eq-eqb, ltb-true, lt-ltb, leb-true, le-leb}
use Rattle.scope.specs.Counting.{all, some}

pub record Decides (b : Bool) (X : Type 0) : Type 0 where
  pub holds : b ≡ true → X
  pub passes : X → b ≡ true

clash : {X : Type 0} (b : Bool) → b ≡ true → b ≡ false → X
clash b p q = let z : ◌≡◌ {A = ℕ} 0 1 = cc in absurd (omega arith)

pub by_equal : (a b : ℕ) → Decides (eqb a b) (a ≡ b)
by_equal a b = record { holds = eqb-true a b; passes = eq-eqb a b }

pub by_below : (a b : ℕ) → Decides (ltb a b) (a < b)
by_below a b = record { holds = ltb-true a b; passes = lt-ltb a b }

pub by_most : (a b : ℕ) → Decides (leb a b) (a ≤ b)
by_most a b = record { holds = leb-true a b; passes = le-leb a b }

pub by_true : Decides true (Unit {0})
by_true = record { holds = λ e. tt; passes = λ x. refl }

pub by_itself : (b : Bool) → Decides b (b ≡ true)
by_itself b = record { holds = λ e. e; passes = λ e. e }

-- The same test for a proposition that says the same.
pub by_same : {b : Bool} {X Y : Type 0} → (X → Y) → (Y → X) → Decides b X → Decides b Y
by_same to from d = record { holds = λ e. to (d.holds e); passes = λ y. d.passes (from y) }

and_parts : (b c : Bool) → b && c ≡ true → (b ≡ true) × (c ≡ true)
and_parts true c e = (refl, e)
and_parts false c e = clash false e refl

and_both : (b c : Bool) → b ≡ true → c ≡ true → b && c ≡ true
and_both true c p q = q
and_both false c p q = p

pub by_and : {b c : Bool} {X Y : Type 0} → Decides b X → Decides c Y → Decides (b && c) (X × Y)
by_and {b} {c} d e =
    record {
      holds = λ p. (d.holds (and_parts b c p).0, e.holds (and_parts b c p).1);
      passes = λ x. and_both b c (d.passes x.0) (e.passes x.1);
    }

or_part : (b c : Bool) → b || c ≡ true → (b ≡ true) ⊎ (c ≡ true)
or_part true c e = inl refl
or_part false c e = inr e

or_first : (b c : Bool) → b ≡ true → b || c ≡ true
or_first true c e = refl
or_first false c e = clash false e refl

or_second : (b c : Bool) → c ≡ true → b || c ≡ true
or_second true c e = refl
or_second false c e = e

pub by_or : {b c : Bool} {X Y : Type 0} → Decides b X → Decides c Y → Decides (b || c) (X ⊎ Y)
by_or {b} {c} {X} {Y} d e = record { holds = λ p. one (or_part b c p); passes = both }
  where
    one : (b ≡ true) ⊎ (c ≡ true) → X ⊎ Y
    one (inl p) = inl (d.holds p)
    one (inr p) = inr (e.holds p)

    both : X ⊎ Y → b || c ≡ true
    both (inl x) = or_first b c (d.passes x)
    both (inr y) = or_second b c (e.passes y)

not_holds : (b : Bool) → not b ≡ true → b ≡ true → ⊥
not_holds true p q = clash false p refl
not_holds false p q = clash false q refl

not_passes : (b : Bool) → (b ≡ true → ⊥) → not b ≡ true
not_passes true f = absurd (f refl)
not_passes false f = refl

pub by_not : {b : Bool} {X : Type 0} → Decides b X → Decides (not b) (X → ⊥)
by_not {b} d =
    record {
      holds = λ p x. not_holds b p (d.passes x);
      passes = λ f. not_passes b (λ p. f (d.holds p));
    }

imp_holds : (b c : Bool) → not b || c ≡ true → b ≡ true → c ≡ true
imp_holds true c p q = p
imp_holds false c p q = clash false q refl

imp_passes : (b c : Bool) → (b ≡ true → c ≡ true) → not b || c ≡ true
imp_passes true c f = f refl
imp_passes false c f = refl

-- `not b || c`: where the one holds, so does the other.
pub by_implied : {b c : Bool} {X Y : Type 0} → Decides b X → Decides c Y → Decides (not b || c) (X → Y)
by_implied {b} {c} d e =
    record {
      holds = λ p x. e.holds (imp_holds b c p (d.passes x));
      passes = λ f. imp_passes b c (λ q. e.passes (f (d.holds q)));
    }

-- `cond b c d`: the one where b's proposition holds, the other where it doesn't.
pub by_cond : {b c d : Bool} {X Y Z : Type 0} → Decides b X → Decides c Y → Decides d Z
    → Decides (cond b c d) ((X → Y) × ((X → ⊥) → Z))
by_cond {b} {c} {d} {X} {Y} {Z} x y z = go b x
  where
    go : (b : Bool) → Decides b X → Decides (cond b c d) ((X → Y) × ((X → ⊥) → Z))
    go true x =
        record {
          holds = λ e. (λ _. y.holds e, λ f. absurd (f (x.holds refl)));
          passes = λ h. y.passes (h.0 (x.holds refl));
        }
    go false x =
        record {
          holds = λ e. (λ p. clash false (x.passes p) refl, λ _. z.holds e);
          passes = λ h. z.passes (h.1 (λ p. clash false (x.passes p) refl));
        }

last : {X : ℕ → Type 0} (n i : ℕ) → i < suc n → ((j : ℕ) → j < n → X j) → X n → X i
last {X} n i h below top = go (ltb i n) refl
  where
    go : (b : Bool) → ltb i n ≡ b → X i
    go true e = below i (ltb-true i n e)
    go false e = subst X (sym (same e)) top
      where
        same : ltb i n ≡ false → i ≡ n
        same e = omega (arith, borrow.Author.Tests.ltb-false i n e)

pub by_all : {f : ℕ → Bool} {X : ℕ → Type 0} (n : ℕ) → ((i : ℕ) → Decides (f i) (X i))
    → Decides (all n f) ((i : ℕ) → i < n → X i)
by_all zero d = record { holds = λ e i h. absurd (omega arith); passes = λ x. refl }
by_all {X = X} (suc n) d =
    by_same
    (λ x i h. last {X = X} n i h x.0 x.1)
    (λ x. (λ i h. x i (omega arith), x n (omega arith)))
    (by_and (by_all n d) (d n))

pub by_some : {f : ℕ → Bool} {X : ℕ → Type 0} (n : ℕ) → ((i : ℕ) → Decides (f i) (X i))
    → Decides (some n f) ((i : ℕ) × (i < n) × X i)
by_some zero d = record { holds = λ e. clash false e refl; passes = λ x. absurd (omega (arith, x.1)) }
by_some {X = X} (suc n) d = by_same one more (by_or (by_some n d) (d n))
  where
    one : ((i : ℕ) × (i < n) × X i) ⊎ X n → (i : ℕ) × (i < suc n) × X i
    one (inl x) = (x.0, omega (arith, x.1), x.2)
    one (inr x) = (n, omega arith, x)

    more : (i : ℕ) × (i < suc n) × X i → ((i : ℕ) × (i < n) × X i) ⊎ X n
    more (i, h, x) = last {X = λ i. X i → ((i : ℕ) × (i < n) × X i) ⊎ X n} n i h (λ j l x. inl (j, l, x)) inr x
