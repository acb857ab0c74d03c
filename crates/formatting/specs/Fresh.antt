-- Format in one go: the erases of all blocks, one after the other, leave chip and spare of erased words alone.
use Prim.Native.Nat.{ℕ, zero, suc, ◌+◌, ◌*◌, ◌≤◌}
use Rattle.std.specs.Prelude.{◌≡◌, refl, List, ◌++◌, length, drop, replicate}
use Rattle.std.proofs.Common.{sym, ap, ap₂, ◌∙◌, append-nil, arith, zero-mul, length-append, length-drop, drop_of_length-le, take_at, drop-drop}
use Rattle.std.proofs.Math.Numerals.{add-one}
use Rattle.std.proofs.Math.Nat.{mul-le-mul_right}
use Rattle.std.proofs.lemmas.List.{length-replicate, replicate-append-replicate}
use Rattle.std.proofs.lemmas.List.Edits.{sets, sets-eq}
use Rattle.std.proofs.Math.Seq.{drop-append-add}
use Rattle.lent.specs.declared.Record.{Record}
use Rattle.lent.specs.Model.{small, state}
use Rattle.lent.specs.Does.{Does}
use Rattle.lent.specs.DoesLaws.{does_give, does_bind, does_erase, does_set_directory, does_set_cache, does_set_small, does_for_none, does_for_more}
use Rattle.scope.specs.Geometry.{Geometry, Accepted, blocks}
use Rattle.scope.specs.Lent.{none, erased, State, spare_words, with_flash}
use Rattle.scope.specs.SmallRecord.{fresh}
use Rattle.scope.specs.Operations.{Counts, no_counts, Erase, apply, perform, for}
use Rattle.scope.specs.Replies.{DONE}
use Rattle.scope.specs.Requests.{format_steps}
use Rattle.flash.specs.Lengths.{LengthsFit, Lengths}

-- What format asks: an accepted geometry, and lists of its lengths.
pub record Sized (g : Geometry) (chip spare directory cache : List ℕ) : Type 0 where
  pub accepted : Accepted g
  pub lengths : LengthsFit g chip spare directory cache

-- The same of a state's lists.
abbrev pub SizedState : Geometry → State → Type 0
SizedState g s = Sized g s.chip s.spare s.directory s.cache

-- The first n words are erased.
unfoldable filled : ℕ → List ℕ → List ℕ
filled n l = replicate n erased ++ drop n l

-- None of them, more of them, all of them.
filled_none : (l : List ℕ) → filled 0 l ≡ l
unfolding filled
filled_none l = refl

filled_more : (l : List ℕ) (a b : ℕ) → a + b ≤ length l → sets (filled a l) a (replicate b erased) ≡ filled (a + b) l
unfolding filled
filled_more l a b h =
    let n : length (replicate a erased) ≡ a = length-replicate a erased in
    let m : length (replicate b erased) ≡ b = length-replicate b erased in
    let end : a + length (replicate b erased) ≡ length (replicate a erased) + b = omega arith in
    let left : drop (a + length (replicate b erased)) (filled a l) ≡ drop (a + b) l =
    ap (λ (k : ℕ). drop k (filled a l)) end
    ∙ drop-append-add (replicate a erased) (drop a l) b
    ∙ drop-drop b a l in
    sets-eq (replicate b erased) (filled a l) a (simp (length-append, length-drop) (omega arith))
    ∙ ap₂ (λ (x y : List ℕ). x ++ replicate b erased ++ y) (take_at (replicate a erased) (drop a l) a n) left
    ∙ ap (λ (x : List ℕ). x ++ drop (a + b) l) (replicate-append-replicate a b erased)

filled_all : (l : List ℕ) (n : ℕ) → length l ≡ n → filled n l ≡ replicate (length l) erased
unfolding filled
filled_all l n e =
    ap (λ (x : List ℕ). replicate n erased ++ x) (drop_of_length-le l {i = n} (omega arith))
    ∙ append-nil (replicate n erased)
    ∙ ap (λ (k : ℕ). replicate k erased) (sym e)

-- The words of the first n blocks, in chip and spare.
abbrev erased_first : Geometry → ℕ → State → State
erased_first g n s = with_flash (filled (n * g.P * g.W) s.chip) (filled (n * g.P * spare_words) s.spare) s

erased_next : (P w n : ℕ) (l : List ℕ) → suc n * P * w ≤ length l
    → sets (filled (n * P * w) l) (n * P * w) (replicate (P * w) erased) ≡ filled (suc n * P * w) l
erased_next P w n l h =
    let e : n * P * w + P * w ≡ suc n * P * w = omega arith in
    filled_more l (n * P * w) (P * w) (omega arith) ∙ ap (λ (k : ℕ). filled k l) e

abbrev erases : ℕ → Counts
erases n = record { reads = 0; programs = 0; erases = n }

-- One block after the other.
module _ (g : Geometry) (s : State) (lengths : Lengths g s) where
  erases_do : (n : ℕ) → n ≤ blocks g
      → Does (for n (λ b. perform g (Erase b))) s no_counts tt (erased_first g n s) (erases n)
  unfolding apply
  erases_do zero h = simp (zero-mul, filled_none) (does_for_none _)
  erases_do (suc n) h =
      let here : suc n * g.P ≤ blocks g * g.P = mul-le-mul_right g.P h in
      let chip = erased_next g.P g.W n s.chip (omega (arith, lengths.chip_fits, mul-le-mul_right g.W here)) in
      let spare = erased_next g.P spare_words n s.spare (omega (arith, lengths.spare_fits)) in
      let one : Does (perform g (Erase n)) (erased_first g n s) (erases n) tt (apply g (Erase n) (erased_first g n s)) (erases (n + 1)) =
      does_erase g n in
      rw (← chip, ← spare) (does_for_more _ n (erases_do n (omega arith)) (rw add-one at one))

-- All lists erased, and the numbers of a fresh record.
pub format_does : (g : Geometry) (chip spare directory cache : List ℕ) (old new : Record)
    (chip' spare' directory' cache' : List ℕ)
    → Sized g chip spare directory cache → small new ≡ fresh g
    → chip' ≡ replicate (length chip) erased → spare' ≡ replicate (length spare) erased
    → directory' ≡ replicate (length directory) none → cache' ≡ replicate (length cache) none
    → Does (format_steps g) (state chip spare directory cache old) no_counts DONE
    (state chip' spare' directory' cache' new) (erases (blocks g))
unfolding format_steps
format_does g chip spare directory cache old new chip' spare' directory' cache' sized is_fresh c s d k =
    let lengths = sized.lengths in
    let s₀ = state chip spare directory cache old in
    let all_c = filled_all chip (blocks g * g.P * g.W) lengths.chip_fits in
    let all_s = filled_all spare (blocks g * g.P * spare_words) lengths.spare_fits in
    rw (is_fresh, c, s, d, k, lengths.directory_fits, lengths.cache_fits, ← all_c, ← all_s)
    (does_bind _ (erases_do g s₀ lengths (blocks g) (omega arith))
    (does_bind _ (does_set_directory _) (does_bind _ (does_set_cache _) (does_bind _ (does_set_small _) (does_give DONE)))))
