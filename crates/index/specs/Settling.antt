-- "Each touched translation page, in rising number, is updated once": what waits is settled by going from one touched page to the next,
-- since the others have nothing to set.
use Rattle.std.specs.Prelude.{◌≡◌, ℕ, zero, suc, ◌+◌, ◌-◌, ◌*◌, ◌<◌, ◌≤◌, List, [], ◌∷◌, length, refl}
use Rattle.std.proofs.Common.{sym, subst, ◌∙◌, mul-le-mul_left, add-zero, add-suc, add-one, arith}
use Rattle.scope.specs.Geometry.{Geometry, M}
use Rattle.scope.specs.Lent.{State, Mapping}
use Rattle.scope.specs.Operations.{for}
use Rattle.scope.specs.Steps.{of_page, update, update_touched, update_all}
use Rattle.flash.specs.Lengths.{Lengths, blank}
use Rattle.cache.specs.Waiting.{Waits, of_page_waits, waiting_below, waiting_below_le}
use Rattle.promises.specs.Parts.{IndexHolds, IndexFits}
use Rattle.promises.specs.Update.{update_bound, Updated, update_law}
use Rattle.lent.specs.declared.Work.{Work}
use Rattle.lent.specs.DoesLaws.{does_give, does_for_none, does_for_more}
use Rattle.lent.specs.Shapes.{RoomToCount, room_after, less_room}
use Rattle.index.specs.Index.{Index, DoesIndex, index_state, IndexLent, index_lengths, lengths_lent, IndexReady}
use Rattle.index.specs.Taking.{Lowest, Rest, lowest_rises}
use Rattle.index.specs.Writing.{PageReady}

-- How many mappings wait for translation page t and those above it.
abbrev left : Geometry → List Mapping → ℕ → ℕ
left g ms t = length ms - waiting_below g t ms

left_less : (g : Geometry) (ms : List Mapping) (t : ℕ) → left g ms (suc t) + length (of_page g t ms) ≤ left g ms t
unfolding waiting_below
left_less g ms t = omega (arith, waiting_below_le g (suc t) ms)

-- What each step keeps holds after several.
upwards : (X : ℕ → Type 0) (t d : ℕ) → ((k : ℕ) → t ≤ k → k < t + d → X k → X (suc k)) → X t → X (t + d)
upwards X t zero step x = rw add-zero x
upwards X t (suc d) step x =
    rw add-suc (step (t + d) (omega arith) (omega arith) (upwards X t d (λ k h l. step k h (omega arith)) x))

-- The translation pages below t are done.
pub record SettledUpto (g : Geometry) (ms : List Mapping) (x : Index) (w : Work) (t : ℕ) (x' : Index) (w' : Work) : Type 0 where
  pub does : DoesIndex (for t (λ k. update_touched g k (of_page g k ms))) x w tt x' w'
  pub lent : IndexLent g x'
  pub index : IndexHolds g x'.chip x'.spare x'.directory w'.rec.open_translation w'.rec.translation_offset
  pub counting : RoomToCount (update_bound g * left g ms t) w'.counts

module _ {g : Geometry} {ms : List Mapping} {x : Index} {w : Work} where
  pub none_settled : IndexReady g x w ms → SettledUpto g ms x w 0 x w
  none_settled ready =
      record {
        does = λ s. does_for_none _;
        lent = ready.lent;
        index = ready.index;
        counting = less_room (mul-le-mul_left (update_bound g) (omega arith)) ready.counting;
      }

module _ {g : Geometry} {ms : List Mapping} {x x₁ : Index} {w w₁ : Work} where
  -- A page that nothing waits for is passed over.
  one_passed : {t : ℕ} → SettledUpto g ms x w t x₁ w₁ → of_page g t ms ≡ []
      → SettledUpto g ms x w (suc t) x₁ w₁
  unfolding update_touched
  one_passed {t} before e =
      record {
        does = λ s. does_for_more _ t (before.does s) (rw e (does_give tt));
        lent = before.lent;
        index = before.index;
        counting = less_room (mul-le-mul_left (update_bound g) (omega (arith, left_less g ms t))) before.counting;
      }

  -- To the next page that is touched.
  to_next : {from t : ℕ} → SettledUpto g ms x w from x₁ w₁ → from ≤ t
      → ((k : ℕ) → from ≤ k → k < t → of_page g k ms ≡ []) → SettledUpto g ms x w t x₁ w₁
  to_next {from} {t} before up untouched =
      let there : from + (t - from) ≡ t = omega arith in
      subst (λ k. SettledUpto g ms x w k x₁ w₁) there
      (upwards (λ k. SettledUpto g ms x w k x₁ w₁) from (t - from)
      (λ k h l so_far. one_passed so_far (untouched k h (omega arith))) before)

  -- It is ready for its update.
  pub next_page_ready : {t : ℕ} → SettledUpto g ms x w t x₁ w₁ → t < M g → 1 ≤ length (of_page g t ms)
      → PageReady g x₁ w₁ t
  next_page_ready {t} before below touched =
      let some : update_bound g * 1 ≤ update_bound g * left g ms t = mul-le-mul_left (update_bound g) (omega (arith, left_less g ms t)) in
      record {
        lent = before.lent;
        holds = before.index.pages;
        below = below;
        counting = less_room (omega arith) before.counting;
      }

-- An update of a page that something waits for is what the definition does there.
touched_is : (g : Geometry) (t : ℕ) (ms : List Mapping) → 1 ≤ length ms → update_touched g t ms ≡ update g t ms
unfolding update_touched
touched_is g t [] h = absurd (omega arith)
touched_is g t (m ∷ ms) h = refl

module _ {g : Geometry} {ms : List Mapping} {t : ℕ}
    {x x₁ x₂ : Index} {w w₁ w₂ : Work}
    (below_L : (l : ℕ) → Waits ms l → l < g.L) (before : SettledUpto g ms x w t x₁ w₁)
    (below : t < M g) (touched : 1 ≤ length (of_page g t ms))
    (updated : DoesIndex (update g t (of_page g t ms)) x₁ w₁ tt x₂ w₂) where
  abbrev s : State
  s = index_state g x₁ w₁

  law : Updated g t (of_page g t ms) (update_bound g) s (update g t (of_page g t ms) s)
  law = update_law before.lent.accepted t (of_page g t ms) s before.index below
      (λ l q. let (at, waits) = of_page_waits g t ms l q in (below_L l waits, at)) (index_lengths w₁ before.lent)

  is_after : (update g t (of_page g t ms) s).after ≡ index_state g x₂ w₂
  is_after = (updated (blank g)).after

  pub one_settled : SettledUpto g ms x w (t + 1) x₂ w₂
  one_settled =
      let less : update_bound g * (left g ms (suc t) + 1) ≤ update_bound g * left g ms t =
      mul-le-mul_left (update_bound g) (omega (arith, left_less g ms t)) in
      rw add-one (record {
        does = λ s. does_for_more _ t (before.does s) (rw (touched_is g t (of_page g t ms) touched) (updated s));
        lent = lengths_lent x₂ w₂ (blank g) before.lent.accepted (subst (Lengths g) is_after law.lengths);
        index = subst (IndexFits g) is_after law.index;
        counting = room_after (update_bound g * left g ms (suc t)) (update_bound g) w₁.counts w₂.counts
            (update g t (of_page g t ms) s).did (less_room (omega arith) before.counting) law.costs (updated (blank g)).counting;
      })

-- ---- the loop: t is the lowest page of what is left, or M

-- What is left are the mappings `rest`: of what waited, those of page t and above.
pub record Settling (g : Geometry) (ms rest : List Mapping) (x : Index) (w : Work) (m t : ℕ)
    (x' : Index) (w' : Work) : Type 0 where
  pub is_M : m ≡ M g
  pub low : Lowest g rest m t
  pub left : (s : ℕ) → t ≤ s → of_page g s rest ≡ of_page g s ms
  pub so_far : SettledUpto g ms x w t x' w'

module _ {g : Geometry} {ms : List Mapping} {x : Index} {w : Work} {m : ℕ}
    (ready : IndexReady g x w ms) where
  pub settle_starts : {t : ℕ} → m ≡ length x.directory → Lowest g ms m t → Settling g ms ms x w m t x w
  settle_starts is_m low =
      record {
        is_M = is_m ∙ ready.lent.directory_fits;
        low = low;
        left = λ s h. refl;
        so_far = to_next (none_settled ready) (omega arith) (λ k _ h. low.untouched k h);
      }

  module _ {rest : List Mapping} {x₁ : Index} {w₁ : Work} {t : ℕ}
      (before : Settling g ms rest x w m t x₁ w₁) where
    module _ (below : t < m) where
      touched : 1 ≤ length (of_page g t ms)
      touched = subst (λ (l : List Mapping). 1 ≤ length l) (before.left t (omega arith)) (before.low.touched below)

      pub settle_next : PageReady g x₁ w₁ t
      settle_next = next_page_ready before.so_far (omega (arith, before.is_M)) touched

      pub settle_goes_on : {rest' : List Mapping} {x₂ : Index} {w₂ : Work} {t' : ℕ}
          → DoesIndex (update g t (of_page g t rest)) x₁ w₁ tt x₂ w₂
          → Rest g t rest rest' → Lowest g rest' m t' → Settling g ms rest' x w m t' x₂ w₂
      settle_goes_on {rest'} {x₂} {w₂} {t'} updated taken low =
          let rises : t < t' = lowest_rises before.low below taken low in
          record {
            is_M = before.is_M;
            low = low;
            left = λ s h. still s (omega arith);
            so_far = to_next (one_settled ready.below_L before.so_far (omega (arith, before.is_M)) touched of_all) (omega arith)
                (λ k h l. sym (still k (omega arith)) ∙ low.untouched k l);
          }
        where
          still : (s : ℕ) → t < s → of_page g s rest' ≡ of_page g s ms
          still s h = taken.kept s (omega arith) ∙ before.left s (omega arith)

          of_all : DoesIndex (update g t (of_page g t ms)) x₁ w₁ tt x₂ w₂
          of_all = subst (λ (l : List Mapping). DoesIndex (update g t l) x₁ w₁ tt x₂ w₂)
              (before.left t (omega arith)) updated

    pub settle_ends : m ≤ t → DoesIndex (update_all g ms) x w tt x₁ w₁
    unfolding update_all
    settle_ends all =
        let end : t ≡ M g = omega (arith, before.low.up_to, before.is_M) in
        (subst (λ n. SettledUpto g ms x w n x₁ w₁) end before.so_far).does
