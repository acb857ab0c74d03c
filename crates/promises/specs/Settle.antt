-- "Each touched translation page, in rising number, is updated once with all its moved entries": what flash stores after that.
use Prim.Native.Nat.{ℕ, zero, suc, ◌*◌, ◌≤◌, ◌<◌}
use Rattle.std.specs.Prelude.{◌≡◌, refl, length}
use Rattle.std.proofs.Common.{sym, ◌∙◌, arith}
use Rattle.std.proofs.Math.Path.{ap}
use mathlib.Core.List.{List, [], ◌∷◌, ◌++◌}
use Rattle.std.proofs.Math.Nat.{mul-le-mul_left}
use Rattle.scope.specs.Geometry.{Geometry, Accepted, M}
use Rattle.scope.specs.Lent.{State, Mapping, translation_page}
use Rattle.scope.specs.Operations.{Outcome, give, for, ◌>>=◌}
use Rattle.scope.specs.Steps.{of_page, update_touched, update_all}
use Rattle.scope.specs.Laws.Applied.{flash_as}
use Rattle.flash.specs.Moments.{cost}
use Rattle.flash.specs.Cases.{last}
use Rattle.flash.specs.Lengths.{Lengths}
use Rattle.flash.specs.Listed.{cost_++, cost_none}
use Rattle.region.specs.Done.{Done, done_none, done_then}
use Rattle.region.specs.DirectoryFollows.{TranslationOnly}
use Rattle.cache.specs.Current.{stored_in}
use Rattle.cache.specs.Waiting.{latest, Waits, of_page_waits, of_page_latest, waiting_below, waiting_below_le}
use Rattle.promises.specs.Index.{page_below}
use Rattle.promises.specs.Stored.{MappingsOf}
use Rattle.promises.specs.Parts.{IndexFits}
use Rattle.promises.specs.Update.{only_refl, only_trans, update_bound, Updated, update_law}

-- The translation pages below n have the words of all that waits for them; the others are as they were.
record SettledBelow (g : Geometry) (w : List Mapping) (n : ℕ) (s : State) (o : Outcome (Unit {0})) : Type 0 where
  index : IndexFits g o.after
  below : (l : ℕ) → l < g.L → translation_page g l < n → stored_in g o.after l ≡ latest w l (stored_in g s l)
  above : (l : ℕ) → l < g.L → n ≤ translation_page g l → stored_in g o.after l ≡ stored_in g s l
  only : TranslationOnly g s o.after
  lengths : Lengths g o.after
  done : Done g s o.did o.after
  costs : cost o.did ≤ update_bound g * waiting_below g n w

-- What settling promises of flash.
pub record IndexSettled (g : Geometry) (w : List Mapping) (s : State) (o : Outcome (Unit {0})) : Type 0 where
  pub index : IndexFits g o.after
  pub stores : (l : ℕ) → l < g.L → stored_in g o.after l ≡ latest w l (stored_in g s l)
  pub only : TranslationOnly g s o.after
  pub lengths : Lengths g o.after
  pub done : Done g s o.did o.after
  pub costs : cost o.did ≤ update_bound g * length w

module _ {g : Geometry} (ok : Accepted g) where
  touched_law : (t : ℕ) (ms : List Mapping) (s : State) → Lengths g s → IndexFits g s → t < M g → MappingsOf g t ms
      → Updated g t ms (update_bound g * length ms) s (update_touched g t ms s)
  unfolding update_touched give
  touched_law t [] s len index below of_t =
      record {
        index = index;
        here = λ l h e. refl;
        elsewhere = λ l h e. refl;
        only = only_refl;
        lengths = len;
        done = done_none g (flash_as refl);
        costs = omega (arith, cost_none);
      }
  touched_law t (m ∷ ms) s len index below of_t =
      let u = update_law ok t (m ∷ ms) s index below of_t len in
      record {
        index = u.index;
        here = u.here;
        elsewhere = u.elsewhere;
        only = u.only;
        lengths = u.lengths;
        done = u.done;
        costs = omega (arith, u.costs);
      }

  module _ (w : List Mapping) (below_L : (l : ℕ) → Waits w l → l < g.L) where
    of_page_latest_at : (n : ℕ) (w : List Mapping) (l place : ℕ) → translation_page g l ≡ n
        → latest (of_page g n w) l place ≡ latest w l place
    of_page_latest_at n w l place e = ap (λ (t : ℕ). latest (of_page g t w) l place) (sym e) ∙ of_page_latest g w l place

    -- One translation page more.
    next_settled : (n : ℕ) (s : State) (a b : Outcome (Unit {0})) → n < M g → SettledBelow g w n s a
        → Updated g n (of_page g n w) (update_bound g * length (of_page g n w)) a.after b
        → SettledBelow g w (suc n) s (record { value = tt; after = b.after; did = a.did ++ b.did })
    unfolding waiting_below
    next_settled n s a b h before u =
        record {
          index = u.index;
          below = λ l k e. last (translation_page g l) n e
              (λ low. u.elsewhere l k (omega arith) ∙ before.below l k low)
              (λ at. u.here l k at ∙ of_page_latest_at n w l (stored_in g a.after l) at
              ∙ ap (latest w l) (before.above l k (omega arith)));
          above = λ l k e. u.elsewhere l k (omega arith) ∙ before.above l k (omega arith);
          only = only_trans before.only u.only;
          lengths = u.lengths;
          done = done_then before.done u.done;
          costs = omega (arith, cost_++ a.did b.did, before.costs, u.costs);
        }

    settled_below : (n : ℕ) (s : State) → n ≤ M g → Lengths g s → IndexFits g s
        → SettledBelow g w n s (for n (λ t. update_touched g t (of_page g t w)) s)
    unfolding for give ◌>>=◌
    settled_below zero s h len index =
        record {
          index = index;
          below = λ l k e. absurd (omega arith);
          above = λ l k e. refl;
          only = only_refl;
          lengths = len;
          done = done_none g (flash_as refl);
          costs = omega (arith, cost_none);
        }
    settled_below (suc n) s h len index =
        let before = settled_below n s (omega arith) len index in
        let a = for n (λ t. update_touched g t (of_page g t w)) s in
        next_settled n s a (update_touched g n (of_page g n w) a.after) h before
        (touched_law n (of_page g n w) a.after before.lengths before.index h
        (λ l q. let (at, waits) = of_page_waits g n w l q in (below_L l waits, at)))

    pub settle_law : (s : State) → Lengths g s → IndexFits g s → IndexSettled g w s (update_all g w s)
    unfolding update_all
    settle_law s len index =
        let all = settled_below (M g) s (omega arith) len index in
        record {
          index = all.index;
          stores = λ l h. all.below l h (page_below ok l h);
          only = all.only;
          lengths = all.lengths;
          done = all.done;
          costs = omega (arith, all.costs, mul-le-mul_left (update_bound g) (waiting_below_le g (M g) w));
        }
