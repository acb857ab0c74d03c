-- The victim's pages in their order: what holds after the first n of them, and so after all.
use Prim.Native.Nat.{ℕ, zero, suc, ◌+◌, ◌*◌, ◌≤◌, ◌<◌}
use Rattle.std.specs.Prelude.{◌≡◌, refl, ◌≢◌, cond, List, [], ◌++◌, eqb, length}
use Rattle.std.proofs.Common.{sym, ap, ap₂, ◌∙◌, arith, length-append}
use Rattle.scope.specs.Counting.{count}
use Rattle.scope.specs.Geometry.{Geometry}
use Rattle.scope.specs.Regions.{Region, page_in, HasBlock}
use Rattle.scope.specs.SmallRecord.{open_block, next_offset}
use Rattle.scope.specs.Lent.{valid, State, Mapping, state_of, is_valid}
use Rattle.scope.specs.Blocks.{valid_pages}
use Rattle.scope.specs.Operations.{Outcome, give, ◌>>=◌}
use Rattle.scope.specs.Room.{Following, move_if_valid, move_pages}
use Rattle.scope.specs.Laws.Applied.{flash_refl}
use Rattle.flash.specs.Moments.{cost}
use Rattle.flash.specs.Bounded.{RegionBounded}
use Rattle.flash.specs.Cases.{last}
use Rattle.flash.specs.Counting.{count_upto}
use Rattle.flash.specs.Places.{page_in_region, page_in_same}
use Rattle.flash.specs.Listed.{cost_none, cost_++}
use Rattle.region.specs.Done.{Done, done_none, done_then}
use Rattle.region.specs.Follower.{View, Invariant, Mover}
use Rattle.region.specs.NextPage.{next_page}
use Rattle.region.specs.Moving.{Copying, Keeps, PageMoved, move_if_valid_law}

-- After the first n pages of block v, from state s with nothing in the open block: they have no valid page left, those ahead are as
-- they were, and as many pages were moved as were valid.
pub record Copied (g : Geometry) (r : Region) (view : View) (Inv : Invariant) (v n : ℕ) (s : State) (o : Outcome (List Mapping)) : Type 0 where
  pub copying : Copying g r view Inv o.value o.after
  pub keeps : Keeps g r view [] s o.value o.after
  pub opened : open_block r o.after.small ≡ open_block r s.small
  pub offset : next_offset r o.after.small ≡ count n (λ i. is_valid (page_in g v i) s.spare)
  pub emptied : (i : ℕ) → i < n → state_of (page_in g v i) o.after.spare ≢ valid
  pub ahead : (i : ℕ) → n ≤ i → i < g.P → state_of (page_in g v i) o.after.spare ≡ state_of (page_in g v i) s.spare
  pub waiting : length o.value ≤ next_offset r o.after.small
  pub done : Done g s o.did o.after
  pub costs : cost o.did ≡ 2 * next_offset r o.after.small

-- Fewer pages are moved than a block has, since one of block v's is not valid: the open block has room as long as there are pages to move.
pub few_moved : {g : Geometry} {r : Region} {view : View} {Inv : Invariant} {v n : ℕ} {s : State} {o : Outcome (List Mapping)}
    → n ≤ g.P → valid_pages g s.spare v < g.P → Copied g r view Inv v n s o → next_offset r o.after.small < g.P
few_moved {g} {v = v} {n} {s} h room copied =
    omega (arith, copied.offset, count_upto n g.P (λ i. is_valid (page_in g v i) s.spare) h)

module _ {g : Geometry} {r : Region} {follow : Following} {view : View} {Inv : Invariant}
    (F : Mover g r follow view Inv) (bounds : RegionBounded g r) (v : ℕ) (s : State)
    (here : HasBlock g r v) (closed : v ≢ open_block r s.small) (room : valid_pages g s.spare v < g.P) where
  copied_none : Copying g r view Inv [] s → next_offset r s.small ≡ 0
      → Copied g r view Inv v 0 s (record { value = []; after = s; did = [] })
  copied_none copying empty =
      record {
        copying = copying;
        keeps = λ k h. refl;
        opened = refl;
        offset = empty;
        emptied = λ i h. absurd (omega arith);
        ahead = λ i h l. refl;
        waiting = omega arith;
        done = done_none g flash_refl;
        costs = omega (arith, cost_none);
      }

  copied_next : (n : ℕ) (o o₁ : Outcome (List Mapping)) → n < g.P → Copied g r view Inv v n s o
      → PageMoved g r view Inv (page_in g v n) o.value o.after (cond (is_valid (page_in g v n) o.after.spare) 1 0) o₁
      → Copied g r view Inv v (suc n) s (record { value = o.value ++ o₁.value; after = o₁.after; did = o.did ++ (o₁.did ++ []) })
  copied_next n o o₁ h before moved =
      record {
        copying = moved.copying;
        keeps = λ k l. moved.keeps k l ∙ before.keeps k l;
        opened = moved.opened ∙ before.opened;
        offset = moved.offset
            ∙ ap₂ (λ m b. m + cond b 1 0) before.offset (ap (λ x. eqb x valid) (before.ahead n (omega arith) h));
        emptied = λ i l. last i n l
            (λ k e. before.emptied i k (sym (moved.others (page_in g v i) (λ q. omega arith) (not_next i (omega arith))) ∙ e))
            (λ e. rw e moved.at_p);
        ahead = λ i l k. moved.others (page_in g v i) (λ q. omega arith) (not_next i k) ∙ before.ahead i (omega arith) k;
        waiting = omega (arith, length-append o.value o₁.value, before.waiting, moved.waiting, moved.offset);
        done = done_then before.done (done_then moved.done (done_none g flash_refl));
        costs = omega (arith, cost_++ o.did (o₁.did ++ []), cost_++ o₁.did [], cost_none, before.costs, moved.costs, moved.offset);
      }
    where
      not_next : (i : ℕ) → i < g.P → page_in g v i ≢ next_page g r o.after
      not_next i l e =
          closed ((page_in_same g v (open_block r o.after.small) i _ l (few_moved (omega arith) room before) e).0 ∙ before.opened)

  pub move_pages_law : (n : ℕ) → n ≤ g.P → Copying g r view Inv [] s → next_offset r s.small ≡ 0
      → Copied g r view Inv v n s (move_pages g r follow v n s)
  unfolding move_pages ◌>>=◌ give
  move_pages_law zero h copying empty = copied_none copying empty
  move_pages_law (suc n) h copying empty =
      let before = move_pages_law n (omega arith) copying empty in
      copied_next n (move_pages g r follow v n s) (move_if_valid g r follow (page_in g v n) (move_pages g r follow v n s).after) h before
      (move_if_valid_law F bounds (page_in g v n) _ _ before.copying (few_moved (omega arith) room before) (page_in_region g r v n here h))
