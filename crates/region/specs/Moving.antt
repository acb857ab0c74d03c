-- One page moved by a collection: read, programmed for its owner on the open block's next page, marked, and followed.
use Rattle.std.specs.Prelude.{ℕ, suc, ◌+◌, ◌*◌, ◌≤◌, ◌<◌, ◌≡◌, refl, ◌≢◌, cond, List, [], ◌∷◌, ◌++◌, length}
use Rattle.std.proofs.Common.{sym, ap, subst, subst₂, ◌∙◌, append-nil, arith, eqb-true}
use Rattle.std.proofs.lemmas.Bool.{eqb-false}
use Rattle.scope.specs.Geometry.{Geometry}
use Rattle.scope.specs.Regions.{Region, owners, HasPage}
use Rattle.scope.specs.SmallRecord.{open_block, next_offset}
use Rattle.scope.specs.Lent.{valid, Place, decode, State, Mapping, words_of, state_of, owner_of, is_valid}
use Rattle.scope.specs.Operations.{Read, Outcome, apply, give, look, perform, ◌>>=◌}
use Rattle.scope.specs.Room.{Following, read_page, program_next, move_page, move_if_valid}
use Rattle.scope.specs.Steps.{mark_old}
use Rattle.scope.specs.Laws.Applied.{flash_refl}
use Rattle.flash.specs.Moments.{cost}
use Rattle.flash.specs.Bounded.{RegionBounded}
use Rattle.flash.specs.Cases.{on, same?}
use Rattle.flash.specs.Lengths.{Lengths, length_words_of}
use Rattle.flash.specs.Places.{page_on_chip, page_in_region}
use Rattle.flash.specs.Listed.{cost_none, cost_first, cost_++}
use Rattle.region.specs.Holds.{RegionFits, Maps, Renames, contents, valid_page_named}
use Rattle.region.specs.Carried.{flash_pages, region_fits_same, maps_same}
use Rattle.region.specs.Elsewhere.{SameElsewhere}
use Rattle.region.specs.Done.{Done, done_none, done_read, done_then}
use Rattle.region.specs.NextPage.{next_page, PageWritten, written_elsewhere, page_written}
use Rattle.region.specs.Follower.{View, Invariant, AfterMoved, Mover}

-- While a collection copies, with w waiting: the region but for the erased block besides, its map, and the follower's invariant.
pub record Copying (g : Geometry) (r : Region) (view : View) (Inv : Invariant) (w : List Mapping) (s : State) : Type 0 where
  pub fits : RegionFits g r s.chip s.spare (open_block r s.small) (next_offset r s.small)
  pub maps : Maps g r s.spare (view w s)
  pub inv : Inv w s
  pub lengths : Lengths g s

-- From one such state to a later one each owner's words are kept.
abbrev pub Keeps : Geometry → Region → View → List Mapping → State → List Mapping → State → Type 0
Keeps g r view w s w' s' =
    (k : ℕ) → k < owners g r → contents g s'.chip (decode (view w' s' k)) ≡ contents g s.chip (decode (view w s k))

-- After page p has been moved, or passed over.
pub record PageMoved (g : Geometry) (r : Region) (view : View) (Inv : Invariant) (p : ℕ) (w : List Mapping) (s : State) (moves : ℕ)
    (o : Outcome (List Mapping)) : Type 0 where
  pub copying : Copying g r view Inv (w ++ o.value) o.after
  pub keeps : Keeps g r view w s (w ++ o.value) o.after
  pub opened : open_block r o.after.small ≡ open_block r s.small
  pub offset : next_offset r o.after.small ≡ next_offset r s.small + moves
  pub at_p : state_of p o.after.spare ≢ valid
  pub others : (x : ℕ) → x ≢ p → x ≢ next_page g r s → state_of x o.after.spare ≡ state_of x s.spare
  pub waiting : length o.value ≤ moves
  pub done : Done g s o.did o.after
  pub costs : cost o.did ≡ 2 * moves

-- A page that isn't valid is passed over.
passed_over : {g : Geometry} {r : Region} {view : View} {Inv : Invariant} (p : ℕ) (w : List Mapping) (s : State)
    → Copying g r view Inv w s → state_of p s.spare ≢ valid
    → PageMoved g r view Inv p w s 0 (record { value = []; after = s; did = [] })
passed_over {g} p w s copying not_valid =
    record {
      copying = rw append-nil copying;
      keeps = λ k h. rw append-nil refl;
      opened = refl;
      offset = omega arith;
      at_p = not_valid;
      others = λ x _ _. refl;
      waiting = omega arith;
      done = done_none g flash_refl;
      costs = cost_none;
    }

-- What move-page does: its parts one after the other.
abbrev moves : (p : ℕ) → Outcome ℕ → Outcome (Unit {0}) → Outcome (List Mapping) → Outcome (List Mapping)
moves p o o' m = record { value = m.value; after = m.after; did = Read p ∷ (o.did ++ (o'.did ++ m.did)) }

move_page_is : (g : Geometry) (r : Region) (follow : Following) (p : ℕ) (s : State)
    → let o = program_next g r (owner_of p s.spare) (words_of g p s.chip) s in
    let o' = mark_old g (Place p) o.after in
    move_page g r follow p s ≡ moves p o o' (follow.moved (owner_of p s.spare) o.value o'.after)
unfolding move_page read_page mark_old ◌>>=◌ look perform apply
move_page_is g r follow p s = refl

module _ {g : Geometry} {r : Region} {follow : Following} {view : View} {Inv : Invariant}
    (F : Mover g r follow view Inv) (bounds : RegionBounded g r) where
  -- The parts as variables: page p was k's, and what follows has been told.
  moved_so : (p k : ℕ) (w : List Mapping) (s : State) (o : Outcome ℕ) (o' : Outcome (Unit {0})) (m : Outcome (List Mapping))
      → decode (view w s k) ≡ Place p → PageWritten g r k (words_of g p s.chip) (view w s) s o o'
      → AfterMoved g r view Inv w k (next_page g r s) o'.after m
      → ((j : ℕ) → j < owners g r → view w o'.after j ≡ view w s j)
      → PageMoved g r view Inv p w s 1 (moves p o o' m)
  moved_so p k w s o o' m is_place wrote moved sees =
      record {
        copying = record {
          fits = region_fits_same (flash_pages moved.flash)
              (subst₂ (RegionFits g r _ _) (sym opened') (sym offset') wrote.replacement.fits);
          maps = maps_same (flash_pages moved.flash) (wrote.replacement.maps _ renames);
          inv = moved.inv;
          lengths = moved.lengths;
        };
        keeps = λ j h. ap (λ chip. contents g chip (decode (view (w ++ m.value) m.after j))) moved.flash.chip
            ∙ same? j k
            (λ e. subst (λ j. contents g o'.after.chip (decode (view (w ++ m.value) m.after j)) ≡ contents g s.chip (decode (view w s j)))
            (sym e) (wrote.replacement.written _ renames ∙ sym (ap (contents g s.chip) is_place)))
            (wrote.replacement.keeps _ renames j h);
        opened = opened';
        offset = offset' ∙ omega arith;
        at_p = λ e. omega (arith, ap (state_of p) moved.flash.spare, wrote.replacement.pages.old_state p is_place);
        others = λ x not_p not_q. ap (state_of x) moved.flash.spare
            ∙ (wrote.replacement.pages.rest x not_q (λ e. not_p (cc))).state;
        waiting = moved.at_most_one;
        done = done_then (done_read g p) (done_then wrote.programmed (done_then wrote.marked
            (rw moved.no_operation (done_none g moved.flash))));
        costs = omega (
          arith,
          cost_first (Read p) (o.did ++ (o'.did ++ m.did)),
          cost_++ o.did (o'.did ++ m.did),
          cost_++ o'.did m.did,
          wrote.costs_program,
          wrote.costs_mark,
          ap cost moved.no_operation,
          cost_none,
        );
      }
    where
      renames : Renames (owners g r) k (next_page g r s) (view w s) (view (w ++ m.value) m.after)
      renames =
          record {
            there = moved.renames.there;
            elsewhere = λ j h apart. moved.renames.elsewhere j h apart ∙ sees j h;
          }

      opened' : open_block r m.after.small ≡ open_block r s.small
      opened' = moved.head.opened ∙ wrote.opened

      offset' : next_offset r m.after.small ≡ suc (next_offset r s.small)
      offset' = moved.head.offset ∙ wrote.offset

  -- "Each valid page is read, programmed with the same owner, and the old one marked invalid."
  move_page_law : (p : ℕ) (w : List Mapping) (s : State) → Copying g r view Inv w s → next_offset r s.small < g.P
      → HasPage g r p → state_of p s.spare ≡ valid → PageMoved g r view Inv p w s 1 (move_page g r follow p s)
  move_page_law p w s copying room here is_valid =
      rw move_page_is (moved_so p k w s o o' (follow.moved k o.value o'.after) is_place wrote after_moved
      (F.seen w s o'.after copying.lengths wrote.lengths beside copying.inv))
    where
      k : ℕ
      k = owner_of p s.spare

      owned : k < owners g r
      owned = (copying.fits.pages_fit p here).owned (λ e. omega arith)

      is_place : decode (view w s k) ≡ Place p
      is_place = valid_page_named g r s.spare (view w s) k p copying.fits.owners_differ copying.maps owned here is_valid refl

      words : List ℕ
      words = words_of g p s.chip

      o : Outcome ℕ
      o = program_next g r k words s

      o' : Outcome (Unit {0})
      o' = mark_old g (Place p) o.after

      wrote : PageWritten g r k words (view w s) s o o'
      wrote = page_written g r k words (view w s) s bounds copying.lengths
          (length_words_of g p s.chip (page_on_chip g r p here) copying.lengths.chip_fits)
          copying.fits room copying.maps owned (Place p) is_place

      beside : SameElsewhere g r s o'.after
      beside = written_elsewhere wrote

      after_moved : AfterMoved g r view Inv w k (next_page g r s) o'.after (follow.moved k o.value o'.after)
      after_moved = rw wrote.value (F.moved w k (next_page g r s) o'.after wrote.lengths
          (F.kept w s o'.after copying.lengths wrote.lengths beside copying.inv) owned
          (page_in_region g r _ _ copying.fits.in_region room))

  pub move_if_valid_law : (p : ℕ) (w : List Mapping) (s : State) → Copying g r view Inv w s
      → next_offset r s.small < g.P → HasPage g r p
      → PageMoved g r view Inv p w s (cond (is_valid p s.spare) 1 0) (move_if_valid g r follow p s)
  unfolding move_if_valid ◌>>=◌ look give
  move_if_valid_law p w s copying room here =
      on (is_valid p s.spare)
      (λ e. rw e (move_page_law p w s copying room here (eqb-true _ _ e)))
      (λ e. rw e (passed_over p w s copying (eqb-false _ _ e)))
