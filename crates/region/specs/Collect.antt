-- Collect: the victim's valid pages move to the one erased block, what waited is settled, and the victim is erased, so that there is an
-- erased block besides the open one again, and room in the open one.
use Rattle.std.specs.Prelude.{ℕ, ◌+◌, ◌*◌, ◌-◌, ◌≤◌, ◌<◌, ◌≡◌, refl, ◌≢◌, List, [], ◌∷◌, ◌++◌, length}
use Rattle.std.proofs.Common.{sym, ap, subst, subst₂, ◌∙◌, arith, mul-le-mul_left}
use Rattle.scope.specs.Geometry.{Geometry}
use Rattle.scope.specs.Regions.{Region, page_in, HasBlock}
use Rattle.scope.specs.SmallRecord.{open_block, next_offset, opened}
use Rattle.scope.specs.Lent.{valid, decode, State, Mapping, state_of}
use Rattle.scope.specs.Operations.{Erase, Outcome, apply, look, perform, set_small, ◌>>=◌}
use Rattle.scope.specs.Room.{Following, erased_blocks, victim, move_pages, open_lowest, collect}
use Rattle.scope.specs.Laws.Applied.{SameFlash, flash_as}
use Rattle.flash.specs.Moments.{cost}
use Rattle.flash.specs.Bounded.{RegionBounded}
use Rattle.flash.specs.Lengths.{Lengths}
use Rattle.flash.specs.Pages.{erase_block}
use Rattle.flash.specs.Kept.{apply_keeps_lengths, apply_keeps_beside}
use Rattle.flash.specs.Places.{block_on_chip, page_in_region}
use Rattle.flash.specs.Heads.{rest_same}
use Rattle.flash.specs.SamePages.{erase_elsewhere}
use Rattle.flash.specs.Listed.{cost_first, cost_++, cost_none}
use Rattle.region.specs.Holds.{RegionFits, Besides, Holds, contents}
use Rattle.region.specs.Carried.{region_fits_same, maps_same, maps_viewed, contents_same}
use Rattle.region.specs.Blocks.{erase_law}
use Rattle.region.specs.Done.{done_none, done_one, done_then}
use Rattle.region.specs.Follower.{View, Invariant, AfterSettled, Follower, RoomMade}
use Rattle.region.specs.Moving.{Copying, Keeps}
use Rattle.region.specs.Copied.{Copied, few_moved}
use Rattle.region.specs.Starts.{Starts, opened_lowest, within_region, copied_since, collection_starts}

-- What collect does: its parts one after the other.
abbrev collects : (g : Geometry) (v : ℕ) → Outcome (List Mapping) → Outcome (Unit {0}) → Outcome (Unit {0})
collects g v o o' = record { value = tt; after = apply g (Erase v) o'.after; did = o.did ++ (o'.did ++ Erase v ∷ []) }

collect_is : (g : Geometry) (r : Region) (follow : Following) (s : State)
    → let o = move_pages g r follow (victim g r s) g.P (opened_lowest g r s) in
    collect g r follow s ≡ collects g (victim g r s) o (follow.settled o.value o.after)
unfolding collect open_lowest ◌>>=◌ look perform set_small
collect_is g r follow s = refl

module _ {g : Geometry} {r : Region} {follow : Following} {settling : ℕ} {view : View} {Inv : Invariant}
    (F : Follower g r follow settling view Inv) where
  -- What waited is settled.
  settle : (w : List Mapping) (s : State) (o : Outcome (Unit {0})) → Copying g r view Inv w s → AfterSettled g r settling view Inv w s o
      → Copying g r view Inv [] o.after × Keeps g r view w s [] o.after
  settle w s o copying settled = (
    record {
      fits = region_fits_same settled.pages
          (subst₂ (RegionFits g r _ _) (sym settled.opened) (sym settled.offset) copying.fits);
      maps = maps_viewed settled.views (maps_same settled.pages copying.maps);
      inv = settled.inv;
      lengths = settled.lengths;
    },
    λ k h. ap (λ x. contents g o.after.chip (decode x)) (settled.views k h)
        ∙ contents_same settled.pages k (decode (view w s k)) (copying.maps.names k h),
  )

  -- The victim, without a valid page, is erased.
  erase_keeps : (v : ℕ) (s : State) → Copying g r view Inv [] s → HasBlock g r v → v ≢ open_block r s.small
      → ((i : ℕ) → i < g.P → state_of (page_in g v i) s.spare ≢ valid)
      → Copying g r view Inv [] (apply g (Erase v) s) × Keeps g r view [] s [] (apply g (Erase v) s)
      × Besides g r (apply g (Erase v) s).spare (open_block r (apply g (Erase v) s).small)
  erase_keeps v s copying here closed none_valid =
      let did = erase_block g v s copying.lengths (block_on_chip g r v here) in
      let erasure = erase_law g r s (apply g (Erase v) s) _ _ v copying.fits here closed none_valid did in
      let beside = apply_keeps_beside g (Erase v) s in
      let same_open = ap (open_block r) beside.small in
      let (copying', keeps) = within_region F.mover [] s (apply g (Erase v) s) copying
      (record {
        pages = erase_elsewhere r here did;
        directory = beside.directory;
        cache = beside.cache;
        rest = rest_same r beside.small;
      })
      (apply_keeps_lengths g (Erase v) s copying.lengths)
      (subst₂ (RegionFits g r _ _) (sym same_open) (sym (ap (next_offset r) beside.small)) erasure.fits)
      (erasure.maps _ copying.maps) (erasure.keeps _ copying.maps) in
      (copying', keeps, subst (Besides g r (apply g (Erase v) s).spare) (sym same_open) erasure.besides)

  -- The parts of a collection of block v, from the state with a wholly erased block opened.
  collected : (v : ℕ) (s : State) (o : Outcome (List Mapping)) (o' : Outcome (Unit {0})) → Starts g r view Inv v s
      → Copied g r view Inv v g.P s o → AfterSettled g r settling view Inv o.value o.after o'
      → RoomMade g r settling view Inv s (collects g v o o')
  collected v s o o' starts copied settled =
      let here = starts.in_region in
      let (copying, keeps) = settle o.value o.after o' copied.copying settled in
      let (copying', keeps', besides) = erase_keeps v o'.after copying here
      (λ e. starts.closed (e ∙ settled.opened ∙ copied.opened))
      (λ i h e. copied.emptied i h (sym (settled.pages.page _ (page_in_region g r v i here h)).state ∙ e)) in
      record {
        holds = record { fits = copying'.fits; besides = besides; maps = copying'.maps };
        room = subst (λ n. n < g.P) (sym (ap (next_offset r) (apply_keeps_beside g (Erase v) o'.after).small ∙ settled.offset)) few;
        keeps = λ k h. keeps' k h ∙ keeps k h ∙ copied.keeps k h;
        inv = copying'.inv;
        lengths = copying'.lengths;
        done = done_then copied.done (done_then settled.done (done_one g (Erase v) tt));
        costs = costs;
      }
    where
      few : next_offset r o.after.small < g.P
      few = few_moved (omega arith) starts.some_invalid copied

      waited : settling * length o.value ≤ settling * (g.P - 1)
      waited = mul-le-mul_left settling (omega (arith, copied.waiting, few))

      costs : cost (o.did ++ (o'.did ++ Erase v ∷ [])) ≤ 2 * (g.P - 1) + settling * (g.P - 1) + 1
      costs = omega (
        arith,
        few,
        waited,
        copied.costs,
        settled.costs,
        cost_++ o.did (o'.did ++ Erase v ∷ []),
        cost_++ o'.did (Erase v ∷ []),
        cost_first (Erase v) [],
        cost_none,
      )

  -- Opening a block comes before, and does nothing to the flash.
  room_made_after : (s s₁ : State) (o : Outcome (Unit {0})) → SameFlash s₁ s → Keeps g r view [] s [] s₁
      → RoomMade g r settling view Inv s₁ o → RoomMade g r settling view Inv s o
  room_made_after s s₁ o flash keeps made =
      record {
        holds = made.holds;
        room = made.room;
        keeps = λ k h. made.keeps k h ∙ keeps k h;
        inv = made.inv;
        lengths = made.lengths;
        done = done_then (done_none g flash) made.done;
        costs = made.costs;
      }

  pub collect_law : (s : State) → RegionBounded g r → Lengths g s → Holds g r s (view [] s) → Inv [] s
      → g.P ≤ next_offset r s.small → erased_blocks g r s < 2 → RoomMade g r settling view Inv s (collect g r follow s)
  collect_law s bounds lengths holds inv full few = rw collect_is made
    where
      v : ℕ
      v = victim g r s

      s₁ : State
      s₁ = opened_lowest g r s

      start : Starts g r view Inv v s₁ × Keeps g r view [] s [] s₁
      start = collection_starts F.mover s bounds lengths holds inv full few

      o : Outcome (List Mapping)
      o = move_pages g r follow v g.P s₁

      copied : Copied g r view Inv v g.P s₁ o
      copied = copied_since F.mover bounds start.0 g.P (omega arith)

      made : RoomMade g r settling view Inv s (collects g v o (follow.settled o.value o.after))
      made = room_made_after s s₁ _ (flash_as refl) start.1
          (collected v s₁ o _ start.0 copied (F.settled o.value o.after copied.copying.lengths copied.copying.inv))
