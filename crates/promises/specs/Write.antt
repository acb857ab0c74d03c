-- Write: translate, make room, program the next page, mark the one that the entry names now, and set the entry. The page then holds
-- the buffer's words and every other page what it held, and it costs at most (2P+1)(P+1).
use Rattle.std.specs.Prelude.{ℕ, zero, suc, ◌+◌, ◌*◌, ◌-◌, ◌≤◌, ◌<◌, ◌≡◌, refl, ◌≢◌, length}
use Rattle.std.proofs.Common.{sym, ◌∙◌, ap, arith}
use mathlib.Core.List.{List, [], ◌++◌}
use Rattle.scope.specs.Geometry.{Geometry, Accepted}
use Rattle.scope.specs.Lent.{decode, State, physical_at}
use Rattle.scope.specs.Regions.{Data}
use Rattle.scope.specs.SmallRecord.{next_offset}
use Rattle.scope.specs.Operations.{Outcome, Step, apply, give, look, perform, set_small, set_cache, ◌>>=◌}
use Rattle.scope.specs.Room.{program_next, make_room}
use Rattle.scope.specs.Cache.{set_entry}
use Rattle.scope.specs.Steps.{mark_old, cache_follows, translate}
use Rattle.scope.specs.Replies.{DONE}
use Rattle.scope.specs.Requests.{Replied, replied, write_steps}
use Rattle.scope.specs.Sound.{current, Sound}
use Rattle.flash.specs.Moments.{cost}
use Rattle.flash.specs.Bounded.{accepted_region}
use Rattle.flash.specs.Lengths.{Lengths, lengths_with_cache}
use Rattle.scope.specs.Laws.Applied.{flash_as}
use Rattle.flash.specs.Listed.{cost_++, cost_none}
use Rattle.region.specs.Holds.{Holds, Renames, contents}
use Rattle.region.specs.Elsewhere.{SameElsewhere}
use Rattle.region.specs.Done.{Done, done_none, done_then}
use Rattle.region.specs.Follower.{RoomMade}
use Rattle.region.specs.MakeRoom.{make_room_law}
use Rattle.region.specs.NextPage.{next_page, PageWritten, written_elsewhere, page_written}
use Rattle.cache.specs.Holds.{Hit, updated}
use Rattle.cache.specs.Steps.{RanksKept, set_entry_law}
use Rattle.cache.specs.Current.{PlaceSet, set_entry_sets_place}
use Rattle.promises.specs.Remembered.{Holding, held}
use Rattle.promises.specs.Bounds.{write_bound}
use Rattle.promises.specs.Parts.{index_of, data_of, cache_of, sound_from, cached, cache_holds}
use Rattle.promises.specs.Update.{written_holds, update_bound}
use Rattle.promises.specs.Follow.{place_while, Follows, none_waits, cache_follower}
use Rattle.promises.specs.Keeping.{kept_contents}
use Rattle.promises.specs.HeldWords.{held_same, held_is}
use Rattle.promises.specs.Translate.{Translated, translate_law}
use Rattle.promises.specs.Read.{entry_place}

-- ---- the page written and the entry set

-- The steps of a write once there is room.
unfoldable pub placing : Geometry → ℕ → ℕ → List ℕ → Step Replied
placing g l i buffer =
    program_next g Data l buffer >>= (λ q.
    look (λ s. decode (physical_at i s.cache)) >>= (λ old.
    mark_old g old >>= (λ _. set_entry i q >>= (λ _. give (replied buffer DONE)))))

record Placed (g : Geometry) (l : ℕ) (buffer : List ℕ) (s : State) (after : State) : Type 0 where
  sound : Sound g after
  lengths : Lengths g after
  written : contents g after.chip (decode (current g after l)) ≡ buffer
  keeps : (k : ℕ) → k < g.L → k ≢ l
      → contents g after.chip (decode (current g after k)) ≡ contents g s.chip (decode (current g s k))

record Placing (g : Geometry) (l : ℕ) (buffer : List ℕ) (s : State) (o : Outcome Replied) : Type 0 where
  placed : Placed g l buffer s o.after
  done : Done g s o.did o.after
  costs : cost o.did ≡ 1

module _ {g : Geometry} (ok : Accepted g) (l i : ℕ) (buffer : List ℕ) (s : State) (len : Lengths g s)
    (holds : Holds g Data s (current g s))
    (inv : Follows g l i [] s) (below : l < g.L) where
  -- After program and mark the entry is set: it names the new page.
  entry_set : (q : Outcome ℕ) (o : Outcome (Unit {0})) → PageWritten g Data l buffer (current g s) s q o
      → Placed g l buffer s (set_entry i q.value o.after).after
  unfolding set_entry set_cache
  entry_set q o w =
      record {
        sound = sound_from follows.index
            (written_holds w holds.besides (current g s₄) renames)
            (record { entries = set.step.holds.entries; border = set.step.border follows.cache.border; agree = places.agree });
        lengths = lengths_with_cache o.after w.lengths set.step.holds.long;
        written = w.replacement.written (current g s₄) renames;
        keeps = w.replacement.keeps (current g s₄) renames;
      }
    where
      s₄ : State
      s₄ = (set_entry i q.value o.after).after

      elsewhere : SameElsewhere g Data s o.after
      elsewhere = written_elsewhere w

      follows : Follows g l i [] o.after
      follows = (cache_follower ok l i).mover.kept [] s o.after len w.lengths elsewhere inv

      set : RanksKept g o.after (set_entry i q.value o.after) (updated (cached g o.after) l (Hit q.value 1))
      set = set_entry_law g o.after (cached g o.after) (cache_holds g o.after w.lengths follows.cache) l i
          q.value follows.rank

      places : PlaceSet g l q.value o.after (set_entry i q.value o.after).after
      places = set_entry_sets_place g o.after (cached g o.after) (cache_holds g o.after w.lengths follows.cache)
          follows.cache.agree l q.value set.step

      renames : Renames g.L l (next_page g Data s) (current g s) (current g (set_entry i q.value o.after).after)
      renames =
          record {
            there = places.here ∙ w.value;
            elsewhere = λ k h apart. places.elsewhere k h apart
                ∙ (cache_follower ok l i).mover.seen [] s o.after len w.lengths elsewhere inv k h;
          }

  -- The page that is marked is the one that the entry names now.
  old_page : physical_at i (program_next g Data l buffer s).after.cache ≡ current g s l
  unfolding program_next look perform set_small give apply ◌>>=◌
  old_page = entry_place s len (sound_from inv.index holds inv.cache) l i inv.rank

  placing_law : next_offset Data s.small < g.P → length buffer ≡ g.W → Placing g l buffer s (placing g l i buffer s)
  unfolding placing look set_entry set_cache give ◌>>=◌
  placing_law room long =
      let q = program_next g Data l buffer s in
      let old = decode (physical_at i q.after.cache) in
      let w = page_written g Data l buffer (current g s) s (accepted_region ok Data) len long holds.fits room holds.maps below old
      (ap decode (sym old_page)) in
      let m = mark_old g old q.after in
      record {
        placed = entry_set q m w;
        done = done_then w.programmed (done_then w.marked (done_none g (flash_as refl)));
        costs = cost_++ q.did (m.did ++ []) ∙ omega (arith, cost_++ m.did [], cost_none, w.costs_program, w.costs_mark);
      }

-- ---- write

-- What write promises.
pub record Writes (g : Geometry) (l : ℕ) (buffer : List ℕ) (s : State) (o : Outcome Replied) : Type 0 where
  pub sound : Sound g o.after
  pub lengths : Lengths g o.after
  pub written : held g o.after l ≡ Holding buffer
  pub keeps : (k : ℕ) → k < g.L → k ≢ l → held g o.after k ≡ held g s k
  pub done : Done g s o.did o.after
  pub costs : cost o.did ≤ write_bound g

-- The bounds of its parts: translation, the data region's room, and one program.
pub write_costs : (P : ℕ) → 1 ≤ P → 2 * P + 2 + (2 * (P - 1) + (2 * P + 1) * (P - 1) + 1) + 1 ≤ (2 * P + 1) * (P + 1)
write_costs zero h = absurd (omega arith)
write_costs (suc p) h = let e : suc p - 1 ≡ p = omega arith in rw e (omega arith)

module _ {g : Geometry} (ok : Accepted g) (l : ℕ) (buffer : List ℕ) (s : State) (len : Lengths g s) (sound : Sound g s)
    (below : l < g.L) (long : length buffer ≡ g.W) where
  together : (t : Outcome ℕ) (r : Outcome (Unit {0})) (o : Outcome Replied) → Translated g l s t
      → RoomMade g Data (update_bound g) (place_while g) (Follows g l t.value) t.after r
      → Placing g l buffer r.after o
      → Writes g l buffer s (record { value = o.value; after = o.after; did = t.did ++ (r.did ++ o.did) })
  together t r o a b c =
      let kept = a.kept in
      record {
        sound = c.placed.sound;
        lengths = c.placed.lengths;
        written = held_is ok o.after c.placed.lengths c.placed.sound l below buffer long c.placed.written;
        keeps = λ k h apart. held_same ok s o.after len c.placed.lengths sound c.placed.sound k h
            (c.placed.keeps k h apart ∙ b.keeps k h ∙ kept_contents sound kept k h);
        done = done_then kept.done (done_then b.done c.done);
        costs = omega (
          arith,
          cost_++ t.did (r.did ++ o.did),
          cost_++ r.did o.did,
          kept.costs,
          b.costs,
          c.costs,
          write_costs g.P ok.P_from,
        );
      }

  pub write_law : Writes g l buffer s (write_steps g l buffer s)
  unfolding write_steps placing ◌>>=◌
  write_law =
      let t = translate g l s in
      let a = translate_law ok l s len sound below in
      let i = t.value in
      let s₁ = t.after in
      let sound₁ = a.kept.sound in
      let inv : Follows g l i [] s₁ =
      record { index = index_of sound₁; cache = cache_of sound₁; waiting = none_waits; rank = a.rank } in
      let r = make_room g Data (cache_follows g) s₁ in
      let b = make_room_law (cache_follower ok l i) (accepted_region ok Data) s₁ a.kept.lengths (data_of sound₁) inv in
      together t r (placing g l i buffer r.after) a b
      (placing_law ok l i buffer r.after b.lengths b.holds b.inv below b.room long)
