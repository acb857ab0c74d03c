-- Room in the data region, from a sound state: what each part of a collection asks for, from what the parts before it did.
use Rattle.std.specs.Prelude.{ℕ, ◌+◌, ◌*◌, ◌-◌, ◌≤◌, ◌<◌, ◌≡◌, refl, List, [], length}
use Rattle.std.proofs.Common.{sym, ap, subst, subst₂, ◌∙◌, mul-le-mul_left, arith}
use Rattle.scope.specs.Geometry.{Geometry}
use Rattle.scope.specs.Regions.{Data}
use Rattle.scope.specs.Lent.{State, Mapping, with_flash, with_cache, logical_at}
use Rattle.scope.specs.Sound.{Sound, current}
use Rattle.scope.specs.Operations.{Erase, look, perform, set_small, ◌>>=◌}
use Rattle.scope.specs.Room.{open_lowest, move_pages, make_room}
use Rattle.scope.specs.Steps.{update_all, cache_follows}
use Rattle.flash.specs.Bounded.{accepted_region}
use Rattle.flash.specs.Moments.{cost}
use Rattle.flash.specs.Lengths.{Lengths}
use Rattle.cache.specs.Waiting.{Waits}
use Rattle.region.specs.Apart.{waits_all, follow_each, cache_apart}
use Rattle.region.specs.Copied.{Copied, few_moved}
use Rattle.region.specs.Starts.{Starts, opened_lowest, copied_since, collection_starts}
use Rattle.promises.specs.Parts.{IndexFits, index_of, data_of, cache_of}
use Rattle.promises.specs.Follow.{place_while, Follows, none_waits, cache_follower}
use Rattle.promises.specs.Settle.{IndexSettled, settle_law}
use Rattle.promises.specs.Update.{update_bound}
use Rattle.lent.specs.declared.Counts.{Counts as Counted}
use Rattle.lent.specs.declared.Work.{Work}
use Rattle.lent.specs.Model.{Lists, together, with_rec}
use Rattle.lent.specs.Shapes.{DoesFlash, DoesCache, RoomToCount, less_room}
use Rattle.copying.specs.Choice.{ToCollect, MakesRoom, start_collect, start_follows_does, collect_does}
use Rattle.copying.specs.Starting.{CollectReady}
use Rattle.index.specs.Index.{Index, index_in, with_pages, with_index, DoesIndex, IndexLent, lengths_lent, IndexReady}
use Rattle.lent.specs.Ready.{DoesAll, Ready, countable_after}

-- The most that room in the data region costs.
abbrev pub room_bound : Geometry → ℕ
room_bound g = 2 * (g.P - 1) + update_bound g * (g.P - 1) + 1

-- Room may be made: something is cached, as in a write, whose own page is.
pub record RoomReady (g : Geometry) (s : State) (c : Counted) : Type 0 where
  pub ready : Ready g s (room_bound g) c
  pub some_used : 1 ≤ s.small.used

-- Something is cached: the foremost entry, say.
follows_first : {g : Geometry} {s : State} → Sound g s → 1 ≤ s.small.used → Follows g (logical_at 0 s.cache) 0 [] s
follows_first sound some =
    record { index = index_of sound; cache = cache_of sound; waiting = none_waits; rank = record { in_use = some; is_l = refl } }

-- All pages have been copied and followed: what settling then asks for.
record AfterCopying (g : Geometry) (waiting : List Mapping) (s : State) : Type 0 where
  index : IndexFits g s
  below_L : (l : ℕ) → Waits waiting l → l < g.L
  lengths : Lengths g s
  few : length waiting < g.P

-- The parts one after the other.
module _ {g : Geometry} {x : Lists} {w : Work}
    (room_ready : RoomReady g (together x w.rec) w.counts) {v : ℕ} (chosen : ToCollect g Data x.spare w v) where
  abbrev s : State
  s = together x w.rec

  ready : Ready g s (room_bound g) w.counts
  ready = room_ready.ready

  pub start_ready : CollectReady g Data v x.chip x.spare w
  start_ready =
      record {
        bounds = accepted_region ready.accepted Data;
        chip_fits = ready.lengths.chip_fits;
        spare_fits = ready.lengths.spare_fits;
        places = current g s;
        holds = data_of ready.sound;
        chosen = chosen;
        countable = less_room (omega arith) ready.countable;
      }

  abbrev l : ℕ
  l = logical_at 0 x.cache

  begins : Starts g Data (place_while g) (Follows g l 0) v (opened_lowest g Data s)
  begins = subst (λ (b : ℕ). Starts g Data (place_while g) (Follows g l 0) b (opened_lowest g Data s)) (chosen.found s refl)
      (collection_starts (cache_follower ready.accepted l 0).mover s (accepted_region ready.accepted Data) ready.lengths
      (data_of ready.sound) (follows_first ready.sound room_ready.some_used) chosen.full (chosen.few s refl)).0

  copied : Copied g Data (place_while g) (Follows g l 0) v g.P (opened_lowest g Data s)
      (move_pages g Data (cache_follows g) v g.P (opened_lowest g Data s))
  copied = copied_since (cache_follower ready.accepted l 0).mover (accepted_region ready.accepted Data) begins g.P (omega arith)

  after_copying : let o = start_collect g Data (cache_follows g) v s in AfterCopying g o.value o.after
  unfolding start_collect open_lowest look set_small ◌>>=◌
  after_copying =
      record {
        index = copied.copying.inv.index;
        below_L = copied.copying.inv.waiting.below_L;
        lengths = copied.copying.lengths;
        few = omega (arith, copied.waiting, few_moved (omega arith) begins.some_invalid copied);
      }

  copying_costs : cost (start_collect g Data (cache_follows g) v s).did ≤ 2 * (g.P - 1)
  unfolding start_collect open_lowest look set_small ◌>>=◌
  copying_costs = omega (arith, copied.costs, few_moved (omega arith) begins.some_invalid copied)

  -- The pages are copied, and their moves followed.
  module _ {chip₁ spare₁ cache₁ : List ℕ} {moves waiting : List Mapping} {w₁ : Work}
      (starts : DoesFlash (start_collect g Data waits_all v) x.chip x.spare w moves chip₁ spare₁ w₁)
      (follows : DoesCache (follow_each (cache_follows g) moves) x.cache w₁ waiting cache₁ w₁) where
    abbrev s₁ : State
    s₁ = with_cache cache₁ (with_flash chip₁ spare₁ (with_rec w₁.rec s))

    copies : DoesAll (start_collect g Data (cache_follows g) v) s w waiting s₁ w₁
    copies = start_follows_does (cache_apart g) g Data v (starts s) (follows (with_flash chip₁ spare₁ s))

    after : AfterCopying g waiting s₁
    after = subst₂ (AfterCopying g) copies.value copies.after after_copying

    waited : update_bound g * length waiting ≤ update_bound g * (g.P - 1)
    waited = mul-le-mul_left (update_bound g) (omega (arith, after.few))

    abbrev x₁ : Index
    x₁ = with_pages chip₁ spare₁ (index_in x)

    pub settle_ready : IndexReady g x₁ w₁ waiting
    settle_ready =
        record {
          lent = lengths_lent x₁ w₁ s₁ ready.accepted after.lengths;
          index = after.index;
          below_L = after.below_L;
          counting = countable_after _ (2 * (g.P - 1)) (less_room (omega (arith, waited)) ready.countable) copying_costs copies;
        }

    module _ {x₂ : Index} {w₂ : Work} (settles : DoesIndex (update_all g waiting) x₁ w₁ tt x₂ w₂) where
      settled : IndexSettled g waiting s₁ (update_all g waiting s₁)
      settled = settle_law ready.accepted waiting after.below_L _ after.lengths after.index

      pub settled_keeps_used : w₂.rec.used ≡ w₁.rec.used
      settled_keeps_used =
          sym (ap (λ (s : State). s.small.used) (settles s₁).after) ∙ settled.only.rest.used

      -- The erase that is left has its lists, and room in the counts.
      pub erase_ready : IndexLent g x₂ × RoomToCount 1 w₂.counts
      erase_ready = (
        lengths_lent x₂ w₂ s₁ ready.accepted (subst (Lengths g) (settles s₁).after settled.lengths),
        countable_after 1 (update_bound g * (g.P - 1))
            (countable_after (1 + update_bound g * (g.P - 1)) (2 * (g.P - 1)) (less_room (omega arith) ready.countable)
            copying_costs copies)
            (omega (arith, settled.costs, waited)) (settles s₁),
      )

      -- Together they make room.
      pub collected_does : {x₃ : Index} {w₃ : Work} → DoesIndex (perform g (Erase v)) x₂ w₂ tt x₃ w₃
          → DoesAll (make_room g Data (cache_follows g)) s w tt (with_index x₃ w₃ s₁) w₃
      collected_does erases = collect_does (cache_follows g) s chosen copies (settles s₁) (erases s₁)

-- ---- the choice

-- Room that is there, or was made by opening a block.
pub chosen_does : {g : Geometry} {s : State} {n : ℕ} {spare : List ℕ} {w w' : Work} (ready : Ready g s n w.counts)
    → MakesRoom g Data spare w w'
    → DoesAll (make_room g Data (cache_follows g)) (with_flash s.chip spare (with_rec w.rec s)) w tt
    (with_flash s.chip spare (with_rec w'.rec s)) w'
chosen_does {g} {s} ready makes = makes.does (cache_follows g) s
