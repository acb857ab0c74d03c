-- Read: translate, and read the page. All is kept, it costs at most 2P+3, and it answers with what the logical page holds.
use Rattle.std.specs.Prelude.{ℕ, ◌+◌, ◌*◌, ◌<◌, ◌≡◌, refl, List, ◌++◌}
use Rattle.std.proofs.Common.{sym, ◌∙◌, inl, inr, arith}
use Rattle.std.proofs.Math.Path.{ap, subst}
use Rattle.scope.specs.Geometry.{Geometry, Accepted}
use Rattle.scope.specs.Lent.{Entry, Place, Nowhere, decode, State, physical_at}
use Rattle.scope.specs.Operations.{Outcome, give, look, perform, apply, counted, ◌>>=◌}
use Rattle.scope.specs.Room.{read_page}
use Rattle.scope.specs.Steps.{translate}
use Rattle.scope.specs.Requests.{Replied, read_place, read_steps}
use Rattle.scope.specs.Sound.{current, Sound}
use Rattle.scope.specs.Laws.Applied.{flash_as}
use Rattle.flash.specs.Lengths.{Lengths}
use Rattle.flash.specs.SamePages.{same_refl}
use Rattle.region.specs.Done.{done_none, done_read}
use Rattle.cache.specs.Ranks.{HasRank}
use Rattle.cache.specs.Current.{stored_in, place_or, current_is}
use Rattle.promises.specs.Remembered.{words_at, held, Tells}
use Rattle.promises.specs.Parts.{cache_of, cached, cache_holds}
use Rattle.promises.specs.Keeping.{Kept, within, kept_then, kept_contents}
use Rattle.promises.specs.HeldWords.{held_same}
use Rattle.promises.specs.Translate.{Translated, translate_law}

-- The place that a page's entry names is its current place.
pub entry_place : {g : Geometry} (s : State) → Lengths g s → Sound g s → (l i : ℕ) → HasRank s.cache s.small.used l i
    → physical_at i s.cache ≡ current g s l
entry_place {g} s len sound l i r =
    let holds = cache_holds g s len (cache_of sound) in
    sym (current_is g s (cached g s) holds l
    ∙ ap (place_or (stored_in g s l)) (ap (cached g s) (sym r.is_l) ∙ holds.hits i r.in_use))

record PlaceRead (g : Geometry) (e : Entry) (s : State) (o : Outcome Replied) : Type 0 where
  kept : Kept g 1 s o
  tells : Tells (words_at g s.chip e) o.value.reply o.value.buffer

place_law : (g : Geometry) (buffer : List ℕ) (e : Entry) (s : State) → Lengths g s → Sound g s
    → PlaceRead g e s (read_place g buffer e s)
unfolding read_place read_page perform look give apply counted ◌>>=◌
place_law g buffer (Place p) s len sound =
    record {
      kept = record {
        sound = sound;
        lengths = len;
        places = λ l h. refl;
        pages = same_refl;
        done = done_read g p;
        costs = omega arith;
      };
      tells = inl (refl, refl);
    }
place_law g buffer Nowhere s len sound =
    record {
      kept = record {
        sound = sound;
        lengths = len;
        places = λ l h. refl;
        pages = same_refl;
        done = done_none g (flash_as refl);
        costs = omega arith;
      };
      tells = inr (refl, refl);
    }

-- What read promises.
pub record Reads (g : Geometry) (l : ℕ) (s : State) (o : Outcome Replied) : Type 0 where
  pub kept : Kept g (2 * g.P + 3) s o
  pub tells : Tells (held g s l) o.value.reply o.value.buffer

module _ {g : Geometry} (ok : Accepted g) where
  pub read_law : (l : ℕ) (buffer : List ℕ) (s : State) → Lengths g s → Sound g s → l < g.L
      → Reads g l s (read_steps g l buffer s)
  unfolding read_steps look ◌>>=◌
  read_law l buffer s len sound below = finish (translate g l s) (translate_law ok l s len sound below)
    where
      finish : (t : Outcome ℕ) → Translated g l s t
          → let o = read_place g buffer (decode (physical_at t.value t.after.cache)) t.after in
          Reads g l s (record { value = o.value; after = o.after; did = t.did ++ o.did })
      finish t done =
          let s₁ = t.after in
          let kept = done.kept in
          let e = entry_place s₁ kept.lengths kept.sound l t.value done.rank in
          let entry = decode (physical_at t.value s₁.cache) in
          let read = place_law g buffer entry s₁ kept.lengths kept.sound in
          let o = read_place g buffer entry s₁ in
          let same : words_at g s₁.chip entry ≡ held g s l =
          ap (λ (x : ℕ). words_at g s₁.chip (decode x)) e
          ∙ held_same ok s s₁ len kept.lengths sound kept.sound l below (kept_contents sound kept l below) in
          record {
            kept = within (2 * g.P + 3) (omega arith) (kept_then t o kept read.kept);
            tells = subst (λ h. Tells h o.value.reply o.value.buffer) same read.tells;
          }
