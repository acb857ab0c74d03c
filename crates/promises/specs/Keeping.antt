-- Steps that keep a sound state sound and every logical page where it is: those of a translation. One law for what is made of them.
use Rattle.std.specs.Prelude.{ℕ, ◌+◌, ◌≤◌, ◌<◌, ◌≡◌, refl, List, [], ◌++◌}
use Rattle.std.proofs.Common.{◌∙◌, ap, arith}
use Rattle.scope.specs.Geometry.{Geometry}
use Rattle.scope.specs.Lent.{Entry, Place, Nowhere, decode, State}
use Rattle.scope.specs.Regions.{Data, Translation}
use Rattle.scope.specs.Operations.{Operation, Outcome, apply, apply_all}
use Rattle.scope.specs.Laws.Applied.{SameFlash, flash_as}
use Rattle.scope.specs.Sound.{current, Sound}
use Rattle.flash.specs.Moments.{cost}
use Rattle.flash.specs.Lengths.{Lengths}
use Rattle.flash.specs.Kept.{lengths_still}
use Rattle.flash.specs.Heads.{SameHead}
use Rattle.flash.specs.SamePages.{SamePages, same_refl, same_trans}
use Rattle.flash.specs.Listed.{cost_++, cost_none}
use Rattle.region.specs.Holds.{RegionHolds, contents}
use Rattle.region.specs.Carried.{holds_same, contents_same}
use Rattle.region.specs.Done.{Done, done_none, done_then}
use Rattle.cache.specs.Holds.{Found}
use Rattle.cache.specs.Steps.{CacheStep}
use Rattle.cache.specs.Fetch.{page_read}
use Rattle.cache.specs.Current.{PlacesKept}
use Rattle.promises.specs.Parts.{index_same, IndexFits, CacheFits, index_of, data_of, sound_from}

-- The state is sound, data pages and current places are as they were, and there were at most `bound` operations.
pub record Kept {A : Type 0} (g : Geometry) (bound : ℕ) (s : State) (o : Outcome A) : Type 0 where
  pub sound : Sound g o.after
  pub lengths : Lengths g o.after
  pub places : (l : ℕ) → l < g.L → current g o.after l ≡ current g s l
  pub pages : SamePages g Data s o.after
  pub done : Done g s o.did o.after
  pub costs : cost o.did ≤ bound

-- A wider bound.
pub within : {A : Type 0} {g : Geometry} {s : State} {o : Outcome A} {bound : ℕ} (wider : ℕ) → bound ≤ wider → Kept g bound s o
    → Kept g wider s o
within wider h k =
    record {
      sound = k.sound;
      lengths = k.lengths;
      places = k.places;
      pages = k.pages;
      done = k.done;
      costs = omega (arith, k.costs);
    }

-- Nothing is done.
pub kept_none : {A : Type 0} {g : Geometry} {bound : ℕ} {s : State} (x : A) → Sound g s → Lengths g s
    → Kept g bound s (record { value = x; after = s; did = [] })
kept_none {g = g} x sound len =
    record {
      sound = sound;
      lengths = len;
      places = λ l below. refl;
      pages = same_refl;
      done = done_none g (flash_as refl);
      costs = omega (arith, cost_none);
    }

-- One after the other.
pub kept_then : {A B : Type 0} {g : Geometry} {m n : ℕ} {s : State} (a : Outcome A) (b : Outcome B)
    → Kept g m s a → Kept g n a.after b
    → Kept g (m + n) s (record { value = b.value; after = b.after; did = a.did ++ b.did })
kept_then a b h k =
    record {
      sound = k.sound;
      lengths = k.lengths;
      places = λ l below. k.places l below ∙ h.places l below;
      pages = same_trans h.pages k.pages;
      done = done_then h.done k.done;
      costs = omega (arith, cost_++ a.did b.did, h.costs, k.costs);
    }

-- What a logical page holds is as it was.
pub kept_contents : {A : Type 0} {g : Geometry} {bound : ℕ} {s : State} {o : Outcome A} → Sound g s → Kept g bound s o
    → (l : ℕ) → l < g.L
    → contents g o.after.chip (decode (current g o.after l)) ≡ contents g s.chip (decode (current g s l))
kept_contents {g = g} {s = s} {o = o} sound h l below =
    ap (λ (x : ℕ). contents g o.after.chip (decode x)) (h.places l below)
    ∙ contents_same h.pages l (decode (current g s l)) (sound.rule_6.current_place l below)

-- A map that names what another names.
same_map : {g : Geometry} {chip spare : List ℕ} {opened offset : ℕ} {view view' : ℕ → ℕ}
    → ((l : ℕ) → l < g.L → view' l ≡ view l)
    → RegionHolds g Data chip spare opened offset view → RegionHolds g Data chip spare opened offset view'
same_map same holds =
    record {
      fits = holds.fits;
      besides = holds.besides;
      maps = record { names = λ l below. rw (same l below) (holds.maps.names l below) };
    }

-- The parts that make a kept state sound.
pub kept_sound : {g : Geometry} {s s' : State} → Sound g s → IndexFits g s' → CacheFits g s' → SamePages g Data s s'
    → SameHead Data s.small s'.small
    → ((l : ℕ) → l < g.L → current g s' l ≡ current g s l) → Sound g s'
kept_sound {g} {s} {s'} sound index cache pages head places =
    sound_from index
    (same_map places (rw (head.opened, head.offset) (holds_same pages (data_of sound))))
    cache

-- ---- steps of the cache alone

module _ {A : Type 0} {g : Geometry} {s : State} {o : Outcome A} {ops : List Operation} {used : ℕ} {m : ℕ → Found}
    (step : CacheStep g s o ops used m) where
  pub step_lengths : Lengths g s → Lengths g o.after
  step_lengths = lengths_still s o.after step.flash step.directory step.holds.long

  pub step_pages : SamePages g Data s o.after
  step_pages = rw (step.flash.chip, step.flash.spare) same_refl

  pub step_index : IndexFits g s → IndexFits g o.after
  step_index = index_same step.flash step.directory (step.heads Translation)

reads_done : (g : Geometry) (s s' : State) (e : Entry) → SameFlash s' s → Done g s (page_read e) s'
unfolding apply apply_all
reads_done g s s' (Place p) flash = record { flash = flash; allowed = (tt, tt) }
reads_done g s s' Nowhere flash = record { flash = flash; allowed = tt }

-- One that keeps current places, with the read of a page or none.
pub cache_kept : {A : Type 0} {g : Geometry} {s : State} {o : Outcome A} {used bound : ℕ} {m : ℕ → Found} (e : Entry)
    → Sound g s → Lengths g s → CacheStep g s o (page_read e) used m → PlacesKept g s o.after → cost (page_read e) ≤ bound
    → Kept g bound s o
cache_kept {g = g} {s} {o} e sound len step places few =
    record {
      sound = kept_sound sound (step_index step (index_of sound))
          (record { entries = step.holds.entries; border = step.border sound.rule_5_protected; agree = places.agree })
          (step_pages step) (step.heads Data) places.places;
      lengths = step_lengths step len;
      places = places.places;
      pages = step_pages step;
      done = rw step.did (reads_done g s o.after e step.flash);
      costs = rw step.did few;
    }
