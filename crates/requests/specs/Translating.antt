-- What the parts of translate ask for, each from what holds at its place: an entry written back, an entry fetched.
use Rattle.std.specs.Prelude.{ℕ, ◌-◌, ◌≤◌, ◌<◌, ◌≡◌, refl, Bool, cond, List, length}
use Rattle.std.proofs.Common.{sym, ap, subst, ◌∙◌, arith, lt-ltb, le-ltb}
use Rattle.scope.specs.Geometry.{Geometry, Accepted, pages}
use Rattle.scope.specs.Regions.{Translation}
use Rattle.scope.specs.Lent.{Entry, Place, Nowhere, State, with_flash, with_cache, chip_size, directory_size, cache_size, named, logical_at, translation_page}
use Rattle.scope.specs.Sound.{rank_of, Names}
use Rattle.scope.specs.Operations.{Counts, apply, give, look, nothing, perform, ◌>>=◌}
use Rattle.scope.specs.Room.{read_page}
use Rattle.scope.specs.Cache.{dropped, touch, enter, forget, is_changed, changed_of, unchanged_of, become_unchanged}
use Rattle.scope.specs.Steps.{update, write_back, drop_entry, drop_if_full, word_for, fetch, translate}
use Rattle.flash.specs.Places.{page_on_chip}
use Rattle.flash.specs.Lengths.{Lengths, blank}
use Rattle.promises.specs.Index.{page_below}
use Rattle.promises.specs.Parts.{IndexFits, index_of}
use Rattle.promises.specs.Update.{update_bound}
use Rattle.promises.specs.Translate.{translate_bound, changed_updated, CanGo, can_go, dropped_law}
use Rattle.lent.specs.declared.Counts.{Counts as Counted}
use Rattle.lent.specs.declared.Work.{Work}
use Rattle.lent.specs.Model.{Lists, together, with_rec, small, counts}
use Rattle.lent.specs.Does.{Does}
use Rattle.lent.specs.DoesLaws.{does_ends, does_give, does_look, does_look_at, does_bind, does_cond_true, does_cond_false, does_set_cache}
use Rattle.lent.specs.Ready.{Ready, ReadyFor, countable_after}
use Rattle.index.specs.Index.{index_in, lengths_lent}
use Rattle.index.specs.Writing.{PageReady}
use Rattle.lent.specs.Shapes.{DoesByChip, RoomToCount, less_room}

-- An entry for l may be fetched: there is room for it, and the translation page that is to be read lies on the chip.
pub record Fetches (g : Geometry) (l : ℕ) (chip directory cache : List ℕ) (w : Work) : Type 0 where
  pub accepted : Accepted g
  pub chip_fits : length chip ≡ chip_size g
  pub directory_fits : length directory ≡ directory_size g
  pub cache_fits : length cache ≡ cache_size g
  pub below : l < g.L
  pub on_chip : (q : ℕ) → named (translation_page g l) directory ≡ Place q → q < pages g
  pub room : w.rec.used < g.C
  pub border : w.rec.protected ≤ w.rec.used
  pub countable : RoomToCount 1 w.counts

-- The index names pages on the chip.
named_on_chip : {g : Geometry} → Accepted g → (s : State) → IndexFits g s → (l : ℕ) → l < g.L → (q : ℕ)
    → named (translation_page g l) s.directory ≡ Place q → q < pages g
named_on_chip {g} ok s index l below q e =
    page_on_chip g Translation q (subst (Names g Translation s.spare (translation_page g l)) e
    (index.pages.maps.names (translation_page g l) (page_below ok l below))).0

-- ---- the parts put together as the definitions put them

module _ (g : Geometry) {s s₁ : State} {c c₁ : Counts} where
  pub drop_last_does : g.C ≤ s.small.used → Does (drop_entry g) s c tt s₁ c₁ → Does (drop_if_full g) s c tt s₁ c₁
  unfolding drop_if_full
  drop_last_does h drops = does_bind _ (does_look _) (does_cond_false _ _ _ (le-ltb s.small.used g.C h) drops)

  pub hit_does : (l : ℕ) {i x : ℕ} → rank_of g s.cache s.small.used l ≡ i → i < g.C
      → Does (touch g i) s c x s₁ c₁ → Does (translate g l) s c x s₁ c₁
  unfolding translate
  hit_does l {i} is h touches = does_bind _ (does_look_at _ is) (does_cond_true _ _ _ (lt-ltb i g.C h) touches)

  module _ {s₂ : State} {c₂ : Counts} where
    pub drop_entry_does : (i : ℕ) {b : Bool} → s.small.used - 1 ≡ i → is_changed i s.cache ≡ b
        → Does (cond b (write_back g i) nothing) s c tt s₁ c₁ → Does (forget i) s₁ c₁ tt s₂ c₂
        → Does (drop_entry g) s c tt s₂ c₂
    unfolding drop_entry dropped
    drop_entry_does i is changed back forgets =
        does_bind _ (does_look_at _ is) (does_bind _ (does_look_at _ changed) (does_bind _ back forgets))

    pub fetch_does : (l : ℕ) {x y : ℕ} {page : Entry} → named (translation_page g l) s.directory ≡ page
        → Does (word_for g l page) s c x s₁ c₁ → Does (enter l x) s₁ c₁ y s₂ c₂ → Does (fetch g l) s c y s₂ c₂
    unfolding fetch
    fetch_does l e read enters = does_bind _ (does_look_at _ e) (does_bind _ read enters)

    pub miss_does : (l : ℕ) {i x : ℕ} → rank_of g s.cache s.small.used l ≡ i → g.C ≤ i
        → Does (drop_if_full g) s c tt s₁ c₁ → Does (fetch g l) s₁ c₁ x s₂ c₂ → Does (translate g l) s c x s₂ c₂
    unfolding translate
    miss_does l {i} is h drops fetches =
        does_bind _ (does_look_at _ is) (does_cond_false _ _ _ (le-ltb i g.C h) (does_bind _ drops fetches))

pub drop_none_does : (g : Geometry) {s : State} {c : Counts} → s.small.used < g.C → Does (drop_if_full g) s c tt s c
unfolding drop_if_full
drop_none_does g {s} h = does_bind _ (does_look _) (does_cond_true _ _ _ (lt-ltb s.small.used g.C h) (does_give tt))

-- Reading a word leaves the state as it is, and so what the record says of the cache.
word_for_keeps : (g : Geometry) (l : ℕ) (page : Entry) (s : State) → (word_for g l page s).after ≡ s
unfolding word_for read_page perform apply look give ◌>>=◌
word_for_keeps g l (Place q) s = refl
word_for_keeps g l Nowhere s = refl

pub read_keeps_small : (g : Geometry) (l : ℕ) (page : Entry) {chip : List ℕ} {w w' : Work} {x : ℕ}
    → DoesByChip (word_for g l page) chip w x w' → small w'.rec ≡ small w.rec
read_keeps_small g l page {chip} {w} does =
    ap (λ (s : State). s.small)
    (sym (does (blank g)).after ∙ word_for_keeps g l page (with_flash chip (blank g).spare (with_rec w.rec (blank g))))

-- ---- what is asked for at each place

-- The translation page of a logical page may be updated.
pub write_back_ready : {g : Geometry} {x : Lists} {w : Work} (l : ℕ)
    → Ready g (together x w.rec) (update_bound g) w.counts → l < g.L → PageReady g (index_in x) w (translation_page g l)
write_back_ready {g} {x} {w} l ready below =
    record {
      lent = lengths_lent (index_in x) w (together x w.rec) ready.accepted ready.lengths;
      holds = (index_of ready.sound).pages;
      below = page_below ready.accepted l below;
      counting = ready.countable;
    }

-- The page is updated and the entries become unchanged, which are told by the number of used ones: the update leaves it.
pub write_back_does : {g : Geometry} {s s₁ : State} {n : ℕ} {c : Counted} {c₁ : Counts} → Ready g s n c → (i : ℕ) → i < s.small.used
    → (t : ℕ) → translation_page g (logical_at i s.cache) ≡ t
    → Does (update g t (changed_of g t s.small.used s.cache)) s (counts c) tt s₁ c₁
    → {cache : List ℕ} → cache ≡ unchanged_of g t s.small.used s₁.cache → Does (write_back g i) s (counts c) tt (with_cache cache s₁) c₁
unfolding write_back become_unchanged
write_back_does {g} {s} {s₁} {c = c} {c₁} ready i in_use t is_t updates unchanged =
    does_bind _ (does_look_at _ is_t)
    (does_bind _ (does_look _)
    (does_bind _ updates
    (does_ends (does_set_cache _)
    (ap (λ (x : List ℕ). with_cache x s₁) (ap (λ (k : ℕ). unchanged_of g t k s₁.cache) used ∙ sym unchanged)) refl)))
  where
    used : s₁.small.used ≡ s.small.used
    used =
        sym (ap (λ (z : State). z.small.used)
        (subst (λ (k : ℕ). Does (update g k (changed_of g k s.small.used s.cache)) s (counts c) tt s₁ c₁) (sym is_t) updates).after)
        ∙ (changed_updated s ready.lengths ready.sound i in_use ready.accepted).only.rest.used

-- The whole write-back leaves the number of used entries and the logical page of each.
module _ {g : Geometry} {s : State} {n : ℕ} {c : Counted} {left : Lists} {w : Work} (ready : Ready g s n c)
    (i : ℕ) (in_use : i < s.small.used)
    (does : Does (cond (is_changed i s.cache) (write_back g i) nothing) s (counts c) tt (together left w.rec) (counts w.counts)) where
  law : CanGo g i s (cond (is_changed i s.cache) (write_back g i) nothing s)
  law = can_go s ready.lengths ready.sound i in_use ready.accepted

  pub written_keeps_used : w.rec.used ≡ s.small.used
  written_keeps_used = sym (ap (λ (z : State). z.small.used) does.after) ∙ law.used

  pub written_fits : length left.cache ≡ cache_size g
  written_fits = subst (λ (z : State). length z.cache ≡ cache_size g) does.after law.kept.lengths.cache_fits

  pub written_keeps_ranks : (j : ℕ) → logical_at j left.cache ≡ logical_at j s.cache
  written_keeps_ranks j = sym (ap (λ (z : State). logical_at j z.cache) does.after) ∙ law.ranks j

-- An entry may be fetched once one is free.
pub fetch_ready : {g : Geometry} (l : ℕ) {s : State} {c : Counted} {left : Lists} {w : Work} → ReadyFor l g s (translate_bound g) c
    → Does (drop_if_full g) s (counts c) tt (together left w.rec) (counts w.counts)
    → Fetches g l left.chip left.directory left.cache w
fetch_ready {g} l {s} {c} {left} {w} ready does =
    let freed = dropped_law ready.ready.accepted s ready.ready.lengths ready.ready.sound in
    let lengths : Lengths g (together left w.rec) = subst (Lengths g) does.after freed.kept.lengths in
    record {
      accepted = ready.ready.accepted;
      chip_fits = lengths.chip_fits;
      directory_fits = lengths.directory_fits;
      cache_fits = lengths.cache_fits;
      below = ready.below;
      on_chip = named_on_chip ready.ready.accepted (together left w.rec)
          (subst (IndexFits g) does.after (index_of freed.kept.sound)) l ready.below;
      room = subst (λ (x : State). x.small.used < g.C) does.after freed.room;
      border = subst (λ (x : State). x.small.protected ≤ x.small.used) does.after
          freed.kept.sound.rule_5_protected.at_most_used;
      countable = countable_after 1 (update_bound g) (less_room (omega arith) ready.ready.countable) freed.kept.costs does;
    }
