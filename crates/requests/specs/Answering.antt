-- Read and write: what their parts ask for, from the laws of translate and of make room, and the parts put together.
use Rattle.std.specs.Prelude.{ℕ, ◌+◌, ◌*◌, ◌≤◌, ◌<◌, ◌≡◌, List, length}
use Rattle.std.proofs.Common.{sym, subst, subst₂, ◌∙◌, arith}
use Rattle.scope.specs.Geometry.{Geometry, Accepted, pages}
use Rattle.scope.specs.Regions.{Data}
use Rattle.scope.specs.Lent.{Entry, Place, Nowhere, decode, State, with_flash, with_cache, physical_at}
use Rattle.scope.specs.Sound.{Names, Sound}
use Rattle.scope.specs.Operations.{Counts, Step}
use Rattle.scope.specs.Room.{read_page, program_next, make_room}
use Rattle.scope.specs.Cache.{set_entry}
use Rattle.scope.specs.Steps.{cache_follows, translate}
use Rattle.scope.specs.Replies.{DONE, UNWRITTEN}
use Rattle.scope.specs.Requests.{Replied, replied, read_place, read_steps, write_steps}
use Rattle.flash.specs.Bounded.{accepted_bounded, accepted_region}
use Rattle.flash.specs.Places.{page_on_chip}
use Rattle.flash.specs.Lengths.{Lengths}
use Rattle.cache.specs.Ranks.{HasRank}
use Rattle.region.specs.Follower.{RoomMade}
use Rattle.region.specs.MakeRoom.{make_room_law}
use Rattle.promises.specs.Bounds.{read_bound, write_bound}
use Rattle.promises.specs.Parts.{index_of, data_of, cache_of, sound_from}
use Rattle.promises.specs.Update.{update_bound}
use Rattle.promises.specs.Follow.{place_while, Follows, none_waits, cache_follower}
use Rattle.promises.specs.Translate.{translate_bound, Translated, translate_law}
use Rattle.promises.specs.Read.{entry_place}
use Rattle.promises.specs.Write.{placing, write_costs}
use Rattle.lent.specs.declared.Counts.{Counts as Counted}
use Rattle.lent.specs.declared.Work.{Work}
use Rattle.lent.specs.Model.{small, Lists, together, with_rec, counts}
use Rattle.lent.specs.Does.{Does}
use Rattle.lent.specs.DoesLaws.{does_give, does_look_at, does_bind}
use Rattle.lent.specs.Shapes.{DoesFlash, DoesByChip, DoesCache, RoomToCount, less_room}
use Rattle.steps.specs.Chip.{marked, mark_old_does}
use Rattle.steps.specs.Lies.{ChipLent, SpareLent, HasNext}
use Rattle.lent.specs.Ready.{DoesAll, ReadyFor, ready_less, countable_after}
use Rattle.requests.specs.Collecting.{room_bound, RoomReady}

-- The page at a place may be read into a buffer.
pub record PlaceReady (g : Geometry) (place : Entry) (chip buffer : List ℕ) (c : Counted) : Type 0 where
  pub chip_lent : ChipLent g chip
  pub on_chip : (p : ℕ) → place ≡ Place p → p < pages g
  pub long : length buffer ≡ g.W
  pub countable : RoomToCount 1 c

-- A page may be written for the entry at rank i: the open block has one to take it.
pub record WritingReady (g : Geometry) (i : ℕ) (chip spare cache buffer : List ℕ) (w : Work) : Type 0 where
  pub chip_lent : ChipLent g chip
  pub spare_lent : SpareLent g spare
  pub lies : i * 3 + 3 ≤ length cache
  pub on_chip : (p : ℕ) → decode (physical_at i cache) ≡ Place p → p < pages g
  pub next : HasNext g Data (small w.rec)
  pub long : length buffer ≡ g.W
  pub countable : RoomToCount 1 w.counts

-- ---- page l's entry, at its rank

record AtRank (g : Geometry) (l i : ℕ) (s : State) : Type 0 where
  lengths : Lengths g s
  sound : Sound g s
  rank : HasRank s.cache s.small.used l i

module _ {g : Geometry} {l i : ℕ} {s : State} (at : AtRank g l i s) where
  entry_lies : i * 3 + 3 ≤ length s.cache
  entry_lies = omega (arith, at.rank.in_use, at.sound.rule_5.at_most, at.lengths.cache_fits)

  -- The page that it names lies on the chip.
  entry_on_chip : l < g.L → (p : ℕ) → decode (physical_at i s.cache) ≡ Place p → p < pages g
  entry_on_chip below p e =
      let named = subst (λ (x : ℕ). Names g Data s.spare l (decode x)) (sym (entry_place s at.lengths at.sound l i at.rank))
      (at.sound.rule_6.current_place l below) in
      page_on_chip g Data p (subst (Names g Data s.spare l) e named).0

-- ---- after translate

module _ {l : ℕ} {g : Geometry} {s s₁ : State} {n x : ℕ} {c c₁ : Counted} (a : ReadyFor l g s n c)
    (translates : Does (translate g l) s (counts c) x s₁ (counts c₁)) where
  law : Translated g l s (translate g l s)
  law = translate_law a.ready.accepted l s a.ready.lengths a.ready.sound a.below

  translated : AtRank g l x s₁
  translated =
      record {
        lengths = subst (Lengths g) translates.after law.kept.lengths;
        sound = subst (Sound g) translates.after law.kept.sound;
        rank = subst₂ (λ (y : ℕ) (z : State). HasRank z.cache z.small.used l y) translates.value translates.after
            law.rank;
      }

  pub translated_lies : x * 3 + 3 ≤ length s₁.cache
  translated_lies = entry_lies translated

  countable_then : (k : ℕ) → k + translate_bound g ≤ n → RoomToCount k c₁
  countable_then k h = countable_after k (translate_bound g) (less_room h a.ready.countable) law.kept.costs translates

-- ---- read

pub read_begins : {l : ℕ} {g : Geometry} {s : State} {c : Counted} → ReadyFor l g s (read_bound g) c
    → ReadyFor l g s (translate_bound g) c
read_begins a = ready_less (omega arith) a

pub place_ready : {l : ℕ} {g : Geometry} {s : State} {c : Counted} {left : Lists} {buffer : List ℕ} {w : Work} {x : ℕ} {place : Entry}
    → ReadyFor l g s (read_bound g) c
    → Does (translate g l) s (counts c) x (together left w.rec) (counts w.counts)
    → place ≡ decode (physical_at x left.cache) → length buffer ≡ g.W → PlaceReady g place left.chip buffer w.counts
place_ready a translates e long =
    let at = translated a translates in
    record {
      chip_lent = record { bounded = accepted_bounded a.ready.accepted; chip_fits = at.lengths.chip_fits };
      on_chip = λ p q. entry_on_chip at a.below p (sym e ∙ q);
      long = long;
      countable = countable_then a translates 1 (omega arith);
    }

module _ (g : Geometry) (buffer : List ℕ) {place : Entry} {chip : List ℕ} {w : Work} where
  pub read_place_does : {w' : Work} {words : List ℕ} (p : ℕ) → place ≡ Place p → DoesByChip (read_page g p) chip w words w'
      → DoesByChip (read_place g buffer place) chip w (replied words DONE) w'
  unfolding read_place
  read_place_does p e reads s = rw e (does_bind _ (reads s) (does_give _))

  pub read_nowhere_does : place ≡ Nowhere → DoesByChip (read_place g buffer place) chip w (replied buffer UNWRITTEN) w
  unfolding read_place
  read_nowhere_does e s = rw e (does_give _)

pub read_does : (g : Geometry) (l : ℕ) (buffer : List ℕ) {s s₁ s₂ : State} {c c₁ c₂ : Counts} {x : ℕ} {place : Entry}
    {r : Replied} → Does (translate g l) s c x s₁ c₁ → decode (physical_at x s₁.cache) ≡ place
    → Does (read_place g buffer place) s₁ c₁ r s₂ c₂ → Does (read_steps g l buffer) s c r s₂ c₂
unfolding read_steps
read_does g l buffer translates e reads = does_bind _ translates (does_bind _ (does_look_at _ e) reads)

-- ---- write

pub write_begins : {l : ℕ} {g : Geometry} {s : State} {c : Counted} → ReadyFor l g s (write_bound g) c
    → ReadyFor l g s (translate_bound g) c
write_begins {g = g} a = ready_less (omega (arith, write_costs g.P a.ready.accepted.P_from)) a

module _ {l : ℕ} {g : Geometry} {s s₁ : State} {x : ℕ} {c c₁ : Counted} (a : ReadyFor l g s (write_bound g) c)
    (translates : Does (translate g l) s (counts c) x s₁ (counts c₁)) where
  ok : Accepted g
  ok = a.ready.accepted

  at : AtRank g l x s₁
  at = translated a translates

  pub room_ready : RoomReady g s₁ c₁
  room_ready =
      record {
        ready = record {
          accepted = ok;
          lengths = at.lengths;
          sound = at.sound;
          countable = countable_then a translates (room_bound g) (omega (arith, write_costs g.P ok.P_from));
        };
        some_used = omega (arith, at.rank.in_use);
      }

  made : RoomMade g Data (update_bound g) (place_while g) (Follows g l x) s₁ (make_room g Data (cache_follows g) s₁)
  made = make_room_law (cache_follower ok l x) (accepted_region ok Data) s₁ at.lengths (data_of at.sound)
      (record { index = index_of at.sound; cache = cache_of at.sound; waiting = none_waits; rank = at.rank })

  pub writing_ready : {left : Lists} {buffer : List ℕ} {w : Work}
      → Does (make_room g Data (cache_follows g)) s₁ (counts c₁) tt (together left w.rec) (counts w.counts)
      → length buffer ≡ g.W → WritingReady g x left.chip left.spare left.cache buffer w
  writing_ready {left} {w = w} makes long =
      record {
        chip_lent = record { bounded = accepted_bounded ok; chip_fits = then.lengths.chip_fits };
        spare_lent = record { bounded = accepted_bounded ok; spare_fits = then.lengths.spare_fits };
        lies = entry_lies then;
        on_chip = entry_on_chip then a.below;
        next = record {
          in_region = (then.sound.rule_3 Data).in_region;
          room = subst (λ (z : State). z.small.data_offset < g.P) makes.after made.room;
        };
        long = long;
        countable = countable_after 1 (room_bound g)
            (countable_then a translates (1 + room_bound g) (omega (arith, write_costs g.P ok.P_from))) made.costs makes;
      }
    where
      then : AtRank g l x (together left w.rec)
      then = subst (AtRank g l x) makes.after
          (record {
            lengths = made.lengths;
            sound = sound_from made.inv.index made.holds made.inv.cache;
            rank = made.inv.rank;
          })

-- It is written whatever else the state holds.
abbrev pub DoesPlacing : {A : Type 0} → Step A → List ℕ → List ℕ → List ℕ → Work → A → List ℕ → List ℕ → List ℕ → Work → Type 0
DoesPlacing m chip spare cache w x chip' spare' cache' w' =
    (s : State)
    → DoesAll m (with_cache cache (with_flash chip spare (with_rec w.rec s))) w x
    (with_cache cache' (with_flash chip' spare' (with_rec w'.rec s))) w'

pub placing_does : (g : Geometry) (l i : ℕ) {chip spare cache chip' spare₁ spare' cache' buffer : List ℕ} {w w' : Work} {q : ℕ}
    {old : Entry} → DoesFlash (program_next g Data l buffer) chip spare w q chip' spare₁ w'
    → decode (physical_at i cache) ≡ old → spare' ≡ marked old spare₁
    → DoesCache (set_entry i q) cache w' tt cache' w' → DoesPlacing (placing g l i buffer) chip spare cache w (replied buffer DONE) chip' spare' cache' w'
unfolding placing
placing_does g l i {cache = cache} {chip'} {spare' = spare'} {old = old} programs e is_marked sets s =
    does_bind _ (programs (with_cache cache s))
    (does_bind _ (does_look_at _ e)
    (does_bind _ (mark_old_does g old is_marked)
    (does_bind _ (sets (with_flash chip' spare' s)) (does_give _))))

pub write_does : (g : Geometry) (l : ℕ) (buffer : List ℕ) {s s₁ s₂ s₃ : State} {c c₁ c₂ c₃ : Counts} {x : ℕ} {r : Replied}
    → Does (translate g l) s c x s₁ c₁ → Does (make_room g Data (cache_follows g)) s₁ c₁ tt s₂ c₂
    → Does (placing g l x buffer) s₂ c₂ r s₃ c₃ → Does (write_steps g l buffer) s c r s₃ c₃
unfolding write_steps placing
write_does g l buffer translates makes places = does_bind _ translates (does_bind _ makes places)
