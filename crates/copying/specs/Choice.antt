-- How room is made in a region, once for both regions and for whatever follows a moved page: the choice among what there is, a block
-- opened, and a victim to collect; and the parts of a collection put together as the definition puts them.
use Rattle.std.specs.Prelude.{ℕ, ◌≤◌, ◌<◌, ◌≡◌, refl, List, [], ◌∷◌, ◌++◌, Option, Some, None}
use Rattle.std.proofs.Math.Path.{sym}
use Rattle.std.proofs.Common.{ap, ◌∙◌, arith, lt-ltb, le-ltb, le-leb}
use Rattle.std.proofs.lemmas.Bool.{lt-leb}
use Rattle.scope.specs.Geometry.{Geometry}
use Rattle.scope.specs.Regions.{Region, Data, Translation}
use Rattle.scope.specs.SmallRecord.{SmallRecord, next_offset, opened}
use Rattle.scope.specs.Lent.{State, Mapping, with_flash}
use Rattle.scope.specs.Operations.{Counts, Erase, Step, look, perform, set_small, ◌>>=◌}
use Rattle.scope.specs.Room.{Following, erased_blocks, lowest_erased, victim, open_lowest, move_pages, collect, open_or_collect, make_room}
use Rattle.flash.specs.Lengths.{blank}
use Rattle.region.specs.Apart.{waits_all, copies_keep_used, follow_each, Apart, copies_then_follow, follow_one_more}
use Rattle.region.specs.Starts.{opened_lowest}
use Rattle.lent.specs.declared.Work.{Work}
use Rattle.lent.specs.Model.{small, with_rec}
use Rattle.lent.specs.Does.{Does}
use Rattle.lent.specs.DoesLaws.{does_give, does_look, does_look_at, does_bind, does_cond_true, does_cond_false, does_same}
use Rattle.lent.specs.Shapes.{DoesFlash, DoesBySpare}

-- A block is to be collected: the open one is full, and fewer than two are erased.
pub record ToCollect (g : Geometry) (r : Region) (spare : List ℕ) (w : Work) (v : ℕ) : Type 0 where
  pub full : g.P ≤ next_offset r (small w.rec)
  pub few : (s : State) → s.spare ≡ spare → erased_blocks g r s < 2
  pub found : (s : State) → s.spare ≡ spare → victim g r s ≡ v

-- Room is there, or is made by opening a block: whatever would follow a moved page, and with as many entries in use.
pub record MakesRoom (g : Geometry) (r : Region) (spare : List ℕ) (w w' : Work) : Type 0 where
  pub does : (follow : Following) → DoesBySpare (make_room g r follow) spare w tt w'
  pub keeps_used : w'.rec.used ≡ w.rec.used

-- One of the two: no block is to be collected, or one is and nothing has changed.
abbrev pub Chosen : Geometry → Region → List ℕ → Work → Option ℕ → Work → Type 0
Chosen g r spare w None w' = MakesRoom g r spare w w'
Chosen g r spare w (Some v) w' = ToCollect g r spare w v × (w' ≡ w)

-- Opening a block leaves the number of entries in use.
opened_keeps_used : (r : Region) (b : ℕ) (k : SmallRecord) → (opened r b k).used ≡ k.used
opened_keeps_used Data b k = refl
opened_keeps_used Translation b k = refl

module _ (g : Geometry) (r : Region) {spare : List ℕ} {w : Work} where
  opens_keeps_used : {w' : Work} → DoesBySpare (open_lowest g r) spare w tt w' → w'.rec.used ≡ w.rec.used
  unfolding open_lowest look set_small ◌>>=◌
  opens_keeps_used opens =
      sym (ap (λ (x : State). x.small.used) (opens (blank g)).after) ∙ opened_keeps_used r _ (small w.rec)

  pub room_chosen : next_offset r (small w.rec) < g.P → Chosen g r spare w None w
  unfolding make_room
  room_chosen h =
      record {
        does = λ follow s. does_bind _ (does_look _)
            (does_cond_true _ _ _ (lt-ltb (next_offset r (small w.rec)) g.P h) (does_give tt));
        keeps_used = refl;
      }

  module _ (full : g.P ≤ next_offset r (small w.rec)) {n : ℕ} (erased : (s : State) → s.spare ≡ spare → erased_blocks g r s ≡ n) where
    pub open_chosen : {w' : Work} → 2 ≤ n → DoesBySpare (open_lowest g r) spare w tt w' → Chosen g r spare w None w'
    unfolding make_room open_or_collect
    open_chosen two opens =
        record {
          does = λ follow s. does_bind _ (does_look _)
              (does_cond_false _ _ _ (le-ltb (next_offset r (small w.rec)) g.P full)
              (does_bind _ (does_look_at _ (erased _ refl)) (does_cond_true _ _ _ (le-leb 2 n two) (opens s))));
          keeps_used = opens_keeps_used opens;
        }

    pub victim_chosen : {v : ℕ} → n < 2 → ((s : State) → s.spare ≡ spare → victim g r s ≡ v) → Chosen g r spare w (Some v) w
    victim_chosen one found = (record { full = full; few = λ s e. omega (arith, erased s e); found = found }, refl)

-- ---- a collection

-- Its start: the lowest erased block is opened, and the victim's pages are moved there.
unfoldable pub start_collect : Geometry → Region → Following → ℕ → Step (List Mapping)
start_collect g r follow v = open_lowest g r >>= λ _. move_pages g r follow v g.P

-- It leaves the number of entries in use.
pub start_keeps_used : (g : Geometry) (r : Region) (v : ℕ) {chip spare chip' spare' : List ℕ} {w w' : Work} {moves : List Mapping}
    → DoesFlash (start_collect g r waits_all v) chip spare w moves chip' spare' w' → w'.rec.used ≡ w.rec.used
unfolding start_collect open_lowest look set_small ◌>>=◌
start_keeps_used g r v {chip} {spare} {w = w} does =
    let s : State = with_flash chip spare (with_rec w.rec (blank g)) in
    sym (ap (λ (x : State). x.small.used) (does (blank g)).after)
    ∙ copies_keep_used g r v g.P (opened_lowest g r s)
    ∙ opened_keeps_used r (lowest_erased g r s) (small w.rec)

-- No move is followed; one more is.
pub follow_none_does : (follow : Following) {s : State} {c : Counts} → Does (follow_each follow []) s c [] s c
unfolding follow_each
follow_none_does follow = does_give []

module _ {follow : Following} (A : Apart follow) {s s₁ s₂ : State} {c c₁ c₂ : Counts} where
  pub follow_more_does : (moves : List Mapping) (m : Mapping) {waiting more : List Mapping}
      → Does (follow_each follow moves) s c waiting s₁ c₁ → Does (follow.moved m.logical m.physical) s₁ c₁ more s₂ c₂
      → Does (follow_each follow (moves ++ m ∷ [])) s c (waiting ++ more) s₂ c₂
  follow_more_does moves m a b = does_same (follow_one_more A moves m s) (does_bind _ a (does_bind _ b (does_give _)))

  -- All pages copied, and then their moves followed.
  pub start_follows_does : (g : Geometry) (r : Region) (v : ℕ) {moves waiting : List Mapping}
      → Does (start_collect g r waits_all v) s c moves s₁ c₁ → Does (follow_each follow moves) s₁ c₁ waiting s₂ c₂
      → Does (start_collect g r follow v) s c waiting s₂ c₂
  unfolding start_collect open_lowest look set_small ◌>>=◌
  start_follows_does g r v copies follows =
      does_same {m = start_collect g r follow v} (copies_then_follow A g r v g.P (opened_lowest g r s))
      (does_bind (follow_each follow) copies follows)

-- What waited is settled, and the victim erased.
goes_on : (g : Geometry) (r : Region) (follow : Following) (v : ℕ) {s s₁ s₂ s₃ : State} {c c₁ c₂ c₃ : Counts} {waiting : List Mapping}
    → Does (start_collect g r follow v) s c waiting s₁ c₁ → Does (follow.settled waiting) s₁ c₁ tt s₂ c₂ → Does (perform g (Erase v)) s₂ c₂ tt s₃ c₃
    → Does (open_lowest g r >>= λ _. move_pages g r follow v g.P >>= λ w. follow.settled w >>= λ _. perform g (Erase v)) s c tt s₃ c₃
unfolding start_collect open_lowest look set_small ◌>>=◌
goes_on g r follow v starts settles erases =
    let d = does_bind (λ (w : List Mapping). follow.settled w >>= λ _. perform g (Erase v)) starts
    (does_bind (λ (_ : Unit {0}). perform g (Erase v)) settles erases) in
    record { value = d.value; after = d.after; counting = d.counting }

pub collect_does : {g : Geometry} {r : Region} (follow : Following) {v : ℕ} {chip spare : List ℕ} {w : Work} (s : State)
    {c c₁ c₂ c₃ : Counts} {s₁ s₂ s₃ : State} {waiting : List Mapping} → ToCollect g r spare w v
    → Does (start_collect g r follow v) (with_flash chip spare (with_rec w.rec s)) c waiting s₁ c₁
    → Does (follow.settled waiting) s₁ c₁ tt s₂ c₂ → Does (perform g (Erase v)) s₂ c₂ tt s₃ c₃
    → Does (make_room g r follow) (with_flash chip spare (with_rec w.rec s)) c tt s₃ c₃
unfolding make_room open_or_collect collect
collect_does {g} {r} follow {v} {w = w} s chosen starts settles erases =
    does_bind _ (does_look _) (does_cond_false _ _ _ (le-ltb (next_offset r (small w.rec)) g.P chosen.full)
    (does_bind _ (does_look _) (does_cond_false _ _ _ (lt-leb 2 _ (chosen.few _ refl))
    (does_bind _ (does_look_at _ (chosen.found _ refl)) (goes_on g r follow v starts settles erases)))))
