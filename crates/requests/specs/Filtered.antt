-- The filter of the cached pages from step to step: only translate changes the number of entries in use, and the others change no more of
-- an entry than the place that it names.
use Rattle.std.specs.Prelude.{ℕ, ◌+◌, ◌<◌, ◌≡◌, length, Option, Some, None}
use Rattle.std.proofs.Common.{sym, ap, arith}
use Rattle.std.proofs.Math.Path.{subst, subst₂}
use mathlib.Core.List.{List}
use Rattle.scope.specs.Geometry.{Geometry}
use Rattle.scope.specs.Regions.{Region, Data}
use Rattle.scope.specs.Lent.{State, logical_at}
use Rattle.scope.specs.Sound.{rank_of}
use Rattle.scope.specs.Operations.{Counts, Erase, apply, give, look, perform, set_cache, set_small, ◌>>=◌}
use Rattle.scope.specs.Room.{read_page, program_next}
use Rattle.scope.specs.Cache.{touch, forget, set_entry}
use Rattle.flash.specs.Lengths.{some_state}
use Rattle.cache.specs.Ranks.{rank_found}
use Rattle.lent.specs.declared.Work.{Work}
use Rattle.lent.specs.Does.{Does}
use Rattle.lent.specs.Shapes.{DoesFlash, DoesByChip, DoesCache}
use Rattle.words.specs.Filter.{Filter}
use Rattle.copying.specs.Choice.{Chosen}
use Rattle.entries.specs.Entries.{Different, different_placed}
use Rattle.entries.specs.Filter.{filter_moved, filter_forgotten, filter_ranks_kept, filter_placed}

-- A page that was found is cached.
pub found_in_use : (g : Geometry) (cache : List ℕ) (used l : ℕ) {i : ℕ} → rank_of g cache used l ≡ i → i < g.C → i < used
found_in_use g cache used l is h = omega (arith, is, (rank_found g cache used l (omega (arith, is))).in_use)

-- As many are in use.
pub filter_still : {cache filter : List ℕ} {n m : ℕ} → m ≡ n → Filter cache n filter → Filter cache m filter
filter_still {cache} {filter} e f = subst (λ (k : ℕ). Filter cache k filter) (sym e) f

-- A write-back changes no entry's page, and leaves as many in use.
pub written_filter : {cache cache' filter : List ℕ} {used used' : ℕ} → Filter cache used filter → length cache' ≡ length cache → used' ≡ used
    → ((i : ℕ) → logical_at i cache' ≡ logical_at i cache) → Filter cache' used' filter
written_filter f long same ranks = filter_still same (filter_ranks_kept f long ranks)

-- The last entry is dropped, one comes to the front, and one names another place.
module _ {cache cache' filter : List ℕ} {w : Work} (f : Filter cache w.rec.used filter) where
  pub forgotten_filter : (i : ℕ) {w' : Work} → i + 1 ≡ w.rec.used → DoesCache (forget i) cache w tt cache' w'
      → Filter cache' w'.rec.used filter
  unfolding forget set_cache set_small ◌>>=◌
  forgotten_filter i last does =
      let after = (does some_state).after in
      subst₂ (λ (x : List ℕ) (n : ℕ). Filter x n filter) (ap (λ (s : State). s.cache) after)
      (omega (arith, ap (λ (s : State). s.small.used) after)) (filter_forgotten f i (omega arith))

  pub touched_filter : (g : Geometry) {i : ℕ} {w' : Work} → i < w.rec.used → DoesCache (touch g i) cache w 0 cache' w'
      → Filter cache' w'.rec.used filter
  unfolding touch set_cache set_small give ◌>>=◌
  touched_filter g {i} in_use does =
      let after = (does some_state).after in
      subst₂ (λ (x : List ℕ) (n : ℕ). Filter x n filter) (ap (λ (s : State). s.cache) after) (ap (λ (s : State). s.small.used) after)
      (filter_moved f i in_use)

  pub placed_filter : (i place : ℕ) → DoesCache (set_entry i place) cache w tt cache' w → Filter cache' w.rec.used filter
  unfolding set_entry set_cache
  placed_filter i place does =
      subst (λ (x : List ℕ). Filter x w.rec.used filter) (ap (λ (s : State). s.cache) (does some_state).after)
      (filter_placed f i place)

-- The logical pages in the cache still differ.
pub different_still : (cache : List ℕ) {n m : ℕ} → m ≡ n → Different cache n → Different cache m
different_still cache e different = subst (λ (k : ℕ). Different cache k) (sym e) different

pub placed_different : {cache cache' : List ℕ} {w : Work} → Different cache w.rec.used → (i place : ℕ)
    → DoesCache (set_entry i place) cache w tt cache' w → Different cache' w.rec.used
unfolding set_entry set_cache
placed_different {cache} {w = w} different i place does =
    subst (λ (x : List ℕ). Different x w.rec.used) (ap (λ (s : State). s.cache) (does some_state).after)
    (different_placed cache different i place)

-- Flash's steps leave the number of entries in use.
pub program_keeps_used : (g : Geometry) (l : ℕ) (words : List ℕ) {chip spare chip' spare' : List ℕ} {w w' : Work} {q : ℕ}
    → DoesFlash (program_next g Data l words) chip spare w q chip' spare' w' → w'.rec.used ≡ w.rec.used
unfolding program_next look perform apply set_small give ◌>>=◌
program_keeps_used g l words does = sym (ap (λ (s : State). s.small.used) (does some_state).after)

pub erase_keeps_used : (g : Geometry) (b : ℕ) {s s' : State} {c c' : Counts} → Does (perform g (Erase b)) s c tt s' c'
    → s'.small.used ≡ s.small.used
unfolding perform apply
erase_keeps_used g b does = sym (ap (λ (s : State). s.small.used) does.after)

-- So does a read.
pub read_page_keeps_used : (g : Geometry) (p : ℕ) {chip : List ℕ} {w w' : Work} {words : List ℕ} → DoesByChip (read_page g p) chip w words w'
    → w'.rec.used ≡ w.rec.used
unfolding read_page perform apply look give ◌>>=◌
read_page_keeps_used g p does = sym (ap (λ (s : State). s.small.used) (does some_state).after)

-- The choice of how room is made leaves it too.
pub chosen_keeps_used : (g : Geometry) (r : Region) (spare : List ℕ) (w w' : Work) (o : Option ℕ) → Chosen g r spare w o w'
    → w'.rec.used ≡ w.rec.used
chosen_keeps_used g r spare w w' None h = h.keeps_used
chosen_keeps_used g r spare w w' (Some v) h = ap (λ (x : Work). x.rec.used) h.1
