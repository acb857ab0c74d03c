-- An update's parts: room made and the words begun with put into the next page, words set there, and the page claimed, its former one
-- marked and itself named. What each asks for, and that together they do it.
use Rattle.std.specs.Prelude.{◌≡◌, ℕ, suc, ◌+◌, ◌-◌, ◌*◌, ◌<◌, ◌≤◌, List, [], ◌∷◌, ◌++◌, length, take, drop, slice_set, refl}
use Rattle.std.proofs.Common.{sym, ap, subst, ◌∙◌, append_assoc, arith, set-set, length-take-le, take_at, drop_at}
use Rattle.std.proofs.lemmas.List.Edits.{sets, sets-eq}
use Rattle.std.proofs.Math.Seq.{length-sets}
use Rattle.scope.specs.Geometry.{Geometry, M, pages}
use Rattle.scope.specs.Regions.{Translation}
use Rattle.scope.specs.Lent.{Entry, Place, State, Mapping, with_flash, with_directory, words_of, named}
use Rattle.scope.specs.Sound.{Names}
use Rattle.scope.specs.Room.{make_room}
use Rattle.scope.specs.Steps.{set_words, directory_names_it, directory_follows, update}
use Rattle.flash.specs.Places.{page_on_chip}
use Rattle.flash.specs.Lengths.{Lengths, blank}
use Rattle.region.specs.Holds.{RegionHolds, Holds}
use Rattle.region.specs.DirectoryFollows.{in_directory, translation_room_law}
use Rattle.promises.specs.Stored.{length_set_words}
use Rattle.promises.specs.Update.{writing, update_bound}
use Rattle.lent.specs.declared.Work.{Work}
use Rattle.lent.specs.Model.{small, with_rec, counts}
use Rattle.lent.specs.Does.{Does}
use Rattle.lent.specs.DoesLaws.{does_ends, does_look, does_bind}
use Rattle.lent.specs.Shapes.{DoesDirectory, RoomToCount, room_after, less_room}
use Rattle.words.specs.Runs.{set_before}
use Rattle.steps.specs.Lies.{SpareLent, words_lie, next_page, HasNext, next_same, next_on_chip}
use Rattle.steps.specs.Chip.{marked, Claimed, program_does, mark_old_does}
use Rattle.steps.specs.Chip.{begun_words, Begun, begun_does, length_begun, room_after_begun}
use Rattle.index.specs.Index.{Index, with_pages, with_chip, with_names, with_index, DoesIndex, index_state}
use Rattle.index.specs.Index.{IndexLent, lent_with_chip, chip_of, spare_of, index_lengths, lengths_lent, RoomReady}

-- What an update of translation page t asks for.
pub record PageReady (g : Geometry) (x : Index) (w : Work) (t : ℕ) : Type 0 where
  pub lent : IndexLent g x
  pub holds : RegionHolds g Translation x.chip x.spare w.rec.open_translation w.rec.translation_offset
      (in_directory x.directory)
  pub below : t < M g
  pub counting : RoomToCount (update_bound g) w.counts

pub room_ready : {g : Geometry} {x : Index} {w : Work} {t : ℕ} → PageReady g x w t → RoomReady g x w
room_ready ready = record { lent = ready.lent; holds = ready.holds; counting = less_room (omega arith) ready.counting }

-- ---- room made

-- The open block has a page to take what is written, and the directory names a page of the chip, or none.
pub record Roomy (g : Geometry) (x : Index) (w : Work) (t n : ℕ) : Type 0 where
  pub lent : IndexLent g x
  pub next : HasNext g Translation (small w.rec)
  pub listed : t < length x.directory
  pub former : (p : ℕ) → named t x.directory ≡ Place p → p < pages g
  pub counting : RoomToCount n w.counts

module _ {g : Geometry} {x x' : Index} {w w' : Work} {t : ℕ} (ready : PageReady g x w t)
    (made : DoesIndex (make_room g Translation directory_follows) x w tt x' w') where
  abbrev s : State
  s = index_state g x w

  pub roomy : Roomy g x' w' t 2
  roomy =
      let law = translation_room_law g s ready.lent.accepted (index_lengths w ready.lent) ready.holds in
      let is_after = (made (blank g)).after in
      let lent = lengths_lent x' w' (blank g) ready.lent.accepted (subst (Lengths g) is_after law.lengths) in
      let holds = subst (λ (y : State). Holds g Translation y (in_directory y.directory)) is_after law.holds in
      record {
        lent = lent;
        next = record {
          in_region = holds.fits.in_region;
          room = subst (λ (y : State). y.small.translation_offset < g.P) is_after law.room;
        };
        listed = omega (arith, lent.directory_fits, ready.below);
        former = λ p e. page_on_chip g Translation p (subst (Names g Translation x'.spare t) e (holds.maps.names t ready.below)).0;
        counting = room_after 2 (2 * (g.P - 1) + 1) w.counts w'.counts (make_room g Translation directory_follows s).did
            (less_room (omega (arith, ready.lent.accepted.P_from)) ready.counting) law.costs (made (blank g)).counting;
      }

-- Room made, and the words that the update begins with put into the next page: over the chip and the work between the two.
pub record Begins (g : Geometry) (t : ℕ) (x : Index) (w : Work) (x' : Index) (w' : Work) : Type 0 where
  pub chip₁ : List ℕ
  pub w₁ : Work
  pub made : DoesIndex (make_room g Translation directory_follows) x w tt (with_chip chip₁ x') w₁
  pub begins : Begun g Translation (named t x'.directory) chip₁ w₁ x'.chip w'

module _ {g : Geometry} {x x' : Index} {w w' : Work} {t : ℕ} (ready : PageReady g x w t) (b : Begins g t x w x' w') where
  before : Roomy g (with_chip b.chip₁ x') b.w₁ t 2
  before = roomy ready b.made

  pub still_roomy : Roomy g x' w' t 1
  still_roomy =
      record {
        lent = lent_with_chip x'.chip before.lent
            (ap length b.begins.stored
            ∙ length-sets b.chip₁ (next_page g Translation (small b.w₁.rec) * g.W) (begun_words g (named t x'.directory) b.chip₁)
            ∙ before.lent.chip_fits);
        next = next_same b.begins.kept before.next;
        listed = before.listed;
        former = before.former;
        counting = room_after_begun 1 b.begins before.counting;
      }

  words_begun : length (begun_words g (named t x'.directory) b.chip₁) ≡ g.W
  words_begun = length_begun (chip_of before.lent) (named t x'.directory) before.former

-- ---- words set in the page

-- A run over another of the same length is all that is left of the two.
sets_over : (l : List ℕ) (i : ℕ) (vs us : List ℕ) → length us ≡ length vs → sets (sets l i vs) i us ≡ sets l i us
sets_over l i [] [] e = refl
sets_over l i [] (u ∷ us) e = absurd (omega arith)
sets_over l i (v ∷ vs) [] e = absurd (omega arith)
sets_over l i (v ∷ vs) (u ∷ us) e =
    ap (λ (k : List ℕ). sets k (suc i) us)
    (set_before (slice_set l i v) i (suc i) vs u (omega arith) ∙ ap (λ (k : List ℕ). sets k (suc i) vs) (set-set l i v u))
    ∙ sets_over (slice_set l i u) (suc i) vs us (omega arith)

-- A run is what stands there.
part_of_sets : (l : List ℕ) (i n : ℕ) (vs : List ℕ) → length vs ≡ n → i + n ≤ length l → take n (drop i (sets l i vs)) ≡ vs
part_of_sets l i n vs len fits =
    ap (λ (k : List ℕ). take n (drop i k)) (sets-eq vs l i (omega arith) ∙ append_assoc (take i l) vs (drop (i + length vs) l))
    ∙ ap (take n) (drop_at (take i l) (vs ++ drop (i + length vs) l) i (length-take-le i l (omega arith)))
    ∙ take_at vs (drop (i + length vs) l) n len

module _ {g : Geometry} {x x' : Index} {w w' : Work} {t q : ℕ} (ready : PageReady g x w t) (b : Begins g t x w x' w')
    (is_next : q ≡ next_page g Translation (small w'.rec)) where
  pub next_here : q < pages g
  next_here = rw is_next (next_on_chip (still_roomy ready b).next)

  abbrev words : List ℕ
  words = begun_words g (named t x'.directory) b.chip₁

  long : length words ≡ g.W
  long = words_begun ready b

  stored : x'.chip ≡ sets b.chip₁ (q * g.W) words
  stored =
      b.begins.stored
      ∙ ap (λ (k : ℕ). sets b.chip₁ (k * g.W) words) (ap (λ r. next_page g Translation (small r)) (sym b.begins.kept) ∙ sym is_next)

  -- All words of a list of mappings.
  pub all_words : {chip'' : List ℕ} (ms : List Mapping) → chip'' ≡ sets x'.chip (q * g.W) (set_words g ms (words_of g q x'.chip))
      → chip'' ≡ sets b.chip₁ (next_page g Translation (small w'.rec) * g.W) (set_words g ms words)
  all_words ms e =
      let in_page : words_of g q x'.chip ≡ words = ap (words_of g q) stored
      ∙ part_of_sets b.chip₁ (q * g.W) g.W words long (words_lie (chip_of (roomy ready b.made).lent) q next_here).words in
      e ∙ ap (λ (k : List ℕ). sets x'.chip (q * g.W) (set_words g ms k)) in_page
      ∙ ap (λ (k : List ℕ). sets k (q * g.W) (set_words g ms words)) stored
      ∙ sets_over b.chip₁ (q * g.W) words (set_words g ms words) (length_set_words g ms words)
      ∙ ap (λ (k : ℕ). sets b.chip₁ (k * g.W) (set_words g ms words)) is_next

-- ---- the page claimed, the former one marked, and the new one named

-- What this asks for: no word of the chip.
pub record FinishReady (g : Geometry) (spare directory : List ℕ) (w : Work) (t : ℕ) : Type 0 where
  pub lent : SpareLent g spare
  pub next : HasNext g Translation (small w.rec)
  pub listed : t < length directory
  pub former : (p : ℕ) → named t directory ≡ Place p → p < pages g
  pub counting : RoomToCount 1 w.counts

pub finish_ready : {g : Geometry} {x : Index} {w : Work} {t : ℕ} → Roomy g x w t 1
    → FinishReady g x.spare x.directory w t
finish_ready h =
    record {
      lent = spare_of h.lent;
      next = h.next;
      listed = h.listed;
      former = h.former;
      counting = h.counting;
    }

-- It is programmed with any words that stand in it.
abbrev pub Written : Geometry → ℕ → List ℕ → List ℕ → Work → List ℕ → List ℕ → Work → Type 0
Written g t spare directory w spare' directory' w' =
    (s : State) (words : List ℕ)
    → Does (writing g t (named t directory) words)
    (with_directory directory (with_flash s.chip spare (with_rec w.rec s))) (counts w.counts) tt
    (with_directory directory' (with_flash (sets s.chip (next_page g Translation (small w.rec) * g.W) words) spare'
    (with_rec w'.rec s))) (counts w'.counts)

pub write_does : (g : Geometry) (t : ℕ) {former : Entry} {q : ℕ} {spare spare₁ spare₂ directory directory' : List ℕ} {w w' : Work}
    → former ≡ named t directory → Claimed g Translation t spare w q spare₁ w' → spare₂ ≡ marked former spare₁
    → ((w : Work) → DoesDirectory (directory_names_it t q) directory w tt directory' w)
    → Written g t spare directory w spare₂ directory' w'
unfolding writing
write_does g t {former} {spare₁ = spare₁} {spare₂} {directory} {w = w} {w'} is_named claimed is_marked names s words =
    does_bind _ (program_does words refl refl claimed (with_directory directory s))
    (does_bind _ (mark_old_does g (named t directory) (is_marked ∙ ap (λ e. marked e spare₁) is_named))
    (names w' (with_flash (sets s.chip (next_page g Translation (small w.rec) * g.W) words) spare₂ s)))

-- All parts together, where the words of the mappings have been set in the page.
pub update_does : {g : Geometry} {t : ℕ} (ms : List Mapping)
    {x x₁ : Index} {chip₂ spare₂ directory₂ : List ℕ} {w w₁ w₂ : Work} → (b : Begins g t x w x₁ w₁)
    → chip₂ ≡ sets b.chip₁ (next_page g Translation (small w₁.rec) * g.W)
    (set_words g ms (begun_words g (named t x₁.directory) b.chip₁))
    → Written g t x₁.spare x₁.directory w₁ spare₂ directory₂ w₂
    → DoesIndex (update g t ms) x w tt (with_names directory₂ (with_pages chip₂ spare₂ x₁)) w₂
unfolding update writing
update_does {g} {t} ms {x₁ = x₁} {spare₂ = spare₂} {directory₂} {w₂ = w₂} b is_set written s =
    let made : State = with_index (with_chip b.chip₁ x₁) b.w₁ s in
    does_ends
    (does_bind _ (b.made s)
    (does_bind _ (does_look _)
    (does_bind _ (begun_does b.begins made)
    (written made (set_words g ms (begun_words g (named t x₁.directory) b.chip₁))))))
    (ap (λ (chip : List ℕ). with_index (with_names directory₂ (with_pages chip spare₂ x₁)) w₂ s) (sym is_set)) refl
