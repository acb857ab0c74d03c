-- What the leaves do to chip and spare is what 01's steps do: laws that turn equations of lists into `Does`.
use Rattle.std.specs.Prelude.{ℕ, ◌+◌, ◌*◌, ◌≤◌, ◌<◌, ◌≡◌, refl, List, [], ◌∷◌, ◌++◌, length, set, replicate}
use Rattle.std.proofs.Common.{sym, ap, ◌∙◌, mod-lt, arith}
use Rattle.std.proofs.lemmas.List.{length-replicate}
use Rattle.std.proofs.lemmas.List.Edits.{sets}
use Rattle.scope.specs.Geometry.{Geometry, pages}
use Rattle.scope.specs.Regions.{Region}
use Rattle.scope.specs.SmallRecord.{SmallRecord, advanced, opened}
use Rattle.scope.specs.Lent.{none, invalid, erased, Entry, Place, Nowhere, State, Mapping, with_flash, with_small, words_of, owner_of, with_state, with_claim, with_erased, translation_word}
use Rattle.scope.specs.Operations.{Step, Mark, Erase, Counts, apply, give, look, perform, set_small, ◌>>=◌, ◌>>◌}
use Rattle.scope.specs.Room.{Following, read_page, program_next, move_page, open_lowest, lowest_erased}
use Rattle.scope.specs.Sound.{in_page}
use Rattle.scope.specs.Steps.{begun, set_words, mark_old, word_for}
use Rattle.flash.specs.Lengths.{words_at, length_words_of}
use Rattle.lent.specs.declared.Counts.{Counts as Counted}
use Rattle.lent.specs.declared.Record.{Record}
use Rattle.lent.specs.declared.Work.{Work}
use Rattle.lent.specs.Model.{small, counts}
use Rattle.lent.specs.Does.{Does}
use Rattle.lent.specs.DoesLaws.{one_read, one_program, one_erase, does_ends, does_value, flash_same, does_give, does_look, does_look_at, does_bind, does_read, does_program, does_mark, does_erase, does_set_small}
use Rattle.lent.specs.Shapes.{DoesFlash, DoesByChip, RoomToCount, told, room_after_read}
use Rattle.words.specs.Runs.{set_inside}
use Rattle.steps.specs.Lies.{ChipLent, next_page}

-- ---- one operation

-- A page is read.
read_does : (g : Geometry) (p : ℕ) {s : State} {c c' : Counts} → c' ≡ one_read c → Does (read_page g p) s c (words_of g p s.chip) s c'
unfolding read_page
read_does g p e = does_ends (does_bind _ (does_read g p) (does_look _)) refl (sym e)

pub read_by_chip : (g : Geometry) (p : ℕ) {chip : List ℕ} {w w' : Work} → w'.rec ≡ w.rec
    → counts w'.counts ≡ one_read (counts w.counts) → DoesByChip (read_page g p) chip w (words_of g p chip) w'
read_by_chip g p kept counting s = does_ends (read_does g p counting) (flash_same s refl refl (ap small (sym kept))) refl

-- A page is marked; the page that an entry names is, if it names one.
abbrev pub marked : Entry → List ℕ → List ℕ
marked (Place p) spare = with_state p invalid spare
marked Nowhere spare = spare

pub mark_does : (g : Geometry) (p : ℕ) {s : State} {spare' : List ℕ} {c : Counts} → spare' ≡ with_state p invalid s.spare
    → Does (perform g (Mark p)) s c tt (with_flash s.chip spare' s) c
unfolding apply
mark_does g p {s} e = does_ends (does_mark g p) (flash_same s refl (sym e) refl) refl

pub mark_old_does : (g : Geometry) (old : Entry) {s : State} {spare' : List ℕ} {c : Counts} → spare' ≡ marked old s.spare
    → Does (mark_old g old) s c tt (with_flash s.chip spare' s) c
unfolding mark_old
mark_old_does g (Place p) e = mark_does g p e
mark_old_does g Nowhere {s} e = does_ends (does_give tt) (flash_same s refl (sym e) refl) refl

-- A block is erased.
pub erase_does : (g : Geometry) (b : ℕ) {chip spare chip' spare' : List ℕ} {w w' : Work}
    → chip' ≡ sets chip (b * g.P * g.W) (replicate (g.P * g.W) erased)
    → spare' ≡ with_erased (b * g.P) g.P spare
    → w'.rec ≡ w.rec → counts w'.counts ≡ one_erase (counts w.counts)
    → DoesFlash (perform g (Erase b)) chip spare w tt chip' spare' w'
unfolding apply
erase_does g b e f kept counting s =
    does_ends (does_erase g b) (flash_same s (sym e) (sym f) (ap small (sym kept))) (sym counting)

-- ---- the open block's next page

-- It is claimed for an owner: valid and the owner's, the page behind it the next one, and a program counted. Its words are stored apart.
pub record Claimed (g : Geometry) (r : Region) (owner : ℕ) (spare : List ℕ) (w : Work) (q : ℕ) (spare' : List ℕ) (w' : Work) : Type 0 where
  pub is_next : q ≡ next_page g r (small w.rec)
  pub owned : spare' ≡ with_claim q owner spare
  pub moves_on : small w'.rec ≡ advanced r (small w.rec)
  pub counting : counts w'.counts ≡ one_program (counts w.counts)

pub program_does : {g : Geometry} {r : Region} {owner q q₀ : ℕ} {chip spare chip' spare' : List ℕ} {w w' : Work} (words : List ℕ)
    → q₀ ≡ next_page g r (small w.rec) → chip' ≡ sets chip (q₀ * g.W) words → Claimed g r owner spare w q spare' w'
    → DoesFlash (program_next g r owner words) chip spare w q chip' spare' w'
unfolding program_next apply
program_does {g} {r} {owner} {q} {q₀} {chip} words is_next e claimed s =
    let there : q₀ ≡ q = is_next ∙ sym claimed.is_next in
    does_ends
    (does_bind _ (does_look_at _ (sym claimed.is_next))
    (does_bind _ (does_program g q owner words)
    (does_bind _ (does_set_small (advanced r)) (does_give q))))
    (flash_same s (sym (e ∙ ap (λ (k : ℕ). sets chip (k * g.W) words) there)) (sym claimed.owned) (sym claimed.moves_on))
    (sym claimed.counting)

-- ---- a page moved

-- A page moved to the open block's next one, without what follows: its owner and its new place are handed back.
unfoldable pub relocate : Geometry → Region → ℕ → Step Mapping
relocate g r p = do
  owner ← look (λ s. owner_of p s.spare)
  words ← read_page g p
  q ← program_next g r owner words
  perform g (Mark p)
  give (record { logical = owner; physical = q })

pub relocate_does : (p : ℕ) {g : Geometry} {r : Region} {owner q q₀ : ℕ} {chip spare chip' spare₁ spare' : List ℕ} {w w₁ w' : Work}
    → owner ≡ owner_of p spare → q₀ ≡ next_page g r (small w.rec) → chip' ≡ sets chip (q₀ * g.W) (words_of g p chip)
    → w₁.rec ≡ w.rec → counts w₁.counts ≡ one_read (counts w.counts)
    → Claimed g r owner spare w₁ q spare₁ w' → spare' ≡ with_state p invalid spare₁
    → DoesFlash (relocate g r p) chip spare w (record { logical = owner; physical = q }) chip' spare' w'
unfolding relocate
relocate_does p {g} {r} {chip = chip} {spare} its_owner is_next copied kept counting claimed is_marked s =
    let next = is_next ∙ ap (λ (k : Record). next_page g r (small k)) (sym kept) in
    does_bind _ (does_look_at _ (sym its_owner))
    (does_bind _ (read_by_chip g p kept counting (with_flash chip spare s))
    (does_bind _ (program_does (words_of g p chip) next copied claimed s)
    (does_bind _ (mark_does g p is_marked) (does_give _))))

-- What follows is done then.
pub move_does : (g : Geometry) (r : Region) (follow : Following) (p : ℕ)
    {s s₁ s₂ : State} {c c₁ c₂ : Counts} {m : Mapping} {x : List Mapping}
    → Does (relocate g r p) s c m s₁ c₁ → Does (follow.moved m.logical m.physical) s₁ c₁ x s₂ c₂
    → Does (move_page g r follow p) s c x s₂ c₂
unfolding relocate move_page read_page program_next look perform set_small give ◌>>=◌
move_does g r follow p a b =
    let d = does_bind (λ (m : Mapping). follow.moved m.logical m.physical) a b in
    record { value = d.value; after = d.after; counting = d.counting }

-- ---- what an entry names, read

-- A read is counted where the entry is a place.
abbrev pub read_if_place : Entry → Counts → Counts
read_if_place (Place p) c = one_read c
read_if_place Nowhere c = c

-- The words that an update begins with.
abbrev pub begun_words : Geometry → Entry → List ℕ → List ℕ
begun_words g (Place p) chip = words_of g p chip
begun_words g Nowhere chip = replicate g.W none

-- They are in the next page, and what they cost is counted.
pub record Begun (g : Geometry) (r : Region) (former : Entry) (chip : List ℕ) (w : Work) (chip' : List ℕ) (w' : Work) : Type 0 where
  pub stored : chip' ≡ sets chip (next_page g r (small w.rec) * g.W) (begun_words g former chip)
  pub kept : w'.rec ≡ w.rec
  pub counting : counts w'.counts ≡ read_if_place former (counts w.counts)

begun_entry : (g : Geometry) (e : Entry) {chip : List ℕ} {w w' : Work} → w'.rec ≡ w.rec
    → counts w'.counts ≡ read_if_place e (counts w.counts) → DoesByChip (begun g e) chip w (begun_words g e chip) w'
unfolding begun
begun_entry g (Place p) kept counting s = read_by_chip g p kept counting s
begun_entry g Nowhere kept counting s = does_ends (does_give _) (flash_same s refl refl (ap small (sym kept))) (sym counting)

-- In the definition the chip is as before until the page is programmed.
pub begun_does : {g : Geometry} {r : Region} {former : Entry} {chip chip' : List ℕ} {w w' : Work} → Begun g r former chip w chip' w'
    → DoesByChip (begun g former) chip w (begun_words g former chip) w'
begun_does {g} {former = former} h = begun_entry g former h.kept h.counting

-- A page's worth of words, and room in the counts for one operation less.
pub length_begun : {g : Geometry} {chip : List ℕ} → ChipLent g chip → (e : Entry) → ((p : ℕ) → e ≡ Place p → p < pages g)
    → length (begun_words g e chip) ≡ g.W
length_begun {g} {chip} lent (Place p) on_chip = length_words_of g p chip (on_chip p refl) lent.chip_fits
length_begun {g} lent Nowhere on_chip = length-replicate g.W none

room_after_entry : (n : ℕ) (e : Entry) (c c' : Counted) → RoomToCount (n + 1) c → counts c' ≡ read_if_place e (counts c)
    → RoomToCount n c'
room_after_entry n (Place p) c c' room e = room_after_read n c c' room e
room_after_entry n Nowhere c c' room e = omega (arith, told e)

pub room_after_begun : {g : Geometry} {r : Region} {former : Entry} {chip chip' : List ℕ} {w w' : Work} (n : ℕ)
    → Begun g r former chip w chip' w' → RoomToCount (n + 1) w.counts → RoomToCount n w'.counts
room_after_begun {former = former} {w = w} {w'} n h room = room_after_entry n former w.counts w'.counts room h.counting

pub begun_is : (g : Geometry) (r : Region) {former f : Entry} {q : ℕ} {chip chip' : List ℕ} {w w' : Work}
    → former ≡ f → q ≡ next_page g r (small w.rec) → chip' ≡ sets chip (q * g.W) (begun_words g f chip)
    → w'.rec ≡ w.rec → counts w'.counts ≡ read_if_place f (counts w.counts) → Begun g r former chip w chip' w'
begun_is g r {q = q} {chip = chip} {w = w} e is_next stored kept counting =
    record {
      stored = stored ∙ (rw (e, is_next) refl);
      kept = kept;
      counting = counting ∙ (rw e refl);
    }

set_words_snoc : (g : Geometry) (ms : List Mapping) (m : Mapping) (words : List ℕ)
    → set_words g (ms ++ m ∷ []) words ≡ set (set_words g ms words) (translation_word g m.logical) m.physical
unfolding set_words
set_words_snoc g [] m words = refl
set_words_snoc g (x ∷ ms) m words = set_words_snoc g ms m (set words (translation_word g x.logical) x.physical)

-- One more word set in a page that is stored at q.
pub one_word_set : (g : Geometry) (q : ℕ) (ms : List Mapping) (m : Mapping) (chip₀ words : List ℕ) {chip chip' : List ℕ}
    → 1 ≤ g.W → length (set_words g ms words) ≡ g.W → chip ≡ sets chip₀ (q * g.W) (set_words g ms words)
    → chip' ≡ set chip (q * g.W + translation_word g m.logical) m.physical
    → chip' ≡ sets chip₀ (q * g.W) (set_words g (ms ++ m ∷ []) words)
one_word_set g q ms m chip₀ words some len before after =
    after
    ∙ ap (λ (l : List ℕ). set l (q * g.W + translation_word g m.logical) m.physical) before
    ∙ set_inside chip₀ (q * g.W) (set_words g ms words) (translation_word g m.logical) m.physical
    (omega (arith, mod-lt m.logical some))
    ∙ ap (sets chip₀ (q * g.W)) (sym (set_words_snoc g ms m words))

-- The word for a logical page.
pub word_does : (g : Geometry) (l : ℕ) (page : Entry) {chip : List ℕ} {w w' : Work} {word : ℕ} → 1 ≤ g.W
    → word ≡ in_page g chip l page → w'.rec ≡ w.rec → counts w'.counts ≡ read_if_place page (counts w.counts)
    → DoesByChip (word_for g l page) chip w word w'
unfolding word_for
word_does g l (Place q) {chip} some e kept counting s =
    does_bind _ (read_by_chip g q kept counting s)
    (does_value (does_give _) (words_at g q (translation_word g l) chip (mod-lt l some) ∙ sym e))
word_does g l Nowhere some e kept counting s =
    does_value (does_ends (does_give _) (flash_same s refl refl (ap small (sym kept))) (sym counting)) (sym e)

-- ---- a block opened

pub open_does : (g : Geometry) (r : Region) {s : State} {small' : SmallRecord} {c : Counts} {b : ℕ}
    → lowest_erased g r s ≡ b → small' ≡ opened r b s.small → Does (open_lowest g r) s c tt (with_small small' s) c
unfolding open_lowest
open_does g r {s} {b = b} found e =
    does_ends (does_bind _ (does_look_at _ found) (does_set_small (opened r b))) (flash_same s refl refl (sym e)) refl
