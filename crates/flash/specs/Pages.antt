-- What each operation does, page by page: to the page or the block that it is made on, and to every other page.
-- Where only equalities of pages matter, they speak of chip and spare alone, and so hold of any states that have these.
use Rattle.std.specs.Prelude.{ℕ, ◌+◌, ◌*◌, ◌<◌, ◌≡◌, refl, ◌≢◌, List, length, get_or, replicate}
use Rattle.std.proofs.Common.{sym, ap, ◌∙◌, arith, add-zero, get_or-set_same, get_or-set_other}
use Rattle.std.proofs.lemmas.List.Edits.{sets}
use Rattle.std.proofs.Math.Seq.{length-sets}
use Rattle.scope.specs.Geometry.{Geometry, pages, blocks}
use Rattle.scope.specs.Lent.{none, erased, valid, invalid, State, spare_words, words_of, word_of, state_of, owner_of, claim_words, with_claim}
use Rattle.scope.specs.Regions.{page_in}
use Rattle.scope.specs.Operations.{Read, Program, Mark, Erase, apply}
use Rattle.flash.specs.Stores.{getD_sets_inside, slot_below, slot_kept, block_filled, block_kept}
use Rattle.flash.specs.Lengths.{Lengths, words_are, words_same, word_same}
use Rattle.flash.specs.Moments.{PageErased, Outside}

-- ---- pages as before

-- A page has the state, the owner and the words that it had before.
pub record PageSame (g : Geometry) (p : ℕ) (chip spare chip' spare' : List ℕ) : Type 0 where
  pub state : state_of p spare' ≡ state_of p spare
  pub owner : owner_of p spare' ≡ owner_of p spare
  pub words : words_of g p chip' ≡ words_of g p chip

abbrev pub SamePage : Geometry → ℕ → State → State → Type 0
SamePage g p s s' = PageSame g p s.chip s.spare s'.chip s'.spare

module _ {g : Geometry} {p : ℕ} where
  pub page_refl : {c d : List ℕ} → PageSame g p c d c d
  page_refl = record { state = refl; owner = refl; words = refl }

  pub page_sym : {c d c' d' : List ℕ} → PageSame g p c d c' d' → PageSame g p c' d' c d
  page_sym a = record { state = sym a.state; owner = sym a.owner; words = sym a.words }

  pub page_trans : {c d c' d' c'' d'' : List ℕ} → PageSame g p c d c' d' → PageSame g p c' d' c'' d'' → PageSame g p c d c'' d''
  page_trans a b = record { state = b.state ∙ a.state; owner = b.owner ∙ a.owner; words = b.words ∙ a.words }

  -- Its words one by one.
  pub page_word : {c d c' d' : List ℕ} → PageSame g p c d c' d' → (i : ℕ) → i < g.W → word_of g p i c' ≡ word_of g p i c
  page_word {c} {d} {c'} a i h = word_same g p p i c c' h a.words

  -- As before where chip and spare are.
  pub page_alike : {c d c' d' : List ℕ} → c' ≡ c → d' ≡ d → PageSame g p c d c' d'
  page_alike e f = record { state = ap (state_of p) f; owner = ap (owner_of p) f; words = ap (words_of g p) e }

-- A page's words and its spare words tell that it is as before.
page_same : (g : Geometry) (p : ℕ) (chip spare chip' spare' : List ℕ) → length chip' ≡ length chip
    → ((i : ℕ) → i < g.W → word_of g p i chip' ≡ word_of g p i chip)
    → ((i : ℕ) → i < spare_words → get_or spare' (p * spare_words + i) none ≡ get_or spare (p * spare_words + i) none)
    → PageSame g p chip spare chip' spare'
page_same g p chip spare chip' spare' len words spares =
    record {
      state = rw add-zero at (spares 0 (omega arith));
      owner = spares 1 (omega arith);
      words = words_same g p chip chip' len words;
    }

-- ---- program

-- The spare words of page p once it is claimed; the other pages keep theirs.
module _ (p k : ℕ) (spare : List ℕ) where
  claimed_word : (i : ℕ) → i < spare_words → p * spare_words + i < length spare
      → get_or (with_claim p k spare) (p * spare_words + i) none ≡ get_or (claim_words k) i none
  claimed_word i l lies = getD_sets_inside spare (p * spare_words) (claim_words k) i none l lies

  claimed_kept : (q i : ℕ) → i < spare_words → q ≢ p
      → get_or (with_claim p k spare) (q * spare_words + i) none ≡ get_or spare (q * spare_words + i) none
  claimed_kept q i l other = slot_kept spare spare_words p q i none (claim_words k) refl l other

  pub claimed_state : p * spare_words < length spare → state_of p (with_claim p k spare) ≡ valid
  claimed_state lies = rw add-zero at (claimed_word 0 (omega arith) (omega arith))

  pub claimed_others : (q : ℕ) → q ≢ p → state_of q (with_claim p k spare) ≡ state_of q spare
  claimed_others q other = rw add-zero at (claimed_kept q 0 (omega arith) other)

-- After a program of page p it is valid, with that owner and those words; every other page is as before.
pub record Programmed (g : Geometry) (p k : ℕ) (contents : List ℕ) (s s' : State) : Type 0 where
  pub state : state_of p s'.spare ≡ valid
  pub owner : owner_of p s'.spare ≡ k
  pub words : words_of g p s'.chip ≡ contents
  pub others : (q : ℕ) → q ≢ p → SamePage g q s s'

pub program_page : (g : Geometry) (p k : ℕ) (contents : List ℕ) (s : State) → Lengths g s → p < pages g → length contents ≡ g.W
    → Programmed g p k contents s (apply g (Program p k contents) s)
unfolding apply
program_page g p k contents s len h w =
    record {
      state = claimed_state p k s.spare (omega (arith, len.spare_fits));
      owner = claimed_word p k s.spare 1 (omega arith) (omega (arith, len.spare_fits));
      words = words_are g p chip' contents h (length-sets s.chip (p * g.W) contents ∙ len.chip_fits) w chip_word;
      others = λ q other. page_same g q s.chip s.spare chip' (with_claim p k s.spare) (length-sets s.chip (p * g.W) contents)
          (λ i l. slot_kept s.chip g.W p q i none contents w l other)
          (λ i l. claimed_kept p k s.spare q i l other);
    }
  where
    chip' : List ℕ
    chip' = sets s.chip (p * g.W) contents

    chip_word : (i : ℕ) → i < g.W → word_of g p i chip' ≡ get_or contents i none
    chip_word i l =
        getD_sets_inside s.chip (p * g.W) contents i none (omega arith)
        (omega (arith, len.chip_fits, slot_below g.W (pages g) p i h l))

-- ---- mark

-- After a mark of page p it is invalid and has its owner; no word of the chip and no other page has changed.
pub record Marked (g : Geometry) (p : ℕ) (s s' : State) : Type 0 where
  pub state : state_of p s'.spare ≡ invalid
  pub owner : owner_of p s'.spare ≡ owner_of p s.spare
  pub chip : s'.chip ≡ s.chip
  pub others : (q : ℕ) → q ≢ p → SamePage g q s s'

pub mark_page : (g : Geometry) (p : ℕ) (s : State) → Lengths g s → p < pages g → Marked g p s (apply g (Mark p) s)
unfolding apply
mark_page g p s len h =
    record {
      state = get_or-set_same s.spare (p * spare_words) invalid none (omega (arith, len.spare_fits));
      owner = get_or-set_other s.spare (p * spare_words) (p * spare_words + 1) invalid none (omega arith);
      chip = refl;
      others = λ q other. record {
        state = get_or-set_other s.spare (p * spare_words) (q * spare_words) invalid none (omega arith);
        owner = get_or-set_other s.spare (p * spare_words) (q * spare_words + 1) invalid none (omega arith);
        words = refl;
      };
    }

-- ---- erase

pub erased_same : {g : Geometry} {p : ℕ} {c d c' d' : List ℕ} → PageSame g p c d c' d' → PageErased g p c d → PageErased g p c' d'
erased_same same e =
    record {
      state = same.state ∙ e.state;
      owner = same.owner ∙ e.owner;
      words = λ i h. page_word same i h ∙ e.words i h;
    }

-- After an erase of block b each of its pages is erased; every other page is as before.
pub record Erased (g : Geometry) (b : ℕ) (s s' : State) : Type 0 where
  pub pages : (i : ℕ) → i < g.P → PageErased g (page_in g b i) s'.chip s'.spare
  pub others : (q : ℕ) → Outside g b q → SamePage g q s s'

pub erase_block : (g : Geometry) (b : ℕ) (s : State) → Lengths g s → b < blocks g → Erased g b s (apply g (Erase b) s)
unfolding apply
erase_block g b s len h = record { pages = inside; others = outside }
  where
    chip' : List ℕ
    chip' = sets s.chip (b * g.P * g.W) (replicate (g.P * g.W) erased)

    spare' : List ℕ
    spare' = sets s.spare (b * g.P * spare_words) (replicate (g.P * spare_words) erased)

    on_chip : (i : ℕ) → i < g.P → page_in g b i < pages g
    on_chip i k = slot_below g.P (blocks g) b i h k

    spare_word : (i j : ℕ) → i < g.P → j < spare_words → get_or spare' (page_in g b i * spare_words + j) none ≡ erased
    spare_word i j k l =
        block_filled s.spare spare_words g.P b i j erased none k l
        (omega (arith, len.spare_fits, slot_below spare_words (pages g) (page_in g b i) j (on_chip i k) l))

    chip_word : (i j : ℕ) → i < g.P → j < g.W → word_of g (page_in g b i) j chip' ≡ erased
    chip_word i j k l =
        block_filled s.chip g.W g.P b i j erased none k l
        (omega (arith, len.chip_fits, slot_below g.W (pages g) (page_in g b i) j (on_chip i k) l))

    inside : (i : ℕ) → i < g.P → PageErased g (page_in g b i) chip' spare'
    inside i k =
        record {
          state = rw add-zero at (spare_word i 0 k (omega arith));
          owner = spare_word i 1 k (omega arith);
          words = λ j l. chip_word i j k l;
        }

    outside : (q : ℕ) → Outside g b q → SamePage g q s (apply g (Erase b) s)
    outside q out =
        page_same g q s.chip s.spare chip' spare'
        (length-sets s.chip (b * g.P * g.W) (replicate (g.P * g.W) erased))
        (λ j l. block_kept s.chip g.W g.P b q j erased none l out)
        (λ j l. block_kept s.spare spare_words g.P b q j erased none l out)

-- ---- read

pub read_page_same : (g : Geometry) (p : ℕ) (s : State) → apply g (Read p) s ≡ s
unfolding apply
read_page_same g p s = refl
