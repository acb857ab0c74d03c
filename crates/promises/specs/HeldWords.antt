-- What a logical page holds (Demands.antt) and crate region's contents of its place say the same: a page has at least one word.
use Rattle.std.specs.Prelude.{ℕ, ◌<◌, ◌≡◌, refl, List, [], length}
use Rattle.std.proofs.Common.{sym, ◌∙◌, ap, arith}
use Rattle.scope.specs.Geometry.{Geometry, Accepted}
use Rattle.scope.specs.Lent.{chip_size, Entry, Place, Nowhere, decode, State, words_of}
use Rattle.scope.specs.Regions.{Data}
use Rattle.scope.specs.Sound.{Names, current, Sound}
use Rattle.flash.specs.Lengths.{Lengths, length_words_of}
use Rattle.flash.specs.Places.{page_on_chip}
use Rattle.region.specs.Holds.{contents}
use Rattle.promises.specs.Remembered.{Holding, words_at, held}

module _ {g : Geometry} (ok : Accepted g) where
  -- A page of the region is not empty.
  not_empty : (chip spare : List ℕ) (l p : ℕ) → length chip ≡ chip_size g → Names g Data spare l (Place p)
      → words_of g p chip ≡ [] → ⊥
  not_empty chip spare l p len names e =
      omega (arith, length_words_of g p chip (page_on_chip g Data p names.0) len, ap length e, ok.W_from)

  same_words : (l : ℕ) (s s' : State) (e e' : Entry) → Lengths g s → Lengths g s' → Names g Data s.spare l e
      → Names g Data s'.spare l e'
      → contents g s'.chip e' ≡ contents g s.chip e → words_at g s'.chip e' ≡ words_at g s.chip e
  same_words l s s' (Place p) (Place q) len len' names names' e = ap Holding e
  same_words l s s' (Place p) Nowhere len len' names names' e =
      absurd (not_empty s.chip s.spare l p len.chip_fits names (sym e))
  same_words l s s' Nowhere (Place q) len len' names names' e =
      absurd (not_empty s'.chip s'.spare l q len'.chip_fits names' e)
  same_words l s s' Nowhere Nowhere len len' names names' e = refl

  pub held_same : (s s' : State) → Lengths g s → Lengths g s' → Sound g s → Sound g s' → (l : ℕ) → l < g.L
      → contents g s'.chip (decode (current g s' l)) ≡ contents g s.chip (decode (current g s l)) → held g s' l ≡ held g s l
  held_same s s' len len' sound sound' l below e =
      same_words l s s' (decode (current g s l)) (decode (current g s' l)) len len'
      (sound.rule_6.current_place l below) (sound'.rule_6.current_place l below) e

  -- A page with W words holds them.
  words_held : (s : State) (l : ℕ) (e : Entry) (words : List ℕ) → Lengths g s → Names g Data s.spare l e → length words ≡ g.W
      → contents g s.chip e ≡ words → words_at g s.chip e ≡ Holding words
  words_held s l (Place p) words len names long e = ap Holding e
  words_held s l Nowhere words len names long e = absurd (omega (arith, ap length e, ok.W_from))

  pub held_is : (s : State) → Lengths g s → Sound g s → (l : ℕ) → l < g.L → (words : List ℕ) → length words ≡ g.W
      → contents g s.chip (decode (current g s l)) ≡ words → held g s l ≡ Holding words
  held_is s len sound l below words long e =
      words_held s l (decode (current g s l)) words len (sound.rule_6.current_place l below) long e

  -- And what is held are W words.
  pub held_long : (s : State) → Lengths g s → Sound g s → (l : ℕ) → l < g.L → (words : List ℕ) → held g s l ≡ Holding words
      → length words ≡ g.W
  held_long s len sound l below words e = go (decode (current g s l)) (sound.rule_6.current_place l below) e
    where
      go : (x : Entry) → Names g Data s.spare l x → words_at g s.chip x ≡ Holding words → length words ≡ g.W
      go (Place p) names q =
          let is : words_of g p s.chip ≡ words = cc in
          ap length (sym is) ∙ length_words_of g p s.chip (page_on_chip g Data p names.0) len.chip_fits
      go Nowhere names q = let z : ◌≡◌ {A = ℕ} 0 1 = cc in absurd (omega arith)
