-- What waits for one translation page taken out: the words that it sets there, what is left, and the lowest page of that.
use Rattle.std.specs.Prelude.{◌≡◌, ℕ, ◌+◌, ◌*◌, ◌<◌, ◌≤◌, min, ◌≢◌, ◌⊎◌, List, [], ◌∷◌, ◌++◌, length, slice_index, slice_index_or, slice_set, refl}
use Rattle.std.proofs.Common.{sym, ap, subst, ◌∙◌, inl, inr, arith, length-append}
use Rattle.std.proofs.Math.Nat.{min-eq_left, min-eq_right}
use Rattle.scope.specs.Geometry.{most_pages_in_block, Geometry, pages}
use Rattle.scope.specs.Lent.{Mapping, translation_page, translation_word}
use Rattle.scope.specs.Steps.{of_page}
use Rattle.flash.specs.Cases.{below?}
use Rattle.steps.specs.Lies.{ChipLent}
use Rattle.copying.specs.Moves.{move_words, move_at, first_moves, no_moves, one_more}
use Rattle.index.specs.Moves.{WaitsIn, waits_too, one_ahead, wait_more, still_waits_in, none_wait_in}
use Rattle.index.specs.Moves.{none_of_page, of_page_++, of_page_more, of_page_other}
use Rattle.index.specs.Words.{WordsSet, none_set, one_set}

-- ---- the lowest translation page

-- r is the lowest translation page for which something waits; m where there is none below m.
pub record Lowest (g : Geometry) (w : List Mapping) (m r : ℕ) : Type 0 where
  pub up_to : r ≤ m
  pub untouched : (t : ℕ) → t < r → of_page g t w ≡ []
  pub touched : r < m → 1 ≤ length (of_page g r w)

module _ (g : Geometry) (m : ℕ) where
  pub none_touched : Lowest g [] m m
  unfolding of_page
  none_touched = record { up_to = omega arith; untouched = λ t _. refl; touched = λ k. absurd (omega arith) }

  pub one_touched : (w : List Mapping) (x : Mapping) (r r' : ℕ) → Lowest g w m r
      → r' ≡ min r (translation_page g x.logical) → Lowest g (w ++ x ∷ []) m r'
  one_touched w x r r' before e =
      below? p r
      (λ near.
      let low : p ≤ r = omega (arith, near) in
      rw (e, min-eq_right low) (record {
        up_to = omega (arith, before.up_to);
        untouched = λ t h. of_page_other g t w x (omega arith) ∙ before.untouched t (omega arith);
        touched = λ k. omega (arith, ap length (of_page_more g p w x refl), length-append (of_page g p w) (x ∷ []));
      }))
      (λ far. rw (e, min-eq_left far) (record {
        up_to = before.up_to;
        untouched = λ t h. of_page_other g t w x (omega arith) ∙ before.untouched t h;
        touched = λ k.
            omega (arith, ap length (of_page_++ g r w (x ∷ [])), length-append (of_page g r w) (of_page g r (x ∷ [])), before.touched k);
      }))
    where
      p : ℕ
      p = translation_page g x.logical

-- ---- what is left

-- Of what waited, what is of translation page t is gone, and nothing else.
pub record Rest (g : Geometry) (t : ℕ) (v w : List Mapping) : Type 0 where
  pub gone : of_page g t w ≡ []
  pub kept : (s : ℕ) → s ≢ t → of_page g s w ≡ of_page g s v

none_rest : (g : Geometry) (t : ℕ) → Rest g t [] []
unfolding of_page
none_rest g t = record { gone = refl; kept = λ s _. refl }

module _ {g : Geometry} {t : ℕ} {v w : List Mapping} (before : Rest g t v w) (x : Mapping) where
  one_gone : translation_page g x.logical ≡ t → Rest g t (v ++ x ∷ []) w
  one_gone of_t =
      record {
        gone = before.gone;
        kept = λ s other. before.kept s other ∙ sym (of_page_other g s v x (λ e. other (sym e ∙ of_t)));
      }

  one_kept : translation_page g x.logical ≢ t → Rest g t (v ++ x ∷ []) (w ++ x ∷ [])
  one_kept apart =
      record {
        gone = of_page_other g t w x apart ∙ before.gone;
        kept = λ s other. of_page_++ g s w (x ∷ [])
            ∙ ap (λ (l : List Mapping). l ++ of_page g s (x ∷ [])) (before.kept s other)
            ∙ sym (of_page_++ g s v (x ∷ []));
      }

-- What is left after the lowest page is taken out has none that is as low.
pub lowest_rises : {g : Geometry} {v w : List Mapping} {m t t' : ℕ} → Lowest g v m t → t < m → Rest g t v w → Lowest g w m t' → t < t'
lowest_rises {g} {v} {w} {m} {t} {t'} low some rest next =
    below? t t' (λ h. h)
    (λ back.
    let one : 1 ≤ length (of_page g t' w) = next.touched (omega arith) in
    below? t' t
    (λ under. absurd (omega (arith, one, ap length (rest.kept t' (omega arith) ∙ low.untouched t' under))))
    (λ over.
    let here : t' ≡ t = omega arith in
    absurd (omega (arith, one, ap length (subst (λ (s : ℕ). of_page g s w ≡ []) (sym here) rest.gone)))))

-- Of n mappings in the array those of translation page t are taken out, k are left, and `lowest` is the lowest page of these.
pub record LeftAfter (g : Geometry) (t m n : ℕ) (words : List ℕ) (k lowest : ℕ) (words' : List ℕ) : Type 0 where
  pub waits : WaitsIn g k words'
  pub rest : Rest g t (first_moves n words) (first_moves k words')
  pub low : Lowest g (first_moves k words') m lowest

-- ---- one mapping after the other

-- Mapping x is of translation page t: its word is set, and it is gone.
pub record TakenOut (g : Geometry) (q t : ℕ) (x : Mapping) (k lowest : ℕ) (words chip : List ℕ)
    (k' lowest' : ℕ) (words' chip' : List ℕ) : Type 0 where
  pub of_t : translation_page g x.logical ≡ t
  pub stored : chip' ≡ slice_set chip (q * g.W + translation_word g x.logical) x.physical
  pub as_many : k' ≡ k
  pub as_low : lowest' ≡ lowest
  pub same_words : words' ≡ words

-- It is of another: it is left, behind the k that are.
pub record Stays (g : Geometry) (t : ℕ) (x : Mapping) (k lowest : ℕ) (words chip : List ℕ)
    (k' lowest' : ℕ) (words' chip' : List ℕ) : Type 0 where
  pub other : translation_page g x.logical ≢ t
  pub same_chip : chip' ≡ chip
  pub one_left : k' ≡ k + 1
  pub is_lower : lowest' ≡ min lowest (translation_page g x.logical)
  pub behind : words' ≡ waits_too k x.logical x.physical (translation_page g x.logical) words

-- The first i mappings are taken out or left, and the words of those ahead are as they were.
pub record TakenUpto (g : Geometry) (q t m i : ℕ) (words₀ chip₀ : List ℕ) (k lowest : ℕ) (words chip : List ℕ) : Type 0 where
  pub most : k ≤ i
  pub ahead : (j : ℕ) → i * move_words ≤ j → slice_index words j ≡ slice_index words₀ j
  pub is_set : WordsSet g q chip₀ (of_page g t (first_moves i words₀)) chip
  pub left : LeftAfter g t m i words₀ k lowest words

module _ {g : Geometry} {q t m n : ℕ} {words₀ chip₀ : List ℕ} (lent : ChipLent g chip₀) (on_chip : q < pages g)
    (waits : WaitsIn g n words₀) where
  pub none_taken : TakenUpto g q t m 0 words₀ chip₀ 0 m words₀ chip₀
  none_taken =
      record {
        most = omega arith;
        ahead = λ j h. refl;
        is_set = rw (no_moves words₀, none_of_page g t) (none_set lent on_chip);
        left = record {
          waits = none_wait_in waits.long;
          rest = rw (no_moves words₀) (none_rest g t);
          low = rw (no_moves words₀) (none_touched g m);
        };
      }

  module _ {i k lowest : ℕ} {words chip : List ℕ} (before : TakenUpto g q t m i words₀ chip₀ k lowest words chip) (more : i < n) where
    abbrev x : Mapping
    x = move_at i words

    -- It is the mapping that waited.
    is_x : first_moves (i + 1) words₀ ≡ first_moves i words₀ ++ x ∷ []
    is_x = one_more words₀ i ∙ (rw (before.ahead (i * move_words) (omega arith), before.ahead (i * move_words + 1) (omega arith)) refl)

    pub its_page : slice_index_or words (i * move_words + 2) 0 ≡ translation_page g x.logical
    its_page = before.ahead (i * move_words + 2) (omega arith)
        ∙ waits.of_pages i more
        ∙ ap (translation_page g) (sym (before.ahead (i * move_words) (omega arith)))

    module _ {k' lowest' : ℕ} {words' chip' : List ℕ} where
      taken : TakenOut g q t x k lowest words chip k' lowest' words' chip' → TakenUpto g q t m (i + 1) words₀ chip₀ k' lowest' words' chip'
      taken out =
          rw (out.as_many, out.as_low, out.same_words) (record {
            most = omega (arith, before.most);
            ahead = λ j h. before.ahead j (omega arith);
            is_set = rw (is_x, of_page_more g t (first_moves i words₀) x out.of_t) (one_set lent on_chip x before.is_set out.stored);
            left = record {
              waits = before.left.waits;
              rest = rw is_x (one_gone before.left.rest x out.of_t);
              low = before.left.low;
            };
          })

      stays : Stays g t x k lowest words chip k' lowest' words' chip' → TakenUpto g q t m (i + 1) words₀ chip₀ k' lowest' words' chip'
      stays stay =
          let few : k < most_pages_in_block = omega (arith, before.most, waits.few) in
          let room : k * move_words + move_words ≤ length words = omega (arith, before.left.waits.long) in
          let p : ℕ = translation_page g x.logical in
          let is_more : first_moves (k + 1) (waits_too k x.logical x.physical p words) ≡ first_moves k words ++ x ∷ [] =
          wait_more words k x.logical x.physical p room in
          rw (stay.one_left, stay.behind) (record {
            most = omega (arith, before.most);
            ahead = λ j h. (one_ahead words k x.logical x.physical p).behind j (omega (arith, before.most)) ∙ before.ahead j (omega arith);
            is_set = rw (is_x, of_page_other g t (first_moves i words₀) x stay.other, stay.same_chip) before.is_set;
            left = record {
              waits = still_waits_in before.left.waits few x.logical x.physical;
              rest = rw (is_x, is_more) (one_kept before.left.rest x stay.other);
              low = rw is_more (one_touched g m (first_moves k words) x lowest lowest' before.left.low stay.is_lower);
            };
          })

      pub one_taken : TakenOut g q t x k lowest words chip k' lowest' words' chip' ⊎ Stays g t x k lowest words chip k' lowest' words' chip'
          → TakenUpto g q t m (i + 1) words₀ chip₀ k' lowest' words' chip'
      one_taken (inl out) = taken out
      one_taken (inr stay) = stays stay
