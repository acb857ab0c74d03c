-- "The valid data pages are one for each written logical page": rules 1, 2 and 6 say so, page by page and in number.
use Rattle.std.specs.Prelude.{ℕ, ◌≤◌, ◌<◌, ◌≡◌, refl, Bool, true, not, eqb}
use Rattle.std.proofs.Common.{sym, ◌∙◌, ap, subst, arith, eqb-true, eq-eqb, ne_eqb}
use Rattle.std.proofs.lemmas.Bool.{eqb-false, not-true}
use Rattle.scope.specs.Counting.{count}
use Rattle.scope.specs.Geometry.{Geometry}
use Rattle.scope.specs.Lent.{none, valid, Place, decode, State, state_of, owner_of, is_valid}
use Rattle.scope.specs.Regions.{Data, region_pages, HasPage}
use Rattle.scope.specs.Sound.{Names, Written, current, Sound}
use Rattle.flash.specs.Cases.{not_of_false}
use Rattle.flash.specs.Counting.{count_into}
use Rattle.promises.specs.Bounds.{OneForEach}

module _ {g : Geometry} {s : State} (sound : Sound g s) where
  -- The valid page of a written logical page is its current place.
  page_of : (l : ℕ) → l < g.L → Written g s l → Names g Data s.spare l (Place (current g s l))
  page_of l below w = rw (ne_eqb (current g s l) none w) at (sound.rule_6.current_place l below)

  -- The owner of a valid page is written.
  owner_written : (p : ℕ) → HasPage g Data p → state_of p s.spare ≡ valid
      → (owner_of p s.spare < g.L) × Written g s (owner_of p s.spare)
  owner_written p here is_valid =
      let below = (sound.rule_1 Data p here).owned (λ e. omega arith) in (
        below,
        λ e.
            subst (λ (x : ℕ). Names g Data s.spare (owner_of p s.spare) (decode x)) e
            (sound.rule_6.current_place (owner_of p s.spare) below) p here is_valid refl,
      )

  -- The two tests, and what they say.
  abbrev is_page : ℕ → Bool
  is_page p = is_valid p s.spare

  abbrev is_written : ℕ → Bool
  is_written l = not (eqb (current g s l) none)

  page_valid : (p : ℕ) → is_page p ≡ true → state_of p s.spare ≡ valid
  page_valid p e = eqb-true (state_of p s.spare) valid e

  written : (l : ℕ) → is_written l ≡ true → Written g s l
  written l e = eqb-false (current g s l) none (not-true (eqb (current g s l) none) e)

  in_data : (p : ℕ) → p < region_pages g Data → HasPage g Data p
  in_data p h = (omega arith, omega arith)

  as_many : count (region_pages g Data) is_page ≡ count g.L is_written
  as_many = omega (arith, pages_at_most, written_at_most)
    where
      pages_at_most : count (region_pages g Data) is_page ≤ count g.L is_written
      pages_at_most =
          count_into (region_pages g Data) g.L is_page is_written (λ p. owner_of p s.spare)
          (λ p h e.
          let (below, w) = owner_written p (in_data p h) (page_valid p e) in
          (below, not_of_false (ne_eqb (current g s (owner_of p s.spare)) none w)))
          (λ p q h k e d. sound.rule_2 Data p q (in_data p h) (in_data q k) (page_valid p e) (page_valid q d))

      written_at_most : count g.L is_written ≤ count (region_pages g Data) is_page
      written_at_most =
          count_into g.L (region_pages g Data) is_written is_page (λ l. current g s l)
          (λ l h e.
          let names = page_of l h (written l e) in
          (omega (arith, names.0.1), eq-eqb (state_of (current g s l) s.spare) valid names.1))
          (λ l k h h' e d same.
          sym (page_of l h (written l e)).2 ∙ ap (λ (p : ℕ). owner_of p s.spare) same ∙ (page_of k h' (written k d)).2)

  pub one_for_each : OneForEach g s
  one_for_each =
      record {
        page_of = λ l below w. let names = page_of l below w in (current g s l, names.0, names.1, names.2);
        one = sound.rule_2 Data;
        written = owner_written;
        as_many = as_many;
      }
