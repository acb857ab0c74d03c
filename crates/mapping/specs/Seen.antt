-- Different logical pages, found with a filter that takes the page of one entry after the other: each must be new to it.
use Rattle.std.specs.Prelude.{ℕ, ◌+◌, ◌<◌, ◌≡◌, refl, Bool, List, eqb, length}
use Rattle.std.proofs.Common.{sym, ap, ◌∙◌, add-one, mod-eq_of_lt, arith, eq-eqb, ne_eqb}
use Rattle.scope.specs.Counting.{some}
use Rattle.scope.specs.Geometry.{Geometry, Accepted}
use Rattle.scope.specs.Lent.{logical_at, cache_size}
use Rattle.scope.specs.Sound.{EntriesFit}
use Rattle.flash.specs.Cases.{same?, or_right}
use Rattle.flash.specs.Counting.{found_some}
use Rattle.flash.specs.Tests.{or_none}
use Rattle.lent.specs.Notes.{filter_words, filter_bits}
use Rattle.geometry.specs.Bounds.{filter_enough}
use Rattle.words.specs.Bitmap.{has, put, empty, has_empty, length_put, has_put_same, has_put_other}
use Rattle.words.specs.Filter.{Filter}

module _ (cache : List ℕ) where
  -- An entry before rank n has logical page l.
  abbrev pub seen : ℕ → ℕ → Bool
  seen n l = some n (λ j. eqb (logical_at j cache) l)

  -- The filter has the pages of the first n entries, and no other.
  pub record Seen (n : ℕ) (filter : List ℕ) : Type 0 where
    pub long : length filter ≡ filter_words
    pub pages : (l : ℕ) → has filter l ≡ seen n l

  pub seen_none : Seen 0 empty
  seen_none = record { long = refl; pages = has_empty }

  pub seen_more : (n : ℕ) (filter : List ℕ) → logical_at n cache < filter_bits → Seen n filter → Seen (n + 1) (put filter (logical_at n cache))
  seen_more n filter small before =
      let own : ℕ = logical_at n cache in
      rw add-one
      (record {
        long = length_put filter own ∙ before.long;
        pages = λ l. same? l own
            (λ e. rw e (has_put_same filter own (omega (arith, before.long)) ∙ sym (or_right (seen n own) (eq-eqb own own refl))))
            (λ d. has_put_other filter own l d ∙ before.pages l ∙ sym (or_none (seen n l) (ne_eqb own l (λ e. d (sym e)))));
      })

-- Where rule 5 holds, it is the filter of the cached pages.
pub seen_filter : {g : Geometry} {cache filter : List ℕ} {used : ℕ} → Accepted g → length cache ≡ cache_size g → EntriesFit g cache used
    → Seen cache used filter → Filter cache used filter
seen_filter {g} {cache} {filter} {used} ok long fits all =
    record {
      ranks = g.C;
      cache_fits = long;
      used_to = fits.at_most;
      filter_fits = all.long;
      each = λ i h.
          ap (has filter) (mod-eq_of_lt (omega (arith, fits.below_L i h, filter_enough ok)))
          ∙ all.pages (logical_at i cache)
          ∙ found_some used (λ j. eqb (logical_at j cache) (logical_at i cache)) i h (eq-eqb (logical_at i cache) (logical_at i cache) refl);
    }
