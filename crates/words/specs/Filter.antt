-- The filter: a bit for each logical page, set where the page is cached, so that a page that isn't is known without a search. A set bit
-- says nothing, so all that is kept is that each entry in use has its bit, and no bit is ever cleared.
use Rattle.std.specs.Prelude.{ℕ, ◌*◌, ◌/◌, ◌%◌, ◌≤◌, ◌<◌, ◌≡◌, true, List, length}
use Rattle.std.proofs.Common.{mod-lt, arith}
use Rattle.scope.specs.Lent.{entry_words, logical_at}
use Rattle.lent.specs.Notes.{filter_words, filter_bits}
use Rattle.words.specs.Bitmap.{has}

-- The bit of a logical page.
abbrev pub bit_of : ℕ → ℕ
bit_of l = l % filter_bits

pub bit_below : (l : ℕ) → bit_of l < filter_bits
bit_below l = mod-lt l (omega arith)

pub record Filter (cache : List ℕ) (used : ℕ) (filter : List ℕ) : Type 0 where
  pub ranks : ℕ
  pub cache_fits : length cache ≡ ranks * entry_words
  pub used_to : used ≤ ranks
  pub filter_fits : length filter ≡ filter_words
  pub each : (i : ℕ) → i < used → has filter (bit_of (logical_at i cache)) ≡ true

-- The same as a fact that has one proof at most: the ranks are told by the cache's length.
pub record Filtered (cache : List ℕ) (used : ℕ) (filter : List ℕ) : Type 0 where
  pub cache_whole : length cache ≡ (length cache / entry_words) * entry_words
  pub used_within : used ≤ length cache / entry_words
  pub filter_whole : length filter ≡ filter_words
  pub each_has : (i : ℕ) → i < used → has filter (bit_of (logical_at i cache)) ≡ true

pub filter_of : {cache filter : List ℕ} {used : ℕ} → Filtered cache used filter → Filter cache used filter
filter_of {cache} h =
    record {
      ranks = length cache / entry_words;
      cache_fits = h.cache_whole;
      used_to = h.used_within;
      filter_fits = h.filter_whole;
      each = h.each_has;
    }

pub filtered_of : {cache filter : List ℕ} {used : ℕ} → Filter cache used filter → Filtered cache used filter
filtered_of f =
    record {
      cache_whole = omega (arith, f.cache_fits);
      used_within = omega (arith, f.cache_fits, f.used_to);
      filter_whole = f.filter_fits;
      each_has = f.each;
    }
