-- The cache's flat words as entries: which entry stands at each rank once an entry is stored at a rank, and once one is brought
-- to the front, the others kept or behind others that are. The changes of scope's Cache.antt are these, so that nothing outside this file
-- speaks of places of words.
use Rattle.std.specs.Prelude.{ℕ, zero, suc, ◌+◌, ◌*◌, ◌-◌, ◌≤◌, ◌<◌, ◌≡◌, refl, ◌≢◌, cond, List, [], ◌∷◌, ◌++◌, ltb, length, get_or, take, drop}
use Rattle.std.proofs.Common.{add-zero, add-one, arith, ap, sym, ◌∙◌, append_assoc, length-append, length-take, length-drop, take-append-drop, length-take-le, take_at, drop_at, drop-drop, get_or-take, get_or-drop, lt-ltb, le-ltb}
use Rattle.std.proofs.lemmas.List.Edits.{sets, sets-eq}
use Rattle.std.proofs.Math.Seq.{length-sets, drop-append-add}
use Rattle.std.proofs.lemmas.List.{take-append-le, drop-append-le, set-get_or}
use Rattle.flash.specs.Cases.{below?}
use Rattle.scope.specs.Lent.{none, entry_words, logical_at, physical_at, changed_at}
use Rattle.scope.specs.Cache.{entry_at, without}

-- An entry: "logical page, physical page, changed (0 or 1)". The one at a rank, and an entry's words.
pub record CacheEntry : Type 0 where
  pub logical : ℕ
  pub physical : ℕ
  pub changed : ℕ

abbrev pub entry : ℕ → List ℕ → CacheEntry
entry i cache = record { logical = logical_at i cache; physical = physical_at i cache; changed = changed_at i cache }

abbrev pub words_of_entry : CacheEntry → List ℕ
words_of_entry e = e.logical ∷ e.physical ∷ e.changed ∷ []

-- An entry stored at a rank; another place, changed, for the entry at a rank; the entry at a rank brought to the front.
abbrev pub put_entry : ℕ → CacheEntry → List ℕ → List ℕ
put_entry i e cache = sets cache (i * entry_words) (words_of_entry e)

abbrev pub placed : ℕ → ℕ → List ℕ → List ℕ
placed i place cache = sets cache (i * entry_words + 1) (place ∷ 1 ∷ [])

abbrev pub to_front : ℕ → List ℕ → List ℕ
to_front i cache = entry_at i cache ++ without i cache

-- The rank that the entry now at a rank had before the one at i came to the front.
abbrev pub rank_before : ℕ → ℕ → ℕ
rank_before i zero = i
rank_before i (suc j) = cond (ltb j i) j (suc j)

-- ---- equal words are equal entries

from_words : List ℕ → CacheEntry
from_words words = record { logical = get_or words 0 none; physical = get_or words 1 none; changed = get_or words 2 none }

entry_word : (i k : ℕ) (cache : List ℕ) → k < entry_words → get_or (entry_at i cache) k none ≡ get_or cache (i * entry_words + k) none
entry_word i k cache h = get_or-take entry_words (drop (i * entry_words) cache) k none h ∙ get_or-drop (i * entry_words) cache k none

entry_from_words : (i : ℕ) (cache : List ℕ) → from_words (entry_at i cache) ≡ entry i cache
unfolding from_words
entry_from_words i cache =
    λ x. record {
      logical = (entry_word i 0 cache (omega arith) ∙ ap (λ k. get_or cache k none) (add-zero (i * entry_words))) x;
      physical = entry_word i 1 cache (omega arith) x;
      changed = entry_word i 2 cache (omega arith) x;
    }

same_entry : (i : ℕ) (a : List ℕ) (j : ℕ) (b : List ℕ) → entry_at i a ≡ entry_at j b → entry i a ≡ entry j b
same_entry i a j b e = sym (entry_from_words i a) ∙ ap from_words e ∙ entry_from_words j b

entry_is : (i : ℕ) (cache : List ℕ) (e : CacheEntry) → entry_at i cache ≡ words_of_entry e → entry i cache ≡ e
unfolding from_words
entry_is i cache e q = sym (entry_from_words i cache) ∙ ap from_words q

-- ---- whole entries, appended and cut

entry_in_front : (n j : ℕ) (p r : List ℕ) → length p ≡ n * entry_words → j < n → entry_at j (p ++ r) ≡ entry_at j p
entry_in_front n j p r long h =
    ap (take entry_words) (drop-append-le (j * entry_words) p r (omega arith))
    ∙ take-append-le entry_words (drop (j * entry_words) p) r (omega (arith, length-drop (j * entry_words) p))

entry_behind : (n m j : ℕ) (p r : List ℕ) → length p ≡ n * entry_words → n + m ≡ j → entry_at j (p ++ r) ≡ entry_at m r
entry_behind n m j p r long h =
    let e : j * entry_words ≡ length p + m * entry_words = omega arith in
    ap (λ k. take entry_words (drop k (p ++ r))) e ∙ ap (take entry_words) (drop-append-add p r (m * entry_words))

pub entry_front : (n j : ℕ) (p r : List ℕ) → length p ≡ n * entry_words → j < n → entry j (p ++ r) ≡ entry j p
entry_front n j p r long h = same_entry j (p ++ r) j p (entry_in_front n j p r long h)

pub entry_back : (n m j : ℕ) (p r : List ℕ) → length p ≡ n * entry_words → n + m ≡ j → entry j (p ++ r) ≡ entry m r
entry_back n m j p r long h = same_entry j (p ++ r) m r (entry_behind n m j p r long h)

-- The entries before rank i, and those after it.
abbrev before : ℕ → List ℕ → List ℕ
before i cache = take (i * entry_words) cache

abbrev after : ℕ → List ℕ → List ℕ
after i cache = drop (i * entry_words + entry_words) cache

entry_of_after : (i m j : ℕ) (cache : List ℕ) → suc i + m ≡ j → entry_at m (after i cache) ≡ entry_at j cache
entry_of_after i m j cache h =
    let e : i * entry_words + entry_words + m * entry_words ≡ j * entry_words = omega arith in
    ap (take entry_words) (drop-drop (m * entry_words) (i * entry_words + entry_words) cache)
    ∙ ap (λ k. take entry_words (drop k cache)) e

-- ---- the two changes, at a rank below the number n of entries

pub record Stores (n i : ℕ) (e : CacheEntry) (cache cache' : List ℕ) : Type 0 where
  pub long : length cache' ≡ n * entry_words
  pub here : entry i cache' ≡ e
  pub elsewhere : (j : ℕ) → j ≢ i → entry j cache' ≡ entry j cache

-- Behind b entries that stay.
pub stores_behind : (b n i : ℕ) {k m : ℕ} (kept : List ℕ) {cache cache' : List ℕ} {e : CacheEntry} → length kept ≡ b * entry_words
    → b + m ≡ n → b + k ≡ i → Stores m k e cache cache' → Stores n i e (kept ++ cache) (kept ++ cache')
stores_behind b n i {k} kept {cache} {cache'} long all here st =
    record {
      long = length-append kept cache' ∙ omega (arith, st.long);
      here = entry_back b k i kept cache' long here ∙ st.here;
      elsewhere = λ j d. below? j b
          (λ h. entry_front b j kept cache' long h ∙ sym (entry_front b j kept cache long h))
          (λ h. entry_back b (j - b) j kept cache' long (omega arith)
          ∙ st.elsewhere (j - b) (λ q. d (omega arith))
          ∙ sym (entry_back b (j - b) j kept cache long (omega arith)));
    }

module _ (n : ℕ) (cache : List ℕ) (long : length cache ≡ n * entry_words) (i : ℕ) (h : i < n) where
  length_before : length (before i cache) ≡ i * entry_words
  length_before = length-take-le (i * entry_words) cache (omega arith)

  entry_before : (j : ℕ) (r : List ℕ) → j < i → entry_at j (before i cache ++ r) ≡ entry_at j cache
  entry_before j r k =
      entry_in_front i j (before i cache) r length_before k
      ∙ sym (entry_in_front i j (before i cache) (drop (i * entry_words) cache) length_before k)
      ∙ ap (entry_at j) (take-append-drop (i * entry_words) cache)

  entry_after : (k j m : ℕ) (p : List ℕ) → length p ≡ k * entry_words → k ≤ j → j + suc i ≡ m + k
      → entry_at j (p ++ after i cache) ≡ entry_at m cache
  entry_after k j m p e le q =
      entry_behind k (j - k) j p (after i cache) e (omega arith) ∙ entry_of_after i (j - k) m cache (omega arith)

  -- An entry stored at rank i stands there; the others stay.
  module _ (e : CacheEntry) where
    put_splits : put_entry i e cache ≡ before i cache ++ words_of_entry e ++ after i cache
    put_splits = sets-eq (words_of_entry e) cache (i * entry_words) (omega arith)

    put_splits_behind : put_entry i e cache ≡ before i cache ++ (words_of_entry e ++ after i cache)
    put_splits_behind = put_splits ∙ append_assoc (before i cache) (words_of_entry e) (after i cache)

    length_through : length (before i cache ++ words_of_entry e) ≡ suc i * entry_words
    length_through = length-append (before i cache) (words_of_entry e) ∙ omega (arith, length_before)

    put_words : entry_at i (put_entry i e cache) ≡ words_of_entry e
    put_words =
        ap (entry_at i) put_splits_behind
        ∙ ap (take entry_words) (drop_at (before i cache) (words_of_entry e ++ after i cache) (i * entry_words) length_before)

    without_put : without i (put_entry i e cache) ≡ without i cache
    without_put = cc (front, rest)
      where
        front : before i (put_entry i e cache) ≡ before i cache
        front =
            ap (before i) put_splits_behind
            ∙ take_at (before i cache) (words_of_entry e ++ after i cache) (i * entry_words) length_before

        rest : after i (put_entry i e cache) ≡ after i cache
        rest =
            ap (after i) put_splits
            ∙ drop_at (before i cache ++ words_of_entry e) (after i cache) (i * entry_words + entry_words)
            (omega (arith, length_through))

    put_elsewhere : (j : ℕ) → j ≢ i → entry j (put_entry i e cache) ≡ entry j cache
    put_elsewhere j k =
        same_entry j (put_entry i e cache) j cache
        (below? j i
        (λ b. ap (entry_at j) put_splits_behind ∙ entry_before j (words_of_entry e ++ after i cache) b)
        (λ b. ap (entry_at j) put_splits
        ∙ entry_after (suc i) j j (before i cache ++ words_of_entry e) length_through (omega arith) refl))

    pub put_stores : Stores n i e cache (put_entry i e cache)
    put_stores =
        record {
          long = length-sets cache (i * entry_words) (words_of_entry e) ∙ long;
          here = entry_is i (put_entry i e cache) e put_words;
          elsewhere = put_elsewhere;
        }

  -- Another place for the entry at rank i: it is as if its logical page were stored anew.
  pub placed_stores : (l place : ℕ) → logical_at i cache ≡ l
      → Stores n i (record { logical = l; physical = place; changed = 1 }) cache (placed i place cache)
  placed_stores l place q =
      let again = put_stores (record { logical = logical_at i cache; physical = place; changed = 1 }) in
      rw (add-one, ← q) (rw (set-get_or cache (i * entry_words) none) at again)

  -- The entry at rank i comes to the front, and those before it are one rank further back.
  length_entry : length (entry_at i cache) ≡ entry_words
  length_entry = length-take-le entry_words (drop (i * entry_words) cache) (omega (arith, length-drop (i * entry_words) cache))

  pub length_to_front : length (to_front i cache) ≡ n * entry_words
  length_to_front = simp (length-append, length-take, length-drop) (omega arith)

  pub to_front_entry : (j : ℕ) → entry j (to_front i cache) ≡ entry (rank_before i j) cache
  to_front_entry zero =
      same_entry 0 (to_front i cache) i cache (take_at (entry_at i cache) (without i cache) entry_words length_entry)
  to_front_entry (suc j) =
      same_entry (suc j) (to_front i cache) (rank_before i (suc j)) cache
      (entry_behind 1 j (suc j) (entry_at i cache) (without i cache) length_entry (omega arith)
      ∙ below? j i
      (λ b. rw (lt-ltb j i b) (entry_before j (after i cache) b))
      (λ b. rw (le-ltb j i b) (entry_after i j (suc j) (before i cache) length_before b (omega arith))))

  -- A new entry in front, in the place of the one at rank i: it is stored there, and brought to the front.
  pub new_in_front : (e : CacheEntry) → words_of_entry e ++ without i cache ≡ to_front i (put_entry i e cache)
  new_in_front e = sym (ap (λ x. x ++ without i (put_entry i e cache)) (put_words e) ∙ ap (λ x. words_of_entry e ++ x) (without_put e))
