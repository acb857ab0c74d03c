-- 01's cache: its words, and its order behind a few definitions: what is dropped, where a found and where a new entry goes; and the entries
-- that 02's P2 writes back with a dropped one. The order is that of 02's P5, in place of 01's "least recently used": "a protected part .. and a
-- trial part", and "protected entries lie first". Translate knows no more of it than what stands here.
use Rattle.std.specs.Prelude.{ℕ, zero, suc, ◌+◌, ◌*◌, ◌-◌, Bool, cond, ◌&&◌, List, [], ◌∷◌, ◌++◌, eqb, ltb, set, take, drop}
use Rattle.std.proofs.lemmas.List.Edits.{sets}
use Rattle.scope.specs.Geometry.{Geometry}
use Rattle.scope.specs.SmallRecord.{with_used, with_protected}
use Rattle.scope.specs.Lent.{none, State, Mapping, entry_words, most_protected, logical_at, physical_at, changed_at, translation_page}
use Rattle.scope.specs.Operations.{Step, give, look, set_cache, set_small, ◌>>◌}

-- The entry at a rank, and the cache without it, those behind it one rank nearer.
abbrev pub entry_at : ℕ → List ℕ → List ℕ
entry_at i cache = take entry_words (drop (i * entry_words) cache)

abbrev pub without : ℕ → List ℕ → List ℕ
without i cache = take (i * entry_words) cache ++ drop (i * entry_words + entry_words) cache

-- The two parts of the cache; unused entries stand at the end of the second.
abbrev pub protected_part : State → List ℕ
protected_part s = take (s.small.protected * entry_words) s.cache

abbrev pub trial_part : State → List ℕ
trial_part s = drop (s.small.protected * entry_words) s.cache

-- "If protected is then over its limit, its last goes to the trial front": the list stays, and the border is one entry nearer.
abbrev pub within_limit : Geometry → ℕ → ℕ
within_limit g n = cond (ltb (most_protected g) n) (n - 1) n

-- How many are protected after a hit at rank i, where n were: one in protected stays there, one in trial comes to them.
abbrev pub protected_after : Geometry → ℕ → ℕ → ℕ
protected_after g i n = cond (ltb i n) n (within_limit g (suc n))

-- "A hit in trial moves to the protected front .. A hit in protected moves to its front": each moves to the front of the list. The rank that it
-- has then is handed back.
unfoldable pub touch : Geometry → ℕ → Step ℕ
touch g i = do
  set_cache (λ s. entry_at i s.cache ++ without i s.cache)
  set_small (λ r. with_protected (protected_after g i r.protected) r)
  give 0

-- "A miss enters at the trial front", unchanged, in the place of the first unused entry. The rank that it has is handed back.
unfoldable pub enter : ℕ → ℕ → Step ℕ
enter l place = do
  set_cache (λ s. protected_part s ++ (l ∷ place ∷ 0 ∷ without (s.small.used - s.small.protected) (trial_part s)))
  set_small (λ r. with_used (suc r.used) r)
  look (λ s. s.small.protected)

-- "The victim is the trial part's last": the rank of the entry that goes.
unfoldable pub dropped : State → ℕ
dropped s = s.small.used - 1

-- The entry at a rank is dropped: it becomes an unused one, *none* throughout.
unfoldable pub forget : ℕ → Step (Unit {0})
forget i = do
  set_cache (λ s. sets s.cache (i * entry_words) (none ∷ none ∷ none ∷ []))
  set_small (λ r. with_used (r.used - 1) r)

abbrev pub is_changed : ℕ → List ℕ → Bool
is_changed i cache = eqb (changed_at i cache) 1

-- The logical page of the entry at a rank, and the place that it names.
abbrev pub mapping_at : ℕ → List ℕ → Mapping
mapping_at i cache = record { logical = logical_at i cache; physical = physical_at i cache }

-- 02, P2: "all changed cached entries of the same translation page". Whether the entry at a rank is one of translation page t.
abbrev pub is_changed_of : Geometry → ℕ → ℕ → List ℕ → Bool
is_changed_of g t i cache = is_changed i cache && eqb (translation_page g (logical_at i cache)) t

-- They "are to be set in that one update", those at *none* too: what it sets, of the first n entries.
unfoldable pub changed_of : Geometry → ℕ → ℕ → List ℕ → List Mapping
changed_of g t zero cache = []
changed_of g t (suc n) cache =
    let before = changed_of g t n cache in
    cond (is_changed_of g t n cache) (mapping_at n cache ∷ before) before

-- "And become unchanged, ranks kept": the cache once those of the first n entries have.
unfoldable pub unchanged_of : Geometry → ℕ → ℕ → List ℕ → List ℕ
unchanged_of g t zero cache = cache
unchanged_of g t (suc n) cache =
    let before = unchanged_of g t n cache in
    cond (is_changed_of g t n cache) (set before (n * entry_words + 2) 0) before

unfoldable pub become_unchanged : Geometry → ℕ → Step (Unit {0})
become_unchanged g t = set_cache (λ s. unchanged_of g t s.small.used s.cache)

-- The entry at a rank names a new place and is changed, "with its rank kept".
unfoldable pub set_entry : ℕ → ℕ → Step (Unit {0})
set_entry i place = set_cache (λ s. sets s.cache (i * entry_words + 1) (place ∷ 1 ∷ []))
