-- 01, "The steps": what follows a moved page in each region, update and translate.
use Rattle.std.specs.Prelude.{ℕ, cond, List, [], ◌∷◌, eqb, ltb, get_or, set, replicate}
use Rattle.scope.specs.Geometry.{Geometry, M}
use Rattle.scope.specs.Lent.{none, Entry, Place, Nowhere, Mapping, named, logical_at, translation_page, translation_word}
use Rattle.scope.specs.Regions.{Translation}
use Rattle.scope.specs.Sound.{rank_of}
use Rattle.scope.specs.Operations.{Step, Mark, give, look, perform, nothing, set_directory, for, ◌>>=◌, ◌>>◌}
use Rattle.scope.specs.Room.{Following, read_page, program_next, make_room}
use Rattle.scope.specs.Cache.{touch, enter, dropped, forget, is_changed, changed_of, become_unchanged, set_entry}

-- "Translation region: the directory follows at once."
unfoldable pub directory_names_it : ℕ → ℕ → Step (Unit {0})
directory_names_it t p = set_directory (λ s. set s.directory t p)

abbrev pub directory_follows : Following
directory_follows =
    record {
      moved = λ t p. directory_names_it t p >> give [];
      settled = λ waiting. nothing;
    }

-- "If the directory names a page, read it, else begin with W times *none*."
unfoldable pub begun : Geometry → Entry → Step (List ℕ)
begun g (Place p) = read_page g p
begun g Nowhere = give (replicate g.W none)

-- "Set the words": word l mod W of the translation page, for each mapping.
unfoldable pub set_words : Geometry → List Mapping → List ℕ → List ℕ
set_words g [] words = words
set_words g (m ∷ ms) words = set_words g ms (set words (translation_word g m.logical) m.physical)

-- "Mark the former page invalid", if there is one.
unfoldable pub mark_old : Geometry → Entry → Step (Unit {0})
mark_old g (Place p) = perform g (Mark p)
mark_old g Nowhere = nothing

-- Update translation page t. "Make room in the translation region; then, if the directory names a page, read it, else begin with W
-- times *none*; set the words; program the open block's next page with owner t; mark the former page invalid; set the directory."
unfoldable pub update : Geometry → ℕ → List Mapping → Step (Unit {0})
update g t mappings = do
  make_room g Translation directory_follows
  former ← look (λ s. named t s.directory)
  words ← begun g former
  q ← program_next g Translation t (set_words g mappings words)
  mark_old g former
  directory_names_it t q

-- Of the entries that wait, those of translation page t; it is updated if there are any.
unfoldable pub of_page : Geometry → ℕ → List Mapping → List Mapping
of_page g t [] = []
of_page g t (m ∷ ms) = cond (eqb (translation_page g m.logical) t) (m ∷ of_page g t ms) (of_page g t ms)

unfoldable pub update_touched : Geometry → ℕ → List Mapping → Step (Unit {0})
update_touched g t [] = nothing
update_touched g t (m ∷ ms) = update g t (m ∷ ms)

-- "Data region: if the owner is cached, its entry takes the new place and is changed, with its rank kept; the others wait"
unfoldable pub cache_or_wait : Geometry → ℕ → ℕ → Step (List Mapping)
cache_or_wait g l p = do
  i ← look (λ s. rank_of g s.cache s.small.used l)
  cond (ltb i g.C) (set_entry i p >> give []) (give (record { logical = l; physical = p } ∷ []))

-- "and after the last copy each touched translation page, in rising number, is updated once with all its moved entries."
unfoldable pub update_all : Geometry → List Mapping → Step (Unit {0})
update_all g waiting = for (M g) (λ t. update_touched g t (of_page g t waiting))

abbrev pub cache_follows : Geometry → Following
cache_follows g = record { moved = cache_or_wait g; settled = update_all g }

-- "Write it back". 02, P2: "When a changed entry is dropped, all changed cached entries of the same translation page are to be set in
-- that one update and become unchanged, ranks kept. This replaces 01's 'with that one entry'."
unfoldable pub write_back : Geometry → ℕ → Step (Unit {0})
write_back g i = do
  t ← look (λ s. translation_page g (logical_at i s.cache))
  mappings ← look (λ s. changed_of g t s.small.used s.cache)
  update g t mappings
  become_unchanged g t

-- "If all C entries are used, drop the last; if it is changed, first write it back." Which is the last, Cache.antt says.
unfoldable pub drop_entry : Geometry → Step (Unit {0})
drop_entry g = do
  i ← look dropped
  changed ← look (λ s. is_changed i s.cache)
  cond changed (write_back g i) nothing
  forget i

unfoldable pub drop_if_full : Geometry → Step (Unit {0})
drop_if_full g = do
  used ← look (λ s. s.small.used)
  cond (ltb used g.C) nothing (drop_entry g)

-- "If l's translation page exists, read it and take the word; else *none*, with no read."
unfoldable pub word_for : Geometry → ℕ → Entry → Step ℕ
word_for g l (Place q) = do
  words ← read_page g q
  give (get_or words (translation_word g l) none)
word_for g l Nowhere = give none

unfoldable pub fetch : Geometry → ℕ → Step ℕ
fetch g l = do
  page ← look (λ s. named (translation_page g l) s.directory)
  place ← word_for g l page
  enter l place

-- Translate l. 01: "A cached entry moves to the front. Otherwise, if all C entries are used, drop the last .. Then, if l's translation
-- page exists, read it and take the word .. Put the entry in front, unchanged." Where it moves and where it is put is 02's, P5. Its rank is
-- handed back.
unfoldable pub translate : Geometry → ℕ → Step ℕ
translate g l = do
  i ← look (λ s. rank_of g s.cache s.small.used l)
  cond (ltb i g.C) (touch g i) (drop_if_full g >> fetch g l)
