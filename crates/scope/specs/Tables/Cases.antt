-- Single cases by computation: each rule broken alone, sound states that format does not reach, runs with refused records among good
-- ones, wrong lengths, and the calls as C makes them.
use Rattle.std.specs.Prelude.{ℕ, ◌≡◌, refl, Bool, true, false, ◌&&◌, List, [], ◌∷◌, set, replicate}
use Rattle.scope.specs.Regions.{Data, Translation}
use Rattle.scope.specs.SmallRecord.{words_from, with_open, with_used, with_protected, open_block, next_offset}
use Rattle.scope.specs.Lent.{none, valid, State, with_flash, with_directory, with_cache, with_small}
use Rattle.scope.specs.Decisions.{pages_fit, owners_differ, blocks_fit, directory_names, entries_fit, protected_fit, places_hold, unchanged_agree, sound}
use Rattle.scope.specs.Operations.{Outcome, counted}
use Rattle.scope.specs.Replies.{DONE, UNWRITTEN, LENGTH, DAMAGED, KIND, PAGE}
use Rattle.scope.specs.Calls.{RunReplied, check, read, run}
use Rattle.scope.specs.Boundary.{Words, InWords, words_of_counts, requests_of, in_words, tf_write, tf_run}
use Rattle.scope.specs.Tables.Play.{computed, W, R, formatted, play}
use Rattle.scope.specs.Tables.Session.{G, input}

-- The seven rules of G, one by one.
unfoldable pub rules : State → List Bool
rules s =
    (pages_fit G Data s.chip s.spare && pages_fit G Translation s.chip s.spare)
    ∷ (owners_differ G Data s.spare && owners_differ G Translation s.spare)
    ∷ (blocks_fit G Data s.spare (open_block Data s.small) (next_offset Data s.small)
    && blocks_fit G Translation s.spare (open_block Translation s.small) (next_offset Translation s.small))
    ∷ directory_names G s.spare s.directory
    ∷ (entries_fit G s.cache s.small.used && protected_fit G s.small)
    ∷ places_hold G s
    ∷ unchanged_agree G s
    ∷ []

-- The state of 01's session afterwards, and a fresh one.
unfoldable pub played : State
played = (play G input (formatted G)).left

unfoldable pub fresh_state : State
fresh_state = formatted G

abbrev pub with_chip_word : ℕ → ℕ → State → State
with_chip_word i x s = with_flash (set s.chip i x) s.spare s

abbrev pub with_spare_word : ℕ → ℕ → State → State
with_spare_word i x s = with_flash s.chip (set s.spare i x) s

-- One word changed, and exactly one rule broken.
pub record BrokenAlone : Type 0 where
  -- A word of an erased page.
  pub rule_1 : false ∷ true ∷ true ∷ true ∷ true ∷ true ∷ true ∷ [] ≡ rules (with_chip_word 8 5 played)
  -- An invalid page is valid again, beside the one that has its owner now.
  pub rule_2 : true ∷ false ∷ true ∷ true ∷ true ∷ true ∷ true ∷ [] ≡ rules (with_spare_word 4 valid played)
  -- The next offset names a programmed page.
  pub rule_3 : true ∷ true ∷ false ∷ true ∷ true ∷ true ∷ true ∷ []
      ≡ rules (with_small (with_open Data 0 1 played.small) played)
  -- The directory names an erased page.
  pub rule_4 : true ∷ true ∷ true ∷ false ∷ true ∷ true ∷ true ∷ [] ≡ rules (with_directory (8 ∷ none ∷ []) fresh_state)
  -- An unused entry has a word.
  pub rule_5 : true ∷ true ∷ true ∷ true ∷ false ∷ true ∷ true ∷ [] ≡ rules (with_cache (none ∷ 0 ∷ none ∷ []) fresh_state)
  -- Of one entry one is protected.
  pub rule_5_protected : true ∷ true ∷ true ∷ true ∷ false ∷ true ∷ true ∷ []
      ≡ rules (with_small (with_protected 1 played.small) played)
  -- A word past L.
  pub rule_6 : true ∷ true ∷ true ∷ true ∷ true ∷ false ∷ true ∷ [] ≡ rules (with_chip_word 19 0 played)
  -- The cached entry is no longer marked as changed.
  pub rule_7 : true ∷ true ∷ true ∷ true ∷ true ∷ true ∷ false ∷ [] ≡ rules (with_cache (0 ∷ 1 ∷ 0 ∷ []) played)
  -- A used count past everything.
  pub any_used : false ≡ sound G (with_small (with_used 4294967295 played.small) played)
  pub damaged : DAMAGED ≡ (check G [] (with_chip_word 8 5 played)).value

pub rules_are_told_apart : BrokenAlone
unfolding computed rules played fresh_state
rules_are_told_apart =
    record {
      rule_1 = refl;
      rule_2 = refl;
      rule_3 = refl;
      rule_4 = refl;
      rule_5 = refl;
      rule_5_protected = refl;
      rule_6 = refl;
      rule_7 = refl;
      any_used = refl;
      damaged = refl;
    }

-- Sound states that format does not reach.
unfoldable pub stale : State
stale = with_chip_word 4 77 (with_chip_word 22 4000000000 (with_spare_word 17 1 played))

unfoldable pub changed_nowhere : State
changed_nowhere = with_cache (2 ∷ none ∷ 1 ∷ []) (with_small (with_used 1 fresh_state.small) fresh_state)

pub record OddAndSound : Type 0 where
  -- Words and owners of invalid pages, and the translation word behind a changed entry, are bound by no rule.
  pub stale_words : (0 ∷ 1 ∷ 0 ∷ 0 ∷ 15 ∷ []) ∷ (0 ∷ 4 ∷ 2 ∷ 1 ∷ 13 ∷ []) ∷ (0 ∷ 2 ∷ 0 ∷ 0 ∷ 15 ∷ []) ∷ []
      ≡ (play G (R 0 ∷ R 2 ∷ R 0 ∷ []) stale).lines
  -- A changed entry may name *none*: it is written back as *none*.
  pub changed_none : (0 ∷ 0 ∷ 2 ∷ 0 ∷ []) ∷ (1 ∷ 1 ∷ 1 ∷ 0 ∷ []) ∷ []
      ≡ (play G (W 0 10 ∷ R 2 ∷ []) changed_nowhere).lines

pub odd_states_go_on : OddAndSound
unfolding computed played fresh_state stale changed_nowhere
odd_states_go_on = record { stale_words = refl; changed_none = refl }

-- A run's answers, data and counts, and the run's own number.
unfoldable pub told_of_run : Outcome RunReplied → List (List ℕ)
told_of_run o =
    (o.value.reply ∷ []) ∷ o.value.answers ∷ o.value.words ∷ words_of_counts (counted o.did) ∷ []

unfoldable pub told_of_run_in_words : InWords RunReplied → List (List ℕ)
told_of_run_in_words a =
    (a.answer.reply ∷ []) ∷ a.answer.answers ∷ a.answer.words ∷ a.lent.small ∷ a.lent.counts ∷ []

unfoldable pub in_C : List ℕ → Words
in_C counts =
    record {
      chip = fresh_state.chip;
      spare = fresh_state.spare;
      directory = fresh_state.directory;
      cache = fresh_state.cache;
      small = words_from fresh_state.small;
      counts = counts;
    }

-- A write, a read of it, a kind that is none, a page past L, and a page never written.
abbrev pub requests : List ℕ
requests = 1 ∷ 0 ∷ 0 ∷ 0 ∷ 2 ∷ 1 ∷ 0 ∷ 3 ∷ 0 ∷ 2 ∷ []

pub record RunsAndWords : Type 0 where
  pub records_answer_alone :
      (DONE ∷ []) ∷ (DONE ∷ DONE ∷ KIND ∷ PAGE ∷ UNWRITTEN ∷ [])
      ∷ (5 ∷ 6 ∷ 5 ∷ 6 ∷ 9 ∷ 9 ∷ 9 ∷ 9 ∷ 9 ∷ 9 ∷ []) ∷ (1 ∷ 2 ∷ 0 ∷ []) ∷ []
      ≡ told_of_run (run G [] (requests_of requests) (5 ∷ 6 ∷ replicate 8 9) (replicate 5 7) fresh_state)
  pub empty_run : (DONE ∷ []) ∷ [] ∷ [] ∷ (0 ∷ 0 ∷ 0 ∷ []) ∷ [] ≡ told_of_run (run G [] [] [] [] fresh_state)
  pub too_many : LENGTH
      ≡ (run G [] (replicate 1025 (record { kind = 0; page = 0 })) (replicate 2050 9) (replicate 1025 7) fresh_state).value.reply
  pub short_buffer : LENGTH ≡ (read G [] 0 (9 ∷ []) fresh_state).value.reply
  -- In words: an odd number of request words is LENGTH, and the counts are written all the same.
  pub odd_words : (LENGTH ∷ []) ∷ (7 ∷ []) ∷ (5 ∷ 6 ∷ []) ∷ (0 ∷ 0 ∷ 3 ∷ 0 ∷ 0 ∷ 0 ∷ []) ∷ (0 ∷ 0 ∷ 0 ∷ []) ∷ []
      ≡ told_of_run_in_words (tf_run G (in_C (8 ∷ 8 ∷ 8 ∷ [])) (1 ∷ 0 ∷ 0 ∷ []) (5 ∷ 6 ∷ []) (7 ∷ []))
  pub in_words : (DONE ∷ []) ∷ (DONE ∷ []) ∷ (5 ∷ 6 ∷ []) ∷ (0 ∷ 1 ∷ 3 ∷ 0 ∷ 1 ∷ 0 ∷ []) ∷ (0 ∷ 1 ∷ 0 ∷ []) ∷ []
      ≡ told_of_run_in_words (tf_run G (in_C (8 ∷ 8 ∷ 8 ∷ [])) (1 ∷ 0 ∷ []) (5 ∷ 6 ∷ []) (7 ∷ []))
  -- Counts of another length than three are LENGTH, and nothing is written there.
  pub two_counts : LENGTH ∷ 8 ∷ 8 ∷ []
      ≡ (let a = tf_write G 0 (in_C (8 ∷ 8 ∷ [])) (5 ∷ 6 ∷ []) in a.answer.reply ∷ a.lent.counts)

pub runs_are_as_said : RunsAndWords
unfolding computed fresh_state told_of_run told_of_run_in_words in_C requests_of in_words tf_run tf_write
runs_are_as_said =
    record {
      records_answer_alone = refl;
      empty_run = refl;
      too_many = refl;
      short_buffer = refl;
      odd_words = refl;
      in_words = refl;
      two_counts = refl;
    }
