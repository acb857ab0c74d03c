-- Update: the law of the one step that writes translation pages. It keeps the index, sets what flash stores for its mappings, leaves
-- the data region, the cache and the used entries, and costs at most 2P+1.
use Rattle.std.specs.Prelude.{ℕ, ◌+◌, ◌*◌, ◌≤◌, ◌<◌, ◌≡◌, refl, ◌≢◌, get_or, set}
use Rattle.std.proofs.Common.{sym, ◌∙◌, ap, subst, arith, length-set, get_or-set_same, get_or-set_other}
use mathlib.Core.List.{List, [], ◌++◌}
use Rattle.std.proofs.Math.ListN.{length}
use Rattle.std.proofs.lemmas.List.{length-replicate, get_or-replicate}
use Rattle.scope.specs.Geometry.{Geometry, Accepted, M}
use Rattle.scope.specs.Lent.{none, Entry, Place, Nowhere, State, Mapping, named, with_directory, translation_page, translation_word}
use Rattle.scope.specs.Regions.{Region, owners, Translation}
use Rattle.scope.specs.SmallRecord.{open_block, next_offset}
use Rattle.scope.specs.Sound.{Names}
use Rattle.scope.specs.Operations.{Read, Outcome, Step, apply, give, look, perform, set_directory, counted, ◌>>=◌}
use Rattle.scope.specs.Room.{read_page, program_next, make_room}
use Rattle.scope.specs.Steps.{directory_names_it, directory_follows, begun, set_words, mark_old, update}
use Rattle.flash.specs.Moments.{cost}
use Rattle.flash.specs.Bounded.{accepted_region}
use Rattle.scope.specs.Laws.Applied.{flash_as}
use Rattle.flash.specs.Cases.{same?}
use Rattle.flash.specs.Lengths.{Lengths, lengths_with_directory, length_words_of}
use Rattle.flash.specs.Places.{page_on_chip}
use Rattle.flash.specs.Heads.{rest_same, rest_trans}
use Rattle.flash.specs.SamePages.{same_refl, same_trans}
use Rattle.flash.specs.Listed.{cost_++, cost_none}
use Rattle.region.specs.Holds.{Holds, Besides, Renames, contents}
use Rattle.region.specs.Done.{Done, done_none, done_one, done_then}
use Rattle.region.specs.NextPage.{next_page, PageWritten, page_written}
use Rattle.region.specs.DirectoryFollows.{in_directory, TranslationOnly, TranslationRoom, translation_room_law}
use Rattle.cache.specs.Current.{stored_in}
use Rattle.cache.specs.Waiting.{latest}
use Rattle.promises.specs.Index.{page_below, word_below}
use Rattle.promises.specs.Stored.{table, NonePastL, stored_is, MappingsOf, length_set_words, set_words_at, set_words_past}
use Rattle.promises.specs.Parts.{IndexFits}

-- What no step on the index changes: one such step after another.
pub only_refl : {g : Geometry} {s : State} → TranslationOnly g s s
only_refl = record { data_pages = same_refl; cache = refl; rest = rest_same Translation refl }

pub only_trans : {g : Geometry} {s s' s'' : State} → TranslationOnly g s s' → TranslationOnly g s' s'' → TranslationOnly g s s''
only_trans a b =
    record {
      data_pages = same_trans a.data_pages b.data_pages;
      cache = b.cache ∙ a.cache;
      rest = rest_trans a.rest b.rest;
    }

-- A page has been written, and the region holds under the map that names it.
pub written_holds : {g : Geometry} {r : Region} {k : ℕ} {words : List ℕ} {view : ℕ → ℕ} {s : State} {q : Outcome ℕ}
    {o : Outcome (Unit {0})}
    → PageWritten g r k words view s q o → Besides g r s.spare (open_block r s.small)
    → (view' : ℕ → ℕ) → Renames (owners g r) k (next_page g r s) view view' → Holds g r o.after view'
written_holds w besides view' renames =
    rw (w.opened, w.offset) (record {
      fits = w.replacement.fits;
      besides = w.replacement.besides besides;
      maps = w.replacement.maps view' renames;
    })

-- ---- the page read, or begun with

-- The words that an update begins with: W of them, those of the page that the directory names, *none* where there is none.
record Begun (g : Geometry) (e : Entry) (s : State) (o : Outcome (List ℕ)) : Type 0 where
  long : length o.value ≡ g.W
  word : (i : ℕ) → i < g.W → get_or o.value i none ≡ get_or (contents g s.chip e) i none
  same : o.after ≡ s
  done : Done g s o.did o.after
  costs : cost o.did ≤ 1

begun_law : (g : Geometry) (t : ℕ) (e : Entry) (s : State) → Lengths g s → Names g Translation s.spare t e
    → Begun g e s (begun g e s)
unfolding begun read_page perform look give counted apply ◌>>=◌
begun_law g t (Place p) s len names =
    record {
      long = length_words_of g p s.chip (page_on_chip g Translation p names.0) len.chip_fits;
      word = λ i h. refl;
      same = refl;
      done = done_one g (Read p) tt;
      costs = omega arith;
    }
begun_law g t Nowhere s len names =
    record {
      long = length-replicate g.W none;
      word = λ i h. get_or-replicate g.W i none none h;
      same = refl;
      done = done_none g (flash_as refl);
      costs = omega arith;
    }

-- ---- the page written and named

-- The last three steps of an update.
unfoldable pub writing : Geometry → ℕ → Entry → List ℕ → Step (Unit {0})
writing g t former words = program_next g Translation t words >>= (λ q. mark_old g former >>= (λ _. directory_names_it t q))

record PageSet (g : Geometry) (t : ℕ) (words : List ℕ) (s : State) (o : Outcome (Unit {0})) : Type 0 where
  pages : Holds g Translation o.after (in_directory o.after.directory)
  written : table g o.after.chip o.after.directory t ≡ words
  keeps : (k : ℕ) → k < M g → k ≢ t → table g o.after.chip o.after.directory k ≡ table g s.chip s.directory k
  only : TranslationOnly g s o.after
  lengths : Lengths g o.after
  done : Done g s o.did o.after
  costs : cost o.did ≡ 1

module _ (g : Geometry) (t : ℕ) (words : List ℕ) (s : State) (len : Lengths g s)
    (holds : Holds g Translation s (in_directory s.directory)) (below : t < M g) where
  -- Program and mark have been made, and the directory names the new page.
  named_law : (q : Outcome ℕ) (o : Outcome (Unit {0})) → PageWritten g Translation t words (in_directory s.directory) s q o
      → PageSet g t words s
      (record {
        value = tt;
        after = with_directory (set o.after.directory t q.value) o.after;
        did = q.did ++ (o.did ++ []);
      })
  named_law q o w =
      record {
        pages = written_holds w holds.besides view renames;
        written = w.replacement.written view renames;
        keeps = w.replacement.keeps view renames;
        only =
            record {
              data_pages = w.replacement.elsewhere;
              cache = w.cache;
              rest = w.rest;
            };
        lengths = lengths_with_directory o.after w.lengths
            (length-set o.after.directory t q.value ∙ w.lengths.directory_fits);
        done = done_then w.programmed (done_then w.marked (done_none g (flash_as refl)));
        costs = cost_++ q.did (o.did ++ []) ∙ omega (arith, cost_++ o.did [], cost_none, w.costs_program, w.costs_mark);
      }
    where
      view : ℕ → ℕ
      view k = get_or (set o.after.directory t q.value) k none

      renames : Renames (M g) t (next_page g Translation s) (in_directory s.directory) view
      renames =
          record {
            there = get_or-set_same o.after.directory t q.value none (omega (arith, w.lengths.directory_fits)) ∙ w.value;
            elsewhere = λ j h apart. get_or-set_other o.after.directory t j q.value none apart
                ∙ ap (λ d. get_or d j none) w.directory;
          }

  writing_law : (former : Entry) → Accepted g → next_offset Translation s.small < g.P → length words ≡ g.W
      → named t s.directory ≡ former → PageSet g t words s (writing g t former words s)
  unfolding writing directory_names_it set_directory ◌>>=◌
  writing_law former ok room long e =
      named_law (program_next g Translation t words s) (mark_old g former (program_next g Translation t words s).after)
      (page_written g Translation t words (in_directory s.directory) s (accepted_region ok Translation) len long holds.fits room
      holds.maps below former e)

-- ---- update

abbrev pub update_bound : Geometry → ℕ
update_bound g = 2 * g.P + 1

-- What update promises, with at most `bound` operations.
pub record Updated (g : Geometry) (t : ℕ) (ms : List Mapping) (bound : ℕ) (s : State) (o : Outcome (Unit {0})) : Type 0 where
  pub index : IndexFits g o.after
  -- What flash stores: of a logical page of translation page t, what its last mapping says, if any does.
  pub here : (l : ℕ) → l < g.L → translation_page g l ≡ t → stored_in g o.after l ≡ latest ms l (stored_in g s l)
  pub elsewhere : (l : ℕ) → l < g.L → translation_page g l ≢ t → stored_in g o.after l ≡ stored_in g s l
  pub only : TranslationOnly g s o.after
  pub lengths : Lengths g o.after
  pub done : Done g s o.did o.after
  pub costs : cost o.did ≤ bound

module _ {g : Geometry} (ok : Accepted g) (t : ℕ) (ms : List Mapping) (s : State) (index : IndexFits g s) (below : t < M g)
    (of_t : MappingsOf g t ms) where
  -- Room made, the words begun with, and the page written: what flash stores then.
  together : (room : Outcome (Unit {0})) (b : Outcome (List ℕ)) (o : Outcome (Unit {0})) → TranslationRoom g s room
      → Begun g (named t room.after.directory) room.after b → PageSet g t (set_words g ms b.value) b.after o
      → Updated g t ms (update_bound g) s (record { value = tt; after = o.after; did = room.did ++ (b.did ++ o.did) })
  together room b o r begins page =
      record {
        index = record { pages = page.pages; past_L = past };
        here = λ l h e. stored_is ok o.after.chip o.after.directory l ∙ ap (λ (k : ℕ). word_in (table' k) l) e
            ∙ ap (λ (words : List ℕ). word_in words l) page.written
            ∙ set_words_at ok t ms b.value of_t begins.long l e
            ∙ ap (latest ms l)
            (begun_word (translation_word g l) (word_below ok l)
            ∙ ap (λ (k : ℕ). word_in (table g s.chip s.directory k) l) (sym e)
            ∙ sym (stored_is ok s.chip s.directory l));
        elsewhere = λ l h e. stored_is ok o.after.chip o.after.directory l
            ∙ ap (λ (words : List ℕ). word_in words l) (kept (translation_page g l) (page_below ok l h) e)
            ∙ sym (stored_is ok s.chip s.directory l);
        only = only_trans r.only (subst (λ x. TranslationOnly g x o.after) begins.same page.only);
        lengths = page.lengths;
        done = done_then r.done (done_then begins.done page.done);
        costs = omega (
          arith,
          cost_++ room.did (b.did ++ o.did),
          cost_++ b.did o.did,
          r.costs,
          begins.costs,
          page.costs,
          ok.P_from,
        );
      }
    where
      word_in : List ℕ → ℕ → ℕ
      word_in words l = get_or words (translation_word g l) none

      table' : ℕ → List ℕ
      table' k = table g o.after.chip o.after.directory k

      kept : (k : ℕ) → k < M g → k ≢ t → table' k ≡ table g s.chip s.directory k
      kept k h apart = page.keeps k h apart ∙ ap (λ (x : State). table g x.chip x.directory k) begins.same
          ∙ r.keeps k h

      begun_word : (i : ℕ) → i < g.W → get_or b.value i none ≡ get_or (table g s.chip s.directory t) i none
      begun_word i h = begins.word i h ∙ ap (λ (words : List ℕ). get_or words i none) (r.keeps t below)

      past : NonePastL g o.after.chip o.after.directory
      past k i h l m =
          same? k t
          (λ e.
          ap (λ (x : ℕ). get_or (table' x) i none) e ∙ ap (λ (words : List ℕ). get_or words i none) page.written
          ∙ set_words_past ok t ms b.value of_t i l (omega (arith, ap (λ (x : ℕ). x * g.W) e))
          ∙ begun_word i l ∙ index.past_L t i below l (omega (arith, ap (λ (x : ℕ). x * g.W) e)))
          (λ e. ap (λ (words : List ℕ). get_or words i none) (kept k h e) ∙ index.past_L k i h l m)

  pub update_law : Lengths g s → Updated g t ms (update_bound g) s (update g t ms s)
  unfolding update writing look ◌>>=◌
  update_law len =
      let r = translation_room_law g s ok len index.pages in
      let room = make_room g Translation directory_follows s in
      let former = named t room.after.directory in
      let b = begun g former room.after in
      let begins = begun_law g t former room.after r.lengths (r.holds.maps.names t below) in
      together room b (writing g t former (set_words g ms b.value) b.after) r begins
      (written room r b.after begins.same (set_words g ms b.value) (length_set_words g ms b.value ∙ begins.long))
    where
      written : (room : Outcome (Unit {0})) → TranslationRoom g s room → (x : State) → x ≡ room.after → (words : List ℕ)
          → length words ≡ g.W
          → PageSet g t words x (writing g t (named t room.after.directory) words x)
      written room r x e words long =
          writing_law g t words x (subst (Lengths g) (sym e) r.lengths)
          (subst (λ y. Holds g Translation y (in_directory y.directory)) (sym e) r.holds) below
          (named t room.after.directory) ok (subst (λ y. next_offset Translation y.small < g.P) (sym e) r.room) long
          (ap (λ y. named t y.directory) e)
