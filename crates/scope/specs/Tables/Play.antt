-- Sessions: lines as 01's program reads them, made as calls one after the other, and what they print. To unfold `computed` is to
-- unfold every definition that a call computes with, so that a table names this one alone.
use Rattle.std.specs.Prelude.{ℕ, cond, List, [], ◌∷◌, eqb, replicate, take}
use Rattle.scope.specs.Geometry.{Geometry, accepted}
use Rattle.scope.specs.SmallRecord.{record_words, record_of}
use Rattle.scope.specs.Lent.{State, chip_size, spare_size, directory_size, cache_size}
use Rattle.scope.specs.Decisions.{sound, page_fits, pages_fit, owners_differ, blocks_fit, directory_names, entries_fit, protected_fit, places_hold, unchanged_agree}
use Rattle.scope.specs.Sound.{rank_of, stored, current}
use Rattle.scope.specs.Operations.{Outcome, counted, apply, give, look, perform, set_directory, set_cache, set_small, for, ◌>>=◌}
use Rattle.scope.specs.Room.{read_page, program_next, erased_blocks, lowest_erased, victim, move_page, move_if_valid, move_pages, collect, open_lowest, open_or_collect, make_room}
use Rattle.scope.specs.Cache.{touch, enter, dropped, forget, changed_of, unchanged_of, become_unchanged, set_entry}
use Rattle.scope.specs.Steps.{directory_names_it, begun, set_words, mark_old, update, of_page, update_touched, cache_or_wait, update_all, write_back, drop_entry, drop_if_full, word_for, fetch, translate}
use Rattle.scope.specs.Replies.{DONE, first_applying, admit, right_sizes}
use Rattle.scope.specs.Requests.{Replied, read_place, read_steps, write_steps, format_steps}
use Rattle.scope.specs.Calls.{format, check, read, write, serve, answer_record, serve_record, serve_records, run}

-- `W page value`, which gives the value to all words of the page, or `R page`.
pub data Line : Type 0 where
  W : ℕ → ℕ → Line
  R : ℕ → Line

-- Lists of the right sizes and no meaning: what a program lends to its first format.
unfoldable pub unformatted : Geometry → State
unformatted g =
    record {
      chip = replicate (chip_size g) 7;
      spare = replicate (spare_size g) 7;
      directory = replicate (directory_size g) 7;
      cache = replicate (cache_size g) 7;
      small = record_of (replicate record_words 7);
    }

-- That first format, and the state that it leaves.
unfoldable pub first_format : Geometry → Outcome ℕ
first_format g = format g [] (unformatted g)

unfoldable pub formatted : Geometry → State
formatted g = (first_format g).after

unfoldable pub made : Geometry → Line → State → Outcome Replied
made g (W l value) = write g [] l (replicate g.W value)
made g (R l) = read g [] l (replicate g.W 0)

-- "Prints answer, three counts and, for a DONE read, the first word."
unfoldable pub first_word : Line → Replied → List ℕ
first_word (W l value) r = []
first_word (R l) r = cond (eqb r.reply DONE) (take 1 r.buffer) []

unfoldable pub printed : Line → Outcome Replied → List ℕ
printed l o =
    let c = counted o.did in
    o.value.reply ∷ c.reads ∷ c.programs ∷ c.erases ∷ first_word l o.value

-- What a session prints, line by line, and the state that it leaves.
pub record Played : Type 0 where
  pub lines : List (List ℕ)
  pub left : State

unfoldable pub play : Geometry → List Line → State → Played
play g [] s = record { lines = []; left = s }
play g (l ∷ ls) s =
    let o = made g l s in
    let rest = play g ls o.after in
    record { lines = printed l o ∷ rest.lines; left = rest.left }

-- x itself, where everything that a call computes with is unfolded.
unfoldable pub computed : {A : Type 0} → A → A
unfolding unformatted first_format formatted made first_word printed play format read write counted apply give look perform set_directory set_cache set_small for ◌>>=◌ read_page program_next erased_blocks lowest_erased victim move_page move_if_valid move_pages collect open_lowest open_or_collect make_room touch enter dropped forget changed_of unchanged_of become_unchanged set_entry directory_names_it begun set_words mark_old update of_page update_touched cache_or_wait update_all write_back drop_entry drop_if_full word_for fetch translate first_applying admit right_sizes read_place read_steps write_steps format_steps accepted sound page_fits pages_fit owners_differ blocks_fit directory_names entries_fit protected_fit places_hold unchanged_agree rank_of stored current check run serve answer_record serve_record serve_records
computed x = x
