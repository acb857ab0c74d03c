-- 01, "The steps": read and write, with their answer, and format: what a call makes once its tests have passed.
use Rattle.std.specs.Prelude.{ℕ, List, replicate}
use Rattle.scope.specs.Geometry.{Geometry, blocks}
use Rattle.scope.specs.SmallRecord.{fresh}
use Rattle.scope.specs.Lent.{none, Entry, Place, Nowhere, decode, directory_size, cache_size, physical_at}
use Rattle.scope.specs.Regions.{Data}
use Rattle.scope.specs.Operations.{Step, Erase, give, look, perform, set_directory, set_cache, set_small, for, ◌>>=◌, ◌>>◌}
use Rattle.scope.specs.Room.{read_page, program_next, make_room}
use Rattle.scope.specs.Cache.{set_entry}
use Rattle.scope.specs.Steps.{mark_old, cache_follows, translate}
use Rattle.scope.specs.Replies.{DONE, UNWRITTEN}

-- The answer to a read or a write: its number, and the page buffer's words after it.
pub record Replied : Type 0 where
  pub reply : ℕ
  pub buffer : List ℕ

abbrev pub replied : List ℕ → ℕ → Replied
replied buffer n = record { reply = n; buffer = buffer }

-- Read l. "Translate; *none* answers UNWRITTEN; else read the page." "Read DONE fills the page buffer."
unfoldable pub read_place : Geometry → List ℕ → Entry → Step Replied
read_place g buffer (Place p) = do
  words ← read_page g p
  give (replied words DONE)
read_place g buffer Nowhere = give (replied buffer UNWRITTEN)

unfoldable pub read_steps : Geometry → ℕ → List ℕ → Step Replied
read_steps g l buffer = do
  i ← translate g l
  place ← look (λ s. decode (physical_at i s.cache))
  read_place g buffer place

-- Write l. "Translate; make room in the data region; program the next page with owner l; mark invalid the page that the cached
-- entry names now, if any; set the entry, changed." "A write leaves" the page buffer.
unfoldable pub write_steps : Geometry → ℕ → List ℕ → Step Replied
write_steps g l buffer = do
  i ← translate g l
  make_room g Data (cache_follows g)
  q ← program_next g Data l buffer
  old ← look (λ s. decode (physical_at i s.cache))
  mark_old g old
  set_entry i q
  give (replied buffer DONE)

-- Format. "All pages erased, directory and cache *none*, open blocks 0 and D, offsets and used entries 0. Counts 0, 0, D+T."
unfoldable pub format_steps : Geometry → Step ℕ
format_steps g = do
  for (blocks g) (λ b. perform g (Erase b))
  set_directory (λ s. replicate (directory_size g) none)
  set_cache (λ s. replicate (cache_size g) none)
  set_small (λ r. fresh g)
  give DONE
