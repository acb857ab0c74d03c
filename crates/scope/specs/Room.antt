-- 01, "The steps": make room and collect, once for both regions and for whatever follows a moved page.
use Rattle.std.specs.Prelude.{ℕ, zero, suc, ◌+◌, cond, List, [], ◌++◌, ltb, leb}
use Rattle.scope.specs.Counting.{count, lowest, fewest}
use Rattle.scope.specs.Geometry.{Geometry}
use Rattle.scope.specs.Lent.{State, Mapping, words_of, owner_of, is_valid}
use Rattle.scope.specs.Regions.{Region, first_block, region_blocks, page_in}
use Rattle.scope.specs.SmallRecord.{open_block, next_offset, opened, advanced}
use Rattle.scope.specs.Blocks.{wholly_erased, no_erased_page, valid_pages}
use Rattle.scope.specs.Operations.{Step, Read, Program, Mark, Erase, give, look, perform, nothing, set_small, ◌>>=◌, ◌>>◌}

-- What follows a page that a collection moved: `moved` its owner and its new place, at once, handing back what is to wait;
-- `settled` all that waited, after the last copy.
pub record Following : Type 0 where
  pub moved : ℕ → ℕ → Step (List Mapping)
  pub settled : List Mapping → Step (Unit {0})

-- A page is read.
unfoldable pub read_page : Geometry → ℕ → Step (List ℕ)
read_page g p = do
  perform g (Read p)
  look (λ s. words_of g p s.chip)

-- The open block's next page is programmed, and handed back.
unfoldable pub program_next : Geometry → Region → ℕ → List ℕ → Step ℕ
program_next g r owner words = do
  q ← look (λ s. page_in g (open_block r s.small) (next_offset r s.small))
  perform g (Program q owner words)
  set_small (advanced r)
  give q

-- How many blocks of the region are wholly erased, and the lowest of them.
unfoldable pub erased_blocks : Geometry → Region → State → ℕ
erased_blocks g r s = count (region_blocks g r) (λ i. wholly_erased g s.spare (first_block g r + i))

unfoldable pub lowest_erased : Geometry → Region → State → ℕ
lowest_erased g r s = first_block g r + lowest (region_blocks g r) (λ i. wholly_erased g s.spare (first_block g r + i))

-- "The victim is the block with no erased page that has the fewest valid pages, lowest number on a tie."
unfoldable pub victim : Geometry → Region → State → ℕ
victim g r s =
    first_block g r
    + fewest (region_blocks g r)
    (λ i. no_erased_page g s.spare (first_block g r + i))
    (λ i. valid_pages g s.spare (first_block g r + i))

-- "Each valid page is read, programmed with the same owner, and the old one marked invalid."
unfoldable pub move_page : Geometry → Region → Following → ℕ → Step (List Mapping)
move_page g r follow p = do
  owner ← look (λ s. owner_of p s.spare)
  words ← read_page g p
  q ← program_next g r owner words
  perform g (Mark p)
  follow.moved owner q

unfoldable pub move_if_valid : Geometry → Region → Following → ℕ → Step (List Mapping)
move_if_valid g r follow p = do
  v ← look (λ s. is_valid p s.spare)
  cond v (move_page g r follow p) (give [])

-- "In page order": the first n pages of block v, and what waits of them.
unfoldable pub move_pages : Geometry → Region → Following → ℕ → ℕ → Step (List Mapping)
move_pages g r follow v zero = give []
move_pages g r follow v (suc n) = do
  waiting ← move_pages g r follow v n
  more ← move_if_valid g r follow (page_in g v n)
  give (waiting ++ more)

-- The lowest wholly erased block becomes the open one.
unfoldable pub open_lowest : Geometry → Region → Step (Unit {0})
open_lowest g r = do
  b ← look (lowest_erased g r)
  set_small (opened r b)

-- Collect. "The one erased block becomes the open one. In page order each valid page is read, programmed with the same owner, and
-- the old one marked invalid .. and after the last copy .. Last, erase the victim."
unfoldable pub collect : Geometry → Region → Following → Step (Unit {0})
collect g r follow = do
  v ← look (victim g r)
  open_lowest g r
  waiting ← move_pages g r follow v g.P
  follow.settled waiting
  perform g (Erase v)

-- Make room in a region. "If the open block's offset is below P, nothing. Else, if two or more blocks are wholly erased, open the
-- lowest. Else collect."
unfoldable pub open_or_collect : Geometry → Region → Following → Step (Unit {0})
open_or_collect g r follow = do
  n ← look (erased_blocks g r)
  cond (leb 2 n) (open_lowest g r) (collect g r follow)

unfoldable pub make_room : Geometry → Region → Following → Step (Unit {0})
make_room g r follow = do
  offset ← look (λ s. next_offset r s.small)
  cond (ltb offset g.P) nothing (open_or_collect g r follow)
