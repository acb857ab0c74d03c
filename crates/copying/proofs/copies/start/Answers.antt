-- `copying::copies::start` meets its contract: the block opened lets the copies begin.
use Rattle.copying.specs.Starting.{copy_ready, started_does, started}
use Rattle.copying.proofs.copies.start.Goals as goal

pub copy_pages-requires : goal.copy_pages-requires
copy_pages-requires c =
    let opens = rw (c.blocks-2.ensures.same_geometry, c.blocks-2.ensures.same_spare) at c.open_lowest.ensures in
    record {
      copy_ready = copy_ready c.requires.collect_ready opens;
      moves_len = c.requires.moves_len;
    }

pub returns : goal.returns
returns c = let ready = c.requires.collect_ready in
    let opens = rw (c.blocks-2.ensures.same_geometry, c.blocks-2.ensures.same_spare) at c.open_lowest.ensures in
    let copies = c.copy_pages.ensures.does_flash in
    record {
      does_flash = record { does = started_does ready opens _ _ copies.does; same = copies.same };
      started = started ready opens _ _ copies.does;
      moves_len_kept = c.copy_pages.ensures.moves_len_kept;
    }
