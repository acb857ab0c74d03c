-- `index::update_page` meets its contract: the definition's steps, the words of all that waits for the page set in the one that is programmed.
use Rattle.std.proofs.Common.{◌∙◌}
use Rattle.steps.specs.Flash.{then_same}
use Rattle.index.specs.Index.{chip_of}
use Rattle.index.specs.Writing.{still_roomy, next_here, all_words, finish_ready, update_does}
use Rattle.index.proofs.update_page.Goals as goal

pub take_words-next-requires : goal.take_words-next-requires
take_words-next-requires c =
    let ready = c.requires.page_ready in
    let begun = c.begin-q.ensures in
    (chip_of (still_roomy ready begun.begins).lent, next_here ready begun.begins begun.next, c.requires.waits_in)

pub finish-requires : goal.finish-requires
finish-requires c =
    let begun = c.begin-q.ensures in
    rw begun.same.geometry_kept (finish_ready (still_roomy c.requires.page_ready begun.begins))

pub returns-clause-does_index : goal.returns-clause-does_index
returns-clause-does_index c =
    let begun = c.begin-q.ensures in
    let finished = c.finish.ensures in
    record {
      does = update_does _ begun.begins
          (all_words c.requires.page_ready begun.begins begun.next _ (finished.only_spare.words ∙ c.take_words-next.ensures.chip_after))
          (rw begun.same.geometry_kept at finished.written);
      same = then_same begun.same finished.only_spare.same;
    }
