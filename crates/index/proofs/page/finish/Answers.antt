-- `index::page::finish` meets its contract: the last three steps of an update.
use Rattle.lent.specs.Model.{geometry}
use Rattle.index.specs.Writing.{write_does}
use Rattle.index.proofs.page.finish.Goals as goal

pub returns-clause-written : goal.returns-clause-written
returns-clause-written c =
    let claimed = c.claim_next-q.ensures.claimed in
    let marked = c.mark_old.ensures.spare_after in
    write_does (geometry c.args.flash.now.g) c.args.t c.named-former.ensures claimed marked c.names_it.ensures
