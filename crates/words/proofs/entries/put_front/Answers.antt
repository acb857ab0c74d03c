-- `words::entries::put_front` meets its contract: the words that moved back, and the entry stored in front of them.
use Prim.Native.Nat.{◌*◌}
use Rattle.scope.specs.Lent.{entry_words}
use Rattle.words.specs.Entries.{put_in_front}
use Rattle.words.proofs.entries.put_front.Goals as goal

pub returns : goal.returns
returns c = let a = c.args in
    put_in_front a.cache.now _ _ (a.i * entry_words) a.logical a.physical a.changed c.requires
    c.shift_back.ensures c.store_three.ensures
