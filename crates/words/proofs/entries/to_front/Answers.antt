-- `words::entries::to_front` meets its contract: the entry's own words are put in front.
use Prim.Native.Nat.{◌*◌}
use Rattle.words.specs.Entries.{three_read}
use Rattle.scope.specs.Lent.{entry_words}
use Rattle.scope.specs.Cache.{without}
use Rattle.words.proofs.entries.to_front.Goals as goal

pub returns : goal.returns
returns c = let cache = c.args.cache.now in
    let i = c.args.i in
    three_read cache _ (without i cache) (i * entry_words) c.requires c.put_front.ensures
