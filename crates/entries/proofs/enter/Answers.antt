-- `entries::enter` meets its contract: the trial part, with the entry in front, behind the protected one.
use Prim.Native.Nat.{◌-◌, ◌*◌}
use mathlib.Core.Path.{refl}
use Rattle.scope.specs.Lent.{entry_words}
use Rattle.entries.specs.Entries.{part_entered, enter_does}
use Rattle.entries.specs.Filter.{filter_gains}
use Rattle.entries.proofs.enter.Goals as goal

pub returns : goal.returns
returns c = let a = c.args in
    let (fits, few, before) = c.requires.used_in_cache in
    let stored = part_entered a.cache.now (a.work.now.rec.protected * entry_words) (a.work.now.rec.used - a.work.now.rec.protected) c.put_front.ensures refl in record {
      does_cache = enter_does refl a.l a.place stored refl;
      filter_after = filter_gains c.requires.filter a.work.now.rec.protected a.l a.place before fits refl c.bit_of.ensures
          c.put.ensures stored;
    }
