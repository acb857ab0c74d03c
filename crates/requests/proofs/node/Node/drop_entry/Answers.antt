-- `requests::node::Node::drop_entry` meets its contract: the write-back leaves the number of used entries and the logical page of each.
use Prim.Native.Nat.{◌-◌}
use mathlib.Core.Path.{refl}
use native.Mathlib.Omega.{arith}
use Rattle.lent.specs.Ready.{left_by}
use Rattle.words.specs.Filter.{filter_of, filtered_of}
use Rattle.requests.specs.Translating.{written_keeps_used, written_fits, drop_entry_does}
use Rattle.requests.specs.Filtered.{forgotten_filter}
use Rattle.requests.specs.Node.{under}
use Rattle.requests.proofs.node.Node.drop_entry.Goals as goal

pub forget-requires : goal.forget-requires
forget-requires c = let (ready, some) = c.requires in
    let back = c.write_back_if_changed.ensures.does in
    let used = written_keeps_used ready (c.args.self.now.work.now.rec.used - 1) (omega (arith, some)) back in
    (omega (arith, some, ready.sound.rule_5.at_most, written_fits ready (c.args.self.now.work.now.rec.used - 1) (omega (arith, some)) back), omega (arith, some, used))

pub invariant_of-self : goal.invariant_of-self
invariant_of-self c = let (ready, some) = c.requires in
    let back = c.write_back_if_changed.ensures.does in
    let i = c.args.self.now.work.now.rec.used - 1 in
    let used = written_keeps_used ready i (omega (arith, some)) back in
    record {
      filtered = filtered_of (forgotten_filter {w = c.write_back_if_changed.new.self.work.now}
          (filter_of c.write_back_if_changed.new.self.filtered) _ (omega (arith, some, used)) c.forget.ensures);
    }

pub returns : goal.returns
returns c = let (ready, some) = c.requires in
    let back = c.write_back_if_changed.ensures in
    record {
      does = drop_entry_does (under c.args.self.now) _ refl refl back.does (c.forget.ensures (left_by back.does));
      same = back.same;
    }
