-- `requests::node::Node::translate` meets its contract: l's entry is found, or fetched once one is free.
use native.Mathlib.Omega.{arith}
use Rattle.lent.specs.Ready.{fewer_begin}
use Rattle.words.specs.Filter.{filter_of, filtered_of}
use Rattle.steps.specs.Flash.{same_lent, then_same}
use Rattle.requests.specs.Translating.{hit_does, miss_does, fetch_ready}
use Rattle.requests.specs.Filtered.{found_in_use, touched_filter}
use Rattle.requests.specs.Node.{under, held, same_lists, then_lists}
use Rattle.requests.proofs.node.Node.translate.Goals as goal

pub rank_of-i-requires : goal.rank_of-i-requires
rank_of-i-requires c = let ready = c.requires.ready in
    record { cache_fits = ready.lengths.cache_fits; used_to = ready.sound.rule_5.at_most }

pub touch-requires : goal.touch-requires
touch-requires c = omega (arith, c.if-i-self.true, c.requires.ready.lengths.cache_fits)

pub invariant_of-self : goal.invariant_of-self
invariant_of-self c = let n = c.args.self.now in
    let in_use = found_in_use (under n) n.cache.now n.work.now.rec.used c.args.l c.rank_of-i.ensures.1 c.if-i-self.true in
    record { filtered = filtered_of (touched_filter {w = n.work.now} (filter_of n.filtered) (under n) in_use c.touch.ensures) }

pub returns-then-i-self : goal.returns-then-i-self
returns-then-i-self c = let n = c.args.self.now in
    record {
      does = hit_does (under n) c.args.l c.rank_of-i.ensures.1 c.if-i-self.true (c.touch.ensures (held n));
      same = (same_lent, same_lists);
    }

pub drop_if_full-requires : goal.drop_if_full-requires
drop_if_full-requires c = fewer_begin (omega arith) c.requires.ready

pub fetch-requires : goal.fetch-requires
fetch-requires c = let dropped = c.drop_if_full.ensures in
    rw dropped.same.0.geometry_kept (fetch_ready c.args.l c.requires dropped.does)

pub returns : goal.returns
returns c = let n = c.args.self.now in
    let dropped = c.drop_if_full.ensures in
    let fetched = c.fetch.ensures in
    let does = rw dropped.same.0.geometry_kept at fetched.does in
    record {
      does = miss_does (under n) c.args.l c.rank_of-i.ensures.1 c.if-i-self.false dropped.does does;
      same = (then_same dropped.same.0 fetched.same.0, then_lists dropped.same.1 fetched.same.1);
    }
