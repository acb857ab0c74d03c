-- `requests::node::Node::fetch` meets its contract: the word of the page that the directory names enters.
use mathlib.Core.Path.{sym, ap}
use native.Mathlib.Omega.{arith}
use Rattle.scope.specs.SmallRecord.{SmallRecord}
use Rattle.words.specs.Filter.{filter_of, filtered_of}
use Rattle.steps.specs.Flash.{same_lent}
use Rattle.requests.specs.Translating.{fetch_does, read_keeps_small}
use Rattle.requests.specs.Filtered.{filter_still}
use Rattle.requests.specs.Node.{under, held, same_lists}
use Rattle.requests.proofs.node.Node.fetch.Goals as goal

pub enter-requires : goal.enter-requires
enter-requires c = let n = c.args.self.now in
    let ready = c.requires in
    let kept = read_keeps_small (under n) c.args.l _ c.word_for-word.ensures in
    let used = ap (λ (r : SmallRecord). r.used) kept in
    let protected = ap (λ (r : SmallRecord). r.protected) kept in
    record {
      used_in_cache = (
        omega (arith, used, ready.cache_fits, ready.room),
        omega (arith, used, ready.room, ready.accepted.C_to),
        omega (arith, used, protected, ready.border),
      );
      filter = filter_still used (filter_of n.filtered);
    }

pub invariant_of-self : goal.invariant_of-self
invariant_of-self c = record { filtered = filtered_of c.enter.ensures.filter_after }

pub returns : goal.returns
returns c = let n = c.args.self.now in
    let s = held n in
    record {
      does = fetch_does (under n) c.args.l (sym c.named-page.ensures) (c.word_for-word.ensures s) (c.enter.ensures.does_cache s);
      same = (same_lent, same_lists);
    }
