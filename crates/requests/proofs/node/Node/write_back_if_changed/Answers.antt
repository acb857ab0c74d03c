-- `requests::node::Node::write_back_if_changed` meets its contract: the code's test is the definition's, and so are the page that is
-- updated and the entries that become unchanged.
use Prim.Native.Nat.{ℕ, ◌<◌}
use mathlib.Core.Path.{◌≡◌, sym, ap, ◌∙◌, subst}
use native.Mathlib.Omega.{arith}
use lib.ListN.{length}
use Rattle.scope.specs.Lent.{translation_page}
use Rattle.lent.specs.DoesLaws.{does_give, does_cond_true, does_cond_false}
use Rattle.lent.specs.Ready.{ready_state}
use Rattle.index.specs.OfPage.{of_pages}
use Rattle.steps.specs.Flash.{same_lent}
use Rattle.words.specs.Filter.{filter_of, filtered_of}
use Rattle.requests.specs.Translating.{write_back_does, write_back_ready, written_keeps_used, written_keeps_ranks}
use Rattle.requests.specs.Filtered.{written_filter}
use Rattle.requests.specs.Node.{under, same_lists}
use Rattle.requests.proofs.node.Node.write_back_if_changed.Goals as goal

pub update_changed-requires-clause-page_ready : goal.update_changed-requires-clause-page_ready
update_changed-requires-clause-page_ready c = let n = c.args.self.now in
    let (ready, in_use) = c.requires in
    let below = ready.sound.rule_5.below_L c.args.i in_use in
    write_back_ready _ ready (subst (λ (l : ℕ). l < (under n).L) (sym c.logical.ensures) below)

pub update_changed-requires-clause-entries_lent : goal.update_changed-requires-clause-entries_lent
update_changed-requires-clause-entries_lent c = let n = c.args.self.now in
    let (ready, in_use) = c.requires in
    let below = ready.sound.rule_5.below_L c.args.i in_use in
    record {
      of_pages = of_pages ready.accepted _ (subst (λ (l : ℕ). l < (under n).L) (sym c.logical.ensures) below);
      lie = omega (arith, ready.sound.rule_5.at_most, ready.lengths.cache_fits);
      different = ready.sound.rule_5.different;
    }

pub invariant_of-self : goal.invariant_of-self
invariant_of-self c = let a = c.args in
    let n = a.self.now in
    let g = under n in
    let (ready, in_use) = c.requires in
    let does = does_cond_true _ _ _ (sym c.is_changed.ensures ∙ c.if-is_changed.true)
    (write_back_does ready a.i in_use _ (ap (translation_page g) (sym c.logical.ensures))
    (c.update_changed.ensures.does_index.does (ready_state ready)) c.update_changed.ensures.cache_after) in
    let long : length c.update_changed.new.cache ≡ length n.cache.now = omega (arith, c.update_changed.auto) in
    record {
      filtered = filtered_of (written_filter (filter_of n.filtered) long (written_keeps_used ready a.i in_use does)
          (written_keeps_ranks ready a.i in_use does));
    }

pub returns-then-is_changed : goal.returns-then-is_changed
returns-then-is_changed c = let a = c.args in
    let g = under a.self.now in
    let (ready, in_use) = c.requires in
    record {
      does = does_cond_true _ _ _ (sym c.is_changed.ensures ∙ c.if-is_changed.true)
          (write_back_does ready a.i in_use _ (ap (translation_page g) (sym c.logical.ensures))
          (c.update_changed.ensures.does_index.does (ready_state ready)) c.update_changed.ensures.cache_after);
      same = (c.update_changed.ensures.does_index.same, same_lists);
    }

pub returns-else-is_changed : goal.returns-else-is_changed
returns-else-is_changed c = record {
  does = does_cond_false _ _ _ (sym c.is_changed.ensures ∙ c.if-is_changed.false) (does_give tt);
  same = (same_lent, same_lists);
}
