-- `requests::node::Node::place` meets its contract: its parts are the definition's.
use mathlib.Core.Path.{sym, ap, subst, ◌∙◌}
use Rattle.std.specs.Prelude.{ℕ, List}
use Rattle.scope.specs.Requests.{replied}
use Rattle.promises.specs.Write.{placing}
use Rattle.scope.specs.Lent.{decode}
use Rattle.words.specs.Filter.{filter_of, filtered_of}
use Rattle.steps.specs.Flash.{then_same}
use Rattle.requests.specs.Answering.{DoesPlacing, placing_does}
use Rattle.requests.specs.Filtered.{filter_still, program_keeps_used, placed_filter}
use Rattle.requests.specs.Node.{under, held, same_lists}
use Rattle.requests.proofs.node.Node.place.Goals as goal

pub invariant_of-self : goal.invariant_of-self
invariant_of-self c = let n = c.args.self.now in
    record {
      filtered = filtered_of (filter_still (program_keeps_used (under n) c.args.l c.args.buffer.now c.program_next-q.ensures.does)
          (filter_of n.filtered));
    }

pub mark_old-requires : goal.mark_old-requires
mark_old-requires c =
    rw c.program_next-q.ensures.same.geometry_kept
    (λ p e. c.requires.on_chip p (ap decode (sym c.physical.ensures) ∙ sym c.decode-old.ensures ∙ e))

pub invariant_of-self-3 : goal.invariant_of-self-3
invariant_of-self-3 c = let n = c.args.self.now in
    let w = c.program_next-q.new.work in
    let used = program_keeps_used (under n) c.args.l c.args.buffer.now c.program_next-q.ensures.does in
    record {
      filtered = filtered_of (placed_filter {w = w} (filter_still used (filter_of n.filtered)) c.args.i c.program_next-q.result
          (c.set_entry.ensures w));
    }

pub returns : goal.returns
returns c = let n = c.args.self.now in
    let a = c.args in
    let w = c.program_next-q.new.work in
    let marked = c.mark_old.ensures in
    let is_old = ap decode (sym c.physical.ensures) ∙ sym c.decode-old.ensures in
    record {
      does = subst (λ (chip : List ℕ). DoesPlacing (placing (under n) a.l a.i a.buffer.now) n.flash.now.chip.now n.flash.now.spare.now n.cache.now n.work.now
          (replied a.buffer.now 0) chip c.mark_old.new.self.spare.now c.set_entry.new.cache w) (sym marked.only_spare.words)
          (placing_does (under n) a.l a.i c.program_next-q.ensures.does is_old marked.spare_after (c.set_entry.ensures w))
          (held n);
      same = (then_same c.program_next-q.ensures.same marked.only_spare.same, same_lists);
    }
