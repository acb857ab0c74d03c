-- `steps::census::mark_page` meets its contract.
use Rattle.steps.specs.Census.{page_lies, restatable, mark_kept}
use Rattle.lent.specs.Model.{geometry}
use Prim.Native.Nat.{◌/◌, ◌%◌}
use Rattle.steps.proofs.census.mark_page.Goals as goal

pub restate-requires : goal.restate-requires
restate-requires c = let lent = c.requires.spare_lent in
    let at = page_lies (geometry c.args.g) c.args.p lent.0.bounded.P_from lent.1 in
    let a = c.args in
    let r = restatable lent.0 c.requires.counted (a.p / a.g.p) (a.p % a.g.p) at.0 at.1 at.2 c.state_at.ensures in
    (r.inside, r.has, r.little)

pub returns : goal.returns
returns c = let lent = c.requires.spare_lent in
    let at = page_lies (geometry c.args.g) c.args.p lent.0.bounded.P_from lent.1 in
    let a = c.args in
    record {
      spare_after = c.set_state.ensures;
      counted_after = mark_kept lent.0 c.requires.counted (a.p / a.g.p) (a.p % a.g.p) at.0 at.1 at.2
          c.state_at.ensures c.set_state.ensures c.restate.ensures;
    }
