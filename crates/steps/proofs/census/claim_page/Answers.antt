-- `steps::census::claim_page` meets its contract: the page lies in its block, whose number goes with its state.
use Rattle.steps.specs.Census.{in_spare, restatable, claim_kept}
use Rattle.steps.proofs.census.claim_page.Goals as goal

pub state_at-requires : goal.state_at-requires
state_at-requires c = let lent = c.requires.spare_lent in
    in_spare lent.0 c.args.b c.args.offset lent.1 lent.2 c.requires.is_page

pub restate-requires : goal.restate-requires
restate-requires c = let lent = c.requires.spare_lent in
    let r = restatable lent.0 c.requires.counted c.args.b c.args.offset lent.1 lent.2 c.requires.is_page c.state_at.ensures in
    (r.inside, r.has, r.little)

pub claim-requires : goal.claim-requires
claim-requires c = let lent = c.requires.spare_lent in
    in_spare lent.0 c.args.b c.args.offset lent.1 lent.2 c.requires.is_page

pub returns : goal.returns
returns c = let lent = c.requires.spare_lent in
    record {
      spare_after = c.claim.ensures;
      counted_after = claim_kept lent.0 c.requires.counted c.args.b c.args.offset lent.1 lent.2 c.requires.is_page
          c.state_at.ensures c.args.owner c.claim.ensures c.restate.ensures;
    }
