-- `requests::following::wait` meets its contract: the words behind those that wait are stored.
use Rattle.requests.specs.Following.{one_waits}
use Rattle.requests.proofs.following.wait.Goals as goal

pub returns : goal.returns
returns c = let behind = one_waits c.requires.waits_in c.requires.accepted.1 c.args.logical c.args.physical c.put_behind.ensures in
    record {
      waiting_after = behind.0;
      waits_in_after = behind.1;
      moves_ahead = behind.2;
    }
