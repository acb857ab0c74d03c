-- `tf_run` meets its contract.
use Rattle.trianglefire_c.proofs.tf_run.Goals as goal

pub returns : goal.returns
returns c = c.tf_run.ensures
