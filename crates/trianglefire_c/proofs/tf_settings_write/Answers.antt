-- `tf_settings_write` meets its contract.
use Rattle.trianglefire_c.proofs.tf_settings_write.Goals as goal

pub returns : goal.returns
returns c = c.tf_settings_write.ensures
