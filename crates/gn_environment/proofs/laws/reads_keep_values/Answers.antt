use Rattle.gn_environment.proofs.Outwards.{value_of-after_read}
use Rattle.gn_environment.proofs.laws.reads_keep_values.Goals as goal

pub returns : goal.returns
returns c = value_of-after_read
