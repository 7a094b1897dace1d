use Rattle.gn_resolve.proofs.Enough.{part_is_enough}
use Rattle.gn_resolve.proofs.laws.a_part_of_the_targets_is_enough.Goals as goal

pub returns : goal.returns
returns c = part_is_enough c.what_is_made_is_right.ensures c.configurations_come_along.ensures.pushed c.configurations_come_along.ensures.public
