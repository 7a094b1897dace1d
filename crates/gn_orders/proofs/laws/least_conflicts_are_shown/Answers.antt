use Rattle.gn_orders.proofs.Consequences.{least_conflicts_so}
use Rattle.gn_orders.proofs.laws.least_conflicts_are_shown.Goals as goal

pub returns : goal.returns
returns c = least_conflicts_so
