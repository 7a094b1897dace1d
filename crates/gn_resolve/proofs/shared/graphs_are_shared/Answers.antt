use Rattle.gn_resolve.proofs.Crossing.{captures_sync}
use Rattle.gn_resolve.proofs.shared.graphs_are_shared.Goals as goal

pub returns : goal.returns
returns c = captures_sync (record { shared = λ d b o κ. c.is_shared.ensures.shared d b o κ })
