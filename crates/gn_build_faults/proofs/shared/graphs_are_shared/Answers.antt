use Rattle.gn_build_faults.proofs.Crossing.{examining_sync, examined_send}
use Rattle.gn_build_faults.proofs.shared.graphs_are_shared.Goals as goal

pub returns-clause-examining : goal.returns-clause-examining
returns-clause-examining c = examining_sync (record { shared = λ d b o κ. c.is_shared.ensures.shared d b o κ })

pub returns-clause-examined : goal.returns-clause-examined
returns-clause-examined c = examined_send
