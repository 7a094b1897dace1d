use Rattle.gn_build_faults.proofs.Crossing.{linking_sync, finding_sync}
use Rattle.gn_build_faults.proofs.shared.items_are_shared.Goals as goal

pub returns-clause-linking : goal.returns-clause-linking
returns-clause-linking c = linking_sync (record { shared = λ d b o κ. c.is_shared.ensures.shared d b o κ })

pub returns-clause-finding : goal.returns-clause-finding
returns-clause-finding c = finding_sync (record { shared = λ d b o κ. c.is_shared.ensures.shared d b o κ })
