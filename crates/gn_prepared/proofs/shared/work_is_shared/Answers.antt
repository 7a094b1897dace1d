use Rattle.gn_prepared.proofs.Crossing.{captures_sync}
use Rattle.gn_prepared.proofs.shared.work_is_shared.Goals as goal

pub returns-clause-sync : goal.returns-clause-sync
returns-clause-sync c = captures_sync c.bases_are_shared.ensures c.copies_are_shared.ensures

pub returns-clause-filed : goal.returns-clause-filed
returns-clause-filed c = c.answers_cross.ensures.filed
