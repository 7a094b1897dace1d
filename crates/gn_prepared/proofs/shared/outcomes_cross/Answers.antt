use Rattle.gn_prepared.proofs.Answered.{outcome_send, outcome}
use Rattle.gn_prepared.proofs.shared.outcomes_cross.Goals as goal

pub returns-clause-send : goal.returns-clause-send
returns-clause-send c = outcome_send c.fields_cross.ensures.send c.fields_cross.ensures.sync

pub returns-clause-sync : goal.returns-clause-sync
returns-clause-sync c = outcome c.fields_cross.ensures.send c.fields_cross.ensures.sync
