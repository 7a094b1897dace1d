use Rattle.gn_prepared.proofs.Answered.{filed_send, answer}
use Rattle.gn_prepared.proofs.shared.answers_cross.Goals as goal

pub returns-clause-filed : goal.returns-clause-filed
returns-clause-filed c = filed_send c.outcomes_cross.ensures.send c.outcomes_cross.ensures.sync c.imports_cross.ensures.send c.imports_cross.ensures.sync

pub returns-clause-answer : goal.returns-clause-answer
returns-clause-answer c = answer c.outcomes_cross.ensures.send c.outcomes_cross.ensures.sync c.imports_cross.ensures.send c.imports_cross.ensures.sync
