use Rattle.gn_prepared.proofs.Imported.{made_send, made}
use Rattle.gn_prepared.proofs.shared.tables_cross.Goals as goal

pub returns-clause-send : goal.returns-clause-send
returns-clause-send c = made_send c.definitions_cross.ensures.send c.definitions_cross.ensures.sync

pub returns-clause-sync : goal.returns-clause-sync
returns-clause-sync c = made c.definitions_cross.ensures.send c.definitions_cross.ensures.sync
