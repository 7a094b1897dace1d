use Rattle.gn_prepared.proofs.Imported.{import_send, import_sync}
use Rattle.gn_prepared.proofs.shared.imports_cross.Goals as goal

pub returns-clause-send : goal.returns-clause-send
returns-clause-send c = import_send c.tables_cross.ensures.send c.tables_cross.ensures.sync c.scopes_are_sent.ensures c.scopes_are_shared.ensures

pub returns-clause-sync : goal.returns-clause-sync
returns-clause-sync c = import_sync c.tables_cross.ensures.send c.tables_cross.ensures.sync c.scopes_are_sent.ensures c.scopes_are_shared.ensures
