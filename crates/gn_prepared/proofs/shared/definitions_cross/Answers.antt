use Rattle.gn_prepared.proofs.Definitions.{definition_send, definition_sync}
use Rattle.gn_prepared.proofs.shared.definitions_cross.Goals as goal

pub returns-clause-send : goal.returns-clause-send
returns-clause-send c = definition_send c.blocks_cross.ensures.send c.blocks_cross.ensures.sync c.scopes_are_sent.ensures c.scopes_are_shared.ensures

pub returns-clause-sync : goal.returns-clause-sync
returns-clause-sync c = definition_sync c.blocks_cross.ensures.send c.blocks_cross.ensures.sync c.scopes_are_sent.ensures c.scopes_are_shared.ensures
