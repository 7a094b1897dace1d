use Rattle.gn_prepared.proofs.Bases.{base}
use Rattle.gn_prepared.proofs.shared.bases_are_shared.Goals as goal

pub returns : goal.returns
returns c = base c.bindings_cross.ensures.send c.bindings_cross.ensures.sync c.scopes_are_sent.ensures c.scopes_are_shared.ensures c.tables_cross.ensures.send c.tables_cross.ensures.sync
