use Rattle.gn_resolve.proofs.Put.{stays_held}
use Rattle.gn_resolve.proofs.table.Resolved.put.Goals as goal

pub returns-clause-held : goal.returns-clause-held
returns-clause-held c = stays_held c.args.self.now _ c.args.label c.args.entry c.in_ok-replaced.ensures.updates
