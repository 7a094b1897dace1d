use Rattle.gn_resolve.proofs.Framed.{empty_held}
use Rattle.gn_resolve.proofs.table.Resolved.new.Goals as goal

pub returns-clause-held : goal.returns-clause-held
returns-clause-held c s items = empty_held s items _ c.new.ensures.empty
