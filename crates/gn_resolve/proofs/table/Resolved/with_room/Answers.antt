use Rattle.std.proofs.Common.{◌∙◌}
use Rattle.gn_resolve.proofs.Framed.{empty_held}
use Rattle.gn_resolve.proofs.table.Resolved.with_room.Goals as goal

pub returns-clause-held : goal.returns-clause-held
returns-clause-held c s items = empty_held s items _ (c.reserve_exact.ensures.entries ∙ c.new-entries.ensures.empty)
