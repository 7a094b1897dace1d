use Rattle.std.proofs.Common.{arith}
use Rattle.gn_values.specs.View.{entry_of}
use Rattle.gn_basics.proofs.Lists.{map_grown}
use Rattle.gn_scopes.proofs.copies.copy_entries.Goals as goal

pub loop-entry-preserved : goal.loop-entry-preserved
loop-entry-preserved c =
    map_grown entry_of _ _ _ _ _ _ (omega arith) c.loop-entry.invariant c.entry-item.is c.in_ok-copy.ensures c.in_ok-push.ensures.items
