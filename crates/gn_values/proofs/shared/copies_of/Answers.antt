use Rattle.std.proofs.Common.{arith}
use Rattle.gn_basics.proofs.Lists.{map_grown}
use Rattle.gn_values.proofs.shared.copies_of.Goals as goal

pub loop-item-preserved : goal.loop-item-preserved
loop-item-preserved g c =
    map_grown g.T.Copied.seen _ _ _ _ _ _ (omega arith) c.loop-item.invariant c.item-item.is c.in_ok-copied.ensures c.in_ok-push.ensures.items
