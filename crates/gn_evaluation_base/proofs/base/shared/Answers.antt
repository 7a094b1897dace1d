use Rattle.std.proofs.Common.{arith}
use Rattle.std.specs.Arc.{arc_value}
use Rattle.gn_basics.proofs.Lists.{map_grown}
use Rattle.gn_evaluation_base.proofs.base.shared.Goals as goal

pub loop-scope-preserved : goal.loop-scope-preserved
loop-scope-preserved c =
    map_grown arc_value _ _ _ _ _ _ (omega arith) c.loop-scope.invariant c.scope-item.is c.in_ok-clone.ensures.cases c.in_ok-push.ensures.items
