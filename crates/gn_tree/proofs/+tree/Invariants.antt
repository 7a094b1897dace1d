use Rattle.std.proofs.Common.{◌≤◌}
use Rattle.gn_tree.specs.Depth.{expr_depth}
use Rattle.gn_tree.proofs.+tree.Given as goal

abbrev pub decreases-tree::SubExpr::drop : goal.decreases-tree::SubExpr::drop
decreases-tree::SubExpr::drop l = goal.size-tree::SubExpr::drop l

abbrev pub invariant-tree::SubExpr::drop-left : goal.invariant-tree::SubExpr::drop-left
invariant-tree::SubExpr::drop-left l = expr_depth l.self ≤ expr_depth l.fn.self
