use Rattle.std.proofs.Common.{◌≡◌}
use Rattle.gn_tree.specs.Depth.{expr_depth}
use Rattle.gn_tree.specs.Views.{expr_of}
use Rattle.gn_eval.specs.Operations.{joined}
use Rattle.gn_eval.proofs.operations.left_operand.Given as goal

abbrev pub invariant-left : goal.invariant-left
invariant-left l = expr_of l.expr ≡ joined (expr_of l.leftmost) l.operations.items

abbrev pub decreases-left : goal.decreases-left
decreases-left l = expr_depth (expr_of l.leftmost)
