use Rattle.std.proofs.Common.{◌≡◌}
use Rattle.gn_tree.specs.Depth.{expr_depth}
use Rattle.gn_tree.specs.Views.{expr_of}
use Rattle.gn_tree.specs.FirstPosition.{first_position}
use Rattle.gn_tree.proofs.tree.Expr.first_position.Given as goal

abbrev pub invariant-left : goal.invariant-left
invariant-left l = first_position (expr_of l.expr) ≡ first_position (expr_of l.self)

abbrev pub decreases-left : goal.decreases-left
decreases-left l = expr_depth (expr_of l.expr)
