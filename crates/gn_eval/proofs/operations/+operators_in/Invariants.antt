use Rattle.std.proofs.Common.{◌≡◌, ◌≤◌, ◌+◌, min}
use Rattle.gn_tree.specs.Depth.{expr_depth}
use Rattle.gn_tree.specs.Views.{expr_of}
use Rattle.gn_meaning.specs.Meaning.{operators_in}
use Rattle.gn_eval.proofs.operations.+operators_in.Given as goal

abbrev pub decreases-operators_in : goal.decreases-operators_in
decreases-operators_in l = expr_depth (expr_of l.expr.now)

abbrev pub invariant-left : goal.invariant-left
invariant-left l = record {
  counted : min (operators_in (expr_of l.fn.expr)) 4294967295 ≡ min (l.count + operators_in (expr_of l.rest)) 4294967295;
  fits : l.count ≤ 4294967295;
  small : expr_depth (expr_of l.rest) ≤ expr_depth (expr_of l.fn.expr);
}

abbrev pub decreases-left : goal.decreases-left
decreases-left l = expr_depth (expr_of l.rest)
