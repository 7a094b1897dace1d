-- Which arguments of a call are evaluated.
use Rattle.gn_tree.specs.Tree.{ExprTrees, no_exprs, expr_then}

-- all but the first
abbrev pub without_first : ExprTrees → ExprTrees
without_first no_exprs = no_exprs
without_first (expr_then e es) = es
