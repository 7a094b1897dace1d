-- How many expressions or statements stand in order.
use Rattle.std.specs.Prelude.{ℕ, suc}
use Rattle.gn_tree.specs.Tree.{ExprTrees, no_exprs, expr_then, BlockTree, no_statements, statement_then}

abbrev pub expr_count : ExprTrees → ℕ
expr_count no_exprs = 0
expr_count (expr_then e es) = suc (expr_count es)

abbrev pub statement_count : BlockTree → ℕ
statement_count no_statements = 0
statement_count (statement_then s b) = suc (statement_count b)
