-- Expressions or statements behind others.
use Rattle.gn_tree.specs.Tree.{ExprTrees, no_exprs, expr_then, BlockTree, no_statements, statement_then}

abbrev pub exprs_append : ExprTrees → ExprTrees → ExprTrees
exprs_append no_exprs fs = fs
exprs_append (expr_then e es) fs = expr_then e (exprs_append es fs)

abbrev pub statements_append : BlockTree → BlockTree → BlockTree
statements_append no_statements c = c
statements_append (statement_then s b) c = statement_then s (statements_append b c)
