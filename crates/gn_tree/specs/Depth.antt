-- How deep a tree is. A node without parts is 0 deep, any other node one deeper than its deepest part.
-- A list of nodes is as deep as its deepest node.
use Rattle.std.specs.Prelude.{ℕ, suc, ◌≤◌, max}
use Rattle.gn_tree.specs.Tree.{ExprTree, name_expr, integer_expr, string_expr, boolean_expr, call_expr, item_expr, entry_expr, scope_expr, parentheses_expr, list_expr, not_expr, binary_expr, ExprTrees, no_exprs, expr_then, CallTree, call_tree, BodyTree, no_body, some_body, TargetTree, name_target, item_target, entry_target, StatementTree, assign_statement, call_statement, condition_statement, ConditionTree, condition_tree, OtherwiseTree, no_otherwise, else_block, else_if, BlockTree, no_statements, statement_then}

abbrev mutual
  pub expr_depth : ExprTree → ℕ
  expr_depth (name_expr p n) = 0
  expr_depth (integer_expr p v) = 0
  expr_depth (string_expr p ps) = 0
  expr_depth (boolean_expr p v) = 0
  expr_depth (call_expr c) = suc (call_depth c)
  expr_depth (item_expr p n b i) = suc (expr_depth i)
  expr_depth (entry_expr p n d e) = 0
  expr_depth (scope_expr p b) = suc (block_depth b)
  expr_depth (parentheses_expr p e) = suc (expr_depth e)
  expr_depth (list_expr p es) = suc (exprs_depth es)
  expr_depth (not_expr p e) = suc (expr_depth e)
  expr_depth (binary_expr o p l r) = suc (max (expr_depth l) (expr_depth r))

  pub exprs_depth : ExprTrees → ℕ
  exprs_depth no_exprs = 0
  exprs_depth (expr_then e es) = max (expr_depth e) (exprs_depth es)

  pub call_depth : CallTree → ℕ
  call_depth (call_tree p n es b) = suc (max (exprs_depth es) (body_depth b))

  pub body_depth : BodyTree → ℕ
  body_depth no_body = 0
  body_depth (some_body b) = block_depth b

  pub target_depth : TargetTree → ℕ
  target_depth (name_target p n) = 0
  target_depth (item_target p n b i) = suc (expr_depth i)
  target_depth (entry_target p n d e) = 0

  pub statement_depth : StatementTree → ℕ
  statement_depth (assign_statement t o p e) = suc (max (target_depth t) (expr_depth e))
  statement_depth (call_statement c) = suc (call_depth c)
  statement_depth (condition_statement c) = suc (condition_depth c)

  pub condition_depth : ConditionTree → ℕ
  condition_depth (condition_tree e b o) = suc (max (expr_depth e) (max (block_depth b) (otherwise_depth o)))

  pub otherwise_depth : OtherwiseTree → ℕ
  otherwise_depth no_otherwise = 0
  otherwise_depth (else_block b) = suc (block_depth b)
  otherwise_depth (else_if c) = suc (condition_depth c)

  pub block_depth : BlockTree → ℕ
  block_depth no_statements = 0
  block_depth (statement_then s b) = max (statement_depth s) (block_depth b)

-- how deep the tree of a file is at most
abbrev pub max_tree_depth : ℕ
max_tree_depth = 268435456

-- The tree of a block is no deeper than that.
abbrev pub IsShallow : BlockTree → Type 0
IsShallow tree = block_depth tree ≤ max_tree_depth
