-- What the program's types stand for, one level each: below it the parts are seen as trees already.
use Rattle.std.specs.Prelude.{List, [], ◌∷◌, Option, Some, None}
use Rattle.gn_tree.specs.Tree.{ExprTree, name_expr, integer_expr, string_expr, boolean_expr, call_expr, item_expr, entry_expr, scope_expr, parentheses_expr, list_expr, not_expr, binary_expr, ExprTrees, no_exprs, expr_then, CallTree, call_tree, BodyTree, no_body, some_body, TargetTree, name_target, item_target, entry_target, StatementTree, assign_statement, call_statement, condition_statement, ConditionTree, condition_tree, OtherwiseTree, no_otherwise, else_block, else_if, BlockTree, no_statements, statement_then}
use Rattle.gn_tree.specs.declared.tree.Expr.{Expr}
use Rattle.gn_tree.specs.declared.tree.Expr.TheVariants.{Name, Integer, String, Boolean, Call as CallExpr, Item, Entry, Scope, Parentheses, List as ListExpr, Not, Binary}
use Rattle.gn_tree.specs.declared.tree.Call.{Call}
use Rattle.gn_tree.specs.declared.tree.Target.{Target}
use Rattle.gn_tree.specs.declared.tree.Target.TheVariants.{Name as NameTarget, Item as ItemTarget, Entry as EntryTarget}
use Rattle.gn_tree.specs.declared.tree.Statement.{Statement}
use Rattle.gn_tree.specs.declared.tree.Statement.TheVariants.{Assignment, Call as CallStatement, Condition as ConditionStatement}
use Rattle.gn_tree.specs.declared.tree.Condition.{Condition}
use Rattle.gn_tree.specs.declared.tree.Otherwise.{Otherwise}
use Rattle.gn_tree.specs.declared.tree.Otherwise.TheVariants.{Nothing, Else, ElseIf}

-- the block behind a call
abbrev pub body_of : Option BlockTree → BodyTree
body_of None = no_body
body_of (Some b) = some_body b

-- a call
abbrev pub call_of : Call → CallTree
call_of c = call_tree c.position c.name c.arguments (body_of c.block)

-- an expression
abbrev pub expr_of : Expr → ExprTree
expr_of (Name p n) = name_expr p n
expr_of (Integer p v) = integer_expr p v
expr_of (String p ps) = string_expr p ps
expr_of (Boolean p v) = boolean_expr p v
expr_of (CallExpr c) = call_expr (call_of c)
expr_of (Item p n b i) = item_expr p n b i
expr_of (Entry p n d e) = entry_expr p n d e
expr_of (Scope p b) = scope_expr p b
expr_of (Parentheses p e) = parentheses_expr p e
expr_of (ListExpr p es) = list_expr p es
expr_of (Not p e) = not_expr p e
expr_of (Binary o p l r) = binary_expr o p l r

-- expressions in order
abbrev pub exprs_of : List Expr → ExprTrees
exprs_of [] = no_exprs
exprs_of (e ∷ es) = expr_then (expr_of e) (exprs_of es)

-- what an assignment assigns to
abbrev pub target_of : Target → TargetTree
target_of (NameTarget p n) = name_target p n
target_of (ItemTarget p n b i) = item_target p n b (expr_of i)
target_of (EntryTarget p n d e) = entry_target p n d e

-- what stands behind the block of a condition
abbrev pub otherwise_of : Otherwise → OtherwiseTree
otherwise_of Nothing = no_otherwise
otherwise_of (Else b) = else_block b
otherwise_of (ElseIf c) = else_if c

-- a condition
abbrev pub condition_of : Condition → ConditionTree
condition_of c = condition_tree (expr_of c.test) c.block (otherwise_of c.otherwise)

-- a statement
abbrev pub statement_of : Statement → StatementTree
statement_of (Assignment t o p e) = assign_statement (target_of t) o p (expr_of e)
statement_of (CallStatement c) = call_statement (call_of c)
statement_of (ConditionStatement c) = condition_statement (condition_of c)

-- statements in order
abbrev pub block_of : List Statement → BlockTree
block_of [] = no_statements
block_of (s ∷ ss) = statement_then (statement_of s) (block_of ss)
