-- The tree of a file, as contracts see it: the types of the program without pointers and capacities.
-- Each node has the positions of its first token and of the tokens at which a fault can stand.
use Rattle.std.specs.Prelude.{ℕ, ℤ, Bool, List}
use Rattle.gn_tree.specs.declared.position.Position.{Position}
use Rattle.gn_tree.specs.declared.operator.AssignOp.{AssignOp}
use Rattle.gn_tree.specs.declared.operator.BinaryOp.{BinaryOp}
use Rattle.gn_tree.specs.declared.piece.Piece.{Piece}

mutual
  -- an expression
  pub data ExprTree : Type 0 where
    name_expr : (position : Position) (name : List ℕ) → ExprTree
    integer_expr : (position : Position) (value : ℤ) → ExprTree
    string_expr : (position : Position) (pieces : List Piece) → ExprTree
    boolean_expr : (position : Position) (value : Bool) → ExprTree
    call_expr : (call : CallTree) → ExprTree
    item_expr : (position : Position) (base : List ℕ) (bracket : Position) (index : ExprTree) → ExprTree
    entry_expr : (position : Position) (base : List ℕ) (dot : Position) (entry : List ℕ) → ExprTree
    scope_expr : (position : Position) (block : BlockTree) → ExprTree
    parentheses_expr : (position : Position) (inner : ExprTree) → ExprTree
    list_expr : (position : Position) (items : ExprTrees) → ExprTree
    not_expr : (position : Position) (operand : ExprTree) → ExprTree
    binary_expr : (operator : BinaryOp) (position : Position) (left right : ExprTree) → ExprTree

  -- expressions in order
  pub data ExprTrees : Type 0 where
    no_exprs : ExprTrees
    expr_then : (first : ExprTree) (rest : ExprTrees) → ExprTrees

  -- a call
  pub data CallTree : Type 0 where
    call_tree : (position : Position) (name : List ℕ) (arguments : ExprTrees) (body : BodyTree) → CallTree

  -- the block behind a call, if there is one
  pub data BodyTree : Type 0 where
    no_body : BodyTree
    some_body : (block : BlockTree) → BodyTree

  -- what an assignment assigns to
  pub data TargetTree : Type 0 where
    name_target : (position : Position) (name : List ℕ) → TargetTree
    item_target : (position : Position) (base : List ℕ) (bracket : Position) (index : ExprTree) → TargetTree
    entry_target : (position : Position) (base : List ℕ) (dot : Position) (entry : List ℕ) → TargetTree

  -- a statement
  pub data StatementTree : Type 0 where
    assign_statement : (target : TargetTree) (operator : AssignOp) (position : Position) (value : ExprTree) → StatementTree
    call_statement : (call : CallTree) → StatementTree
    condition_statement : (condition : ConditionTree) → StatementTree

  -- a condition, as `if` or behind an `else`
  pub data ConditionTree : Type 0 where
    condition_tree : (test : ExprTree) (block : BlockTree) (otherwise : OtherwiseTree) → ConditionTree

  -- what stands behind the block of a condition
  pub data OtherwiseTree : Type 0 where
    no_otherwise : OtherwiseTree
    else_block : (block : BlockTree) → OtherwiseTree
    else_if : (condition : ConditionTree) → OtherwiseTree

  -- statements in order
  pub data BlockTree : Type 0 where
    no_statements : BlockTree
    statement_then : (first : StatementTree) (rest : BlockTree) → BlockTree
