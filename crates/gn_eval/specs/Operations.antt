-- An expression as its leftmost operand and the operators behind it.
use Rattle.std.specs.Prelude.{List, [], ◌∷◌}
use Rattle.gn_tree.specs.Tree.{ExprTree, binary_expr}
use Rattle.gn_eval.specs.declared.operations.Operation.{Operation}

-- an operator is the outermost part of no operand
abbrev pub IsOperand : ExprTree → Type 0
IsOperand (binary_expr o p l r) = ⊥
IsOperand e = Unit {0}

-- the expression whose leftmost operand has these operators behind it, the outermost one first
abbrev pub joined : ExprTree → List Operation → ExprTree
joined e [] = e
joined e (o ∷ os) = binary_expr o.operator o.position (joined e os) o.right.now
