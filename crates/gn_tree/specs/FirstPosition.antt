-- Where the first token of an expression stands: at the expression itself, or at that of its left operand.
use Rattle.gn_tree.specs.Tree.{ExprTree, name_expr, integer_expr, string_expr, boolean_expr, call_expr, item_expr, entry_expr, scope_expr, parentheses_expr, list_expr, not_expr, binary_expr, CallTree, call_tree}
use Rattle.gn_tree.specs.declared.position.Position.{Position}

-- where the name of a call stands
abbrev pub call_position : CallTree → Position
call_position (call_tree p n es b) = p

abbrev pub first_position : ExprTree → Position
first_position (name_expr p n) = p
first_position (integer_expr p v) = p
first_position (string_expr p ps) = p
first_position (boolean_expr p v) = p
first_position (call_expr c) = call_position c
first_position (item_expr p n b i) = p
first_position (entry_expr p n d e) = p
first_position (scope_expr p b) = p
first_position (parentheses_expr p e) = p
first_position (list_expr p es) = p
first_position (not_expr p e) = p
first_position (binary_expr o p l r) = first_position l
