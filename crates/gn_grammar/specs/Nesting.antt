-- How deep the tokens of a tree stand, by the cases of the grammar: for each token that can make the nesting greater, in their order, the nesting there.
-- The nesting around the part is `deep`. Four things make it greater by one:
-- * a bracket, for itself and all that stands inside;
-- * a `!`, for itself and its operand;
-- * an operator between operands, for itself and all that comes behind it in its expression, outside the brackets around it;
-- * an `else if`, for its `if` and the rest of its chain.
use Rattle.std.specs.Prelude.{ℕ, zero, suc, ◌+◌, List, [], ◌∷◌, ◌++◌}
use Rattle.gn_tree.specs.Tree.{ExprTree, name_expr, integer_expr, string_expr, boolean_expr, call_expr, item_expr, entry_expr, scope_expr, parentheses_expr, list_expr, not_expr, binary_expr, ExprTrees, no_exprs, expr_then, CallTree, call_tree, BodyTree, no_body, some_body, TargetTree, name_target, item_target, entry_target, StatementTree, assign_statement, call_statement, condition_statement, ConditionTree, condition_tree, OtherwiseTree, no_otherwise, else_block, else_if, BlockTree, no_statements, statement_then}
use Rattle.gn_grammar.specs.Lexemes.{Lexeme}
use Rattle.gn_grammar.specs.Start.{Start}
use Rattle.gn_grammar.specs.Errors.{nesting}

-- how many operators between operands an expression has outside its brackets
abbrev pub operators_of : ExprTree → ℕ
operators_of (binary_expr operator position left right) = operators_of left + 1 + operators_of right
operators_of _ = 0

abbrev mutual
  pub expr_nestings : ExprTree → ℕ → List ℕ
  expr_nestings (name_expr position name) deep = []
  expr_nestings (integer_expr position value) deep = []
  expr_nestings (string_expr position pieces) deep = []
  expr_nestings (boolean_expr position value) deep = []
  expr_nestings (call_expr call) deep = call_nestings call deep
  expr_nestings (item_expr position base bracket index) deep = (deep + 1) ∷ expr_nestings index (deep + 1)
  expr_nestings (entry_expr position base dot entry) deep = []
  expr_nestings (scope_expr position block) deep = (deep + 1) ∷ block_nestings block (deep + 1)
  expr_nestings (parentheses_expr position inner) deep = (deep + 1) ∷ expr_nestings inner (deep + 1)
  expr_nestings (list_expr position items) deep = (deep + 1) ∷ list_nestings items (deep + 1)
  expr_nestings (not_expr position operand) deep = (deep + 1) ∷ expr_nestings operand (deep + 1)
  expr_nestings (binary_expr operator position left right) deep =
      expr_nestings left deep ++ (deep + operators_of left + 1) ∷ expr_nestings right (deep + operators_of left + 1)

  pub list_nestings : ExprTrees → ℕ → List ℕ
  list_nestings no_exprs deep = []
  list_nestings (expr_then first later) deep = expr_nestings first deep ++ list_nestings later deep

  pub call_nestings : CallTree → ℕ → List ℕ
  call_nestings (call_tree position name arguments body) deep = (deep + 1) ∷ (list_nestings arguments (deep + 1) ++ body_nestings body deep)

  pub body_nestings : BodyTree → ℕ → List ℕ
  body_nestings no_body deep = []
  body_nestings (some_body block) deep = (deep + 1) ∷ block_nestings block (deep + 1)

  pub target_nestings : TargetTree → ℕ → List ℕ
  target_nestings (name_target position name) deep = []
  target_nestings (item_target position base bracket index) deep = (deep + 1) ∷ expr_nestings index (deep + 1)
  target_nestings (entry_target position base dot entry) deep = []

  pub statement_nestings : StatementTree → ℕ → List ℕ
  statement_nestings (assign_statement target operator position value) deep = target_nestings target deep ++ expr_nestings value deep
  statement_nestings (call_statement call) deep = call_nestings call deep
  statement_nestings (condition_statement condition) deep = condition_nestings condition deep

  pub condition_nestings : ConditionTree → ℕ → List ℕ
  condition_nestings (condition_tree test block otherwise) deep =
      (deep + 1) ∷ (expr_nestings test (deep + 1) ++ (deep + 1) ∷ (block_nestings block (deep + 1) ++ otherwise_nestings otherwise deep))

  pub otherwise_nestings : OtherwiseTree → ℕ → List ℕ
  otherwise_nestings no_otherwise deep = []
  otherwise_nestings (else_block block) deep = (deep + 1) ∷ block_nestings block (deep + 1)
  otherwise_nestings (else_if condition) deep = (deep + 1) ∷ condition_nestings condition (deep + 1)

  pub block_nestings : BlockTree → ℕ → List ℕ
  block_nestings no_statements deep = []
  block_nestings (statement_then first later) deep = statement_nestings first deep ++ block_nestings later deep

-- a nesting before others, where the token counts
abbrev pub counting : ℕ → List ℕ → List ℕ
counting zero later = later
counting (suc n) later = suc n ∷ later

-- the nestings of those among these tokens of a file, or of an expression, that count, behind the ones before
abbrev pub token_nestings : Start → List Lexeme → List Lexeme → List ℕ
token_nestings start before [] = []
token_nestings start before (t ∷ later) = counting (nesting start (before ++ t ∷ [])) (token_nestings start (before ++ t ∷ []) later)
