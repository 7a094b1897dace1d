-- The grammar of a build file: which tokens spell which tree.
-- Each definition says of two lists of tokens that the first is what is spelled and then the second.
--
--     File = { Statement }.    Statement = Assignment | Call | Condition.
--     Assignment = LValue ("=" | "+=" | "-=") Expr.
--     LValue = id | id "[" Expr "]" | id "." id.
--     Call = id "(" [ExprList] ")" [Block].    Block = "{" { Statement } "}".
--     Condition = "if" "(" Expr ")" Block ["else" (Condition | Block)].
--     Expr = Unary | Expr binop Expr.    Unary = Primary | "!" Unary.
--     Primary = id | integer | string | "true" | "false" | Call | id "[" Expr "]" | id "." id
--             | Block | "(" Expr ")" | "[" [ExprList [","]] "]".
--     ExprList = Expr { "," Expr }.
use Rattle.std.specs.Prelude.{◌≡◌, ℕ, ◌+◌, ◌≤◌, Bool, true, false, List, ◌∷◌, ◌⊎◌}
use Rattle.gn_tree.specs.declared.position.Position.{Position}
use Rattle.gn_tree.specs.declared.operator.AssignOp.{AssignOp}
use Rattle.gn_tree.specs.declared.operator.AssignOp.TheVariants as assign
use Rattle.gn_tree.specs.declared.operator.BinaryOp.{BinaryOp}
use Rattle.gn_tree.specs.declared.operator.BinaryOp.TheVariants as binary
use Rattle.gn_tree.specs.Tree.{ExprTree, name_expr, integer_expr, string_expr, boolean_expr, call_expr, item_expr, entry_expr, scope_expr, parentheses_expr, list_expr, not_expr, binary_expr, ExprTrees, no_exprs, expr_then, CallTree, call_tree, BodyTree, no_body, some_body, TargetTree, name_target, item_target, entry_target, StatementTree, assign_statement, call_statement, condition_statement, ConditionTree, condition_tree, OtherwiseTree, no_otherwise, else_block, else_if, BlockTree, no_statements, statement_then}
use Rattle.gn_tokens.specs.declared.token.TokenKind.{TokenKind}
use Rattle.gn_tokens.specs.declared.token.TokenKind.TheVariants as k
use Rattle.gn_tokens.specs.Number.{integer_value}
use Rattle.gn_grammar.specs.Lexemes.{Lexeme}
use Rattle.gn_grammar.specs.Pieces.{pieces_of}

-- how tightly an operator binds; all of them group to the left
abbrev pub priority : BinaryOp → ℕ
priority binary.Add = 5
priority binary.Subtract = 5
priority binary.Less = 4
priority binary.LessEqual = 4
priority binary.Greater = 4
priority binary.GreaterEqual = 4
priority binary.Equal = 3
priority binary.NotEqual = 3
priority binary.And = 2
priority binary.Or = 1

-- the mark of an operator between operands
abbrev pub mark_of : BinaryOp → TokenKind
mark_of binary.Add = k.Plus
mark_of binary.Subtract = k.Minus
mark_of binary.Less = k.Less
mark_of binary.LessEqual = k.LessEqual
mark_of binary.Greater = k.Greater
mark_of binary.GreaterEqual = k.GreaterEqual
mark_of binary.Equal = k.Equal
mark_of binary.NotEqual = k.NotEqual
mark_of binary.And = k.And
mark_of binary.Or = k.Or

-- the mark of an assignment
abbrev pub assign_mark : AssignOp → TokenKind
assign_mark assign.Set = k.Assign
assign_mark assign.Add = k.AddAssign
assign_mark assign.Subtract = k.SubAssign

-- the word of a boolean
abbrev pub boolean_word : Bool → TokenKind
boolean_word true = k.True
boolean_word false = k.False

-- The tokens s are one of this kind at this position, with these bytes, and then rest.
abbrev pub IsToken : TokenKind → Position → List ℕ → List Lexeme → List Lexeme → Type 0
IsToken kind position text s rest = (start : ℕ) × (s ≡ (record { kind = kind; start = start; position = position; text = text } ∷ rest))

-- The tokens s are one of this kind at this position, and then rest.
abbrev pub IsMark : TokenKind → Position → List Lexeme → List Lexeme → Type 0
IsMark kind position s rest = (text : List ℕ) × IsToken kind position text s rest

-- The tokens s are one of this kind, and then rest.
abbrev pub IsKind : TokenKind → List Lexeme → List Lexeme → Type 0
IsKind kind s rest = (position : Position) × IsMark kind position s rest

-- The tokens s are an opening bracket of this kind at this position, what stands inside, a closing bracket of that kind, and then rest.
abbrev pub Encloses : TokenKind → Position → (List Lexeme → List Lexeme → Type 0) → TokenKind → List Lexeme → List Lexeme → Type 0
Encloses left position Inside right s rest = (s1 : List Lexeme) × (s2 : List Lexeme) × IsMark left position s s1 × Inside s1 s2 × IsKind right s2 rest

-- the same at any position
abbrev pub Brackets : TokenKind → (List Lexeme → List Lexeme → Type 0) → TokenKind → List Lexeme → List Lexeme → Type 0
Brackets left Inside right s rest = (position : Position) × Encloses left position Inside right s rest

-- Behind the items of a list a comma may stand, where it has any.
abbrev pub LastComma : ExprTrees → List Lexeme → List Lexeme → Type 0
LastComma no_exprs s rest = s ≡ rest
LastComma (expr_then first later) s rest = (s ≡ rest) ⊎ IsKind k.Comma s rest

abbrev mutual
  -- an expression, whose operators that stand in no brackets bind at least so tightly
  pub Spells : ℕ → ExprTree → List Lexeme → List Lexeme → Type 0
  Spells least (name_expr position name) s rest = IsToken k.Identifier position name s rest
  Spells least (integer_expr position value) s rest = (text : List ℕ) × IsToken k.Integer position text s rest × (value ≡ integer_value text)
  Spells least (string_expr position pieces) s rest = (text : List ℕ) × IsToken k.Str position text s rest × (pieces ≡ pieces_of position text)
  Spells least (boolean_expr position value) s rest = IsMark (boolean_word value) position s rest
  Spells least (call_expr call) s rest = SpellsCall call s rest
  Spells least (item_expr position base bracket index) s rest =
      (s1 : List Lexeme) × IsToken k.Identifier position base s s1 × Encloses k.OpenBracket bracket (Spells 1 index) k.CloseBracket s1 rest
  Spells least (entry_expr position base dot entry) s rest =
      (s1 : List Lexeme) × (s2 : List Lexeme) × (at : Position) × IsToken k.Identifier position base s s1 × IsMark k.Dot dot s1 s2 × IsToken k.Identifier at entry s2 rest
  Spells least (scope_expr position block) s rest = Encloses k.OpenBrace position (SpellsStatements block) k.CloseBrace s rest
  Spells least (parentheses_expr position inner) s rest = Encloses k.OpenParen position (Spells 1 inner) k.CloseParen s rest
  Spells least (list_expr position items) s rest =
      Encloses k.OpenBracket position (λ s1 s3. (s2 : List Lexeme) × SpellsList items s1 s2 × LastComma items s2 s3) k.CloseBracket s rest
  Spells least (not_expr position operand) s rest = (s1 : List Lexeme) × IsMark k.Not position s s1 × Spells 6 operand s1 rest
  Spells least (binary_expr operator position left right) s rest =
      (s1 : List Lexeme) × (s2 : List Lexeme) × (least ≤ priority operator) × Spells (priority operator) left s s1 × IsMark (mark_of operator) position s1 s2
      × Spells (priority operator + 1) right s2 rest

  -- expressions with commas between them
  pub SpellsList : ExprTrees → List Lexeme → List Lexeme → Type 0
  SpellsList no_exprs s rest = s ≡ rest
  SpellsList (expr_then first later) s rest = (s1 : List Lexeme) × Spells 1 first s s1 × SpellsMore later s1 rest

  -- the same behind an expression
  pub SpellsMore : ExprTrees → List Lexeme → List Lexeme → Type 0
  SpellsMore no_exprs s rest = s ≡ rest
  SpellsMore (expr_then first later) s rest =
      (s1 : List Lexeme) × (s2 : List Lexeme) × IsKind k.Comma s s1 × Spells 1 first s1 s2 × SpellsMore later s2 rest

  pub SpellsCall : CallTree → List Lexeme → List Lexeme → Type 0
  SpellsCall (call_tree position name arguments body) s rest =
      (s1 : List Lexeme) × (s2 : List Lexeme) × IsToken k.Identifier position name s s1
      × Brackets k.OpenParen (SpellsList arguments) k.CloseParen s1 s2 × SpellsBody body s2 rest

  -- the block behind a call, if there is one
  pub SpellsBody : BodyTree → List Lexeme → List Lexeme → Type 0
  SpellsBody no_body s rest = s ≡ rest
  SpellsBody (some_body block) s rest = Brackets k.OpenBrace (SpellsStatements block) k.CloseBrace s rest

  -- what an assignment assigns to
  pub SpellsTarget : TargetTree → List Lexeme → List Lexeme → Type 0
  SpellsTarget (name_target position name) s rest = IsToken k.Identifier position name s rest
  SpellsTarget (item_target position base bracket index) s rest =
      (s1 : List Lexeme) × IsToken k.Identifier position base s s1 × Encloses k.OpenBracket bracket (Spells 1 index) k.CloseBracket s1 rest
  SpellsTarget (entry_target position base dot entry) s rest =
      (s1 : List Lexeme) × (s2 : List Lexeme) × (at : Position) × IsToken k.Identifier position base s s1 × IsMark k.Dot dot s1 s2 × IsToken k.Identifier at entry s2 rest

  pub SpellsStatement : StatementTree → List Lexeme → List Lexeme → Type 0
  SpellsStatement (assign_statement target operator position value) s rest =
      (s1 : List Lexeme) × (s2 : List Lexeme) × SpellsTarget target s s1 × IsMark (assign_mark operator) position s1 s2 × Spells 1 value s2 rest
  SpellsStatement (call_statement call) s rest = SpellsCall call s rest
  SpellsStatement (condition_statement condition) s rest = SpellsCondition condition s rest

  pub SpellsCondition : ConditionTree → List Lexeme → List Lexeme → Type 0
  SpellsCondition (condition_tree test block otherwise) s rest =
      (s1 : List Lexeme) × (s2 : List Lexeme) × (s3 : List Lexeme) × IsKind k.If s s1 × Brackets k.OpenParen (Spells 1 test) k.CloseParen s1 s2
      × Brackets k.OpenBrace (SpellsStatements block) k.CloseBrace s2 s3 × SpellsOtherwise otherwise s3 rest

  -- what stands behind the block of a condition
  pub SpellsOtherwise : OtherwiseTree → List Lexeme → List Lexeme → Type 0
  SpellsOtherwise no_otherwise s rest = s ≡ rest
  SpellsOtherwise (else_block block) s rest = (s1 : List Lexeme) × IsKind k.Else s s1 × Brackets k.OpenBrace (SpellsStatements block) k.CloseBrace s1 rest
  SpellsOtherwise (else_if condition) s rest = (s1 : List Lexeme) × IsKind k.Else s s1 × SpellsCondition condition s1 rest

  -- statements, one after the other
  pub SpellsStatements : BlockTree → List Lexeme → List Lexeme → Type 0
  SpellsStatements no_statements s rest = s ≡ rest
  SpellsStatements (statement_then first later) s rest = (s1 : List Lexeme) × SpellsStatement first s s1 × SpellsStatements later s1 rest
