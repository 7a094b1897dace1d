-- What the functions of the parser promise.
use Rattle.std.specs.Prelude.{◌≡◌, ℕ, ◌≤◌, Bool, true, false, List, [], ◌∷◌, ◌++◌, length, slice_range, Option, Some, None, Result, Ok, Err, ⊤}
use Rattle.gn_tree.specs.declared.position.Position.{Position}
use Rattle.gn_tree.specs.declared.operator.AssignOp.{AssignOp}
use Rattle.gn_tree.specs.declared.operator.AssignOp.TheVariants as assign
use Rattle.gn_tree.specs.Tree.{ExprTrees, no_exprs, expr_then}
use Rattle.gn_tokens.specs.declared.token.Token.{Token}
use Rattle.gn_tokens.specs.declared.token.TokenError.{TokenError}
use Rattle.gn_tokens.specs.declared.token.TokenKind.{TokenKind}
use Rattle.gn_tokens.specs.declared.token.TokenKind.TheVariants as k
use Rattle.gn_tokens.specs.Token as tokens
use Rattle.gn_tokens.specs.Stream.{Stream}
use Rattle.gn_grammar.specs.declared.fault.SyntaxFault.{SyntaxFault}
use Rattle.gn_grammar.specs.declared.fault.SyntaxFault.TheVariants.{Token as TokenFault, Unexpected}
use Rattle.gn_syntax.specs.declared.error.Stop.{Stop}
use Rattle.gn_syntax.specs.declared.error.Stop.TheVariants.{Fault, Memory}
use Rattle.gn_grammar.specs.Position.{position_of}
use Rattle.gn_grammar.specs.Lexemes.{Lexeme, Last, End, Wrong, lexemes_in, last_in}
use Rattle.gn_grammar.specs.Grammar.{IsKind, SpellsList}
use Rattle.gn_grammar.specs.Machine.{Symbol, Operand, Operators, Verdict, Bad, verdict}

-- the tokens that are left, and what comes behind them
pub record Ahead : Type 0 where
  pub tokens : List Lexeme
  pub last : Last

abbrev pub ahead_of : List ℕ → Stream → Ahead
ahead_of bytes stream = record { tokens = lexemes_in bytes stream; last = last_in bytes stream }

-- The answer of the tokens is a token that does not begin before the offset, or none.
abbrev pub Follows : List ℕ → ℕ → Result (Option Token) TokenError → Type 0
Follows bytes from (Ok (Some token)) = (from ≤ token.start) × (token.start ≤ token.end) × (token.end ≤ length bytes)
Follows bytes from (Ok None) = Unit {0}
Follows bytes from (Err error) = Unit {0}

-- The token in hand, if there is one, stands at this position.
abbrev pub StandsAt : List ℕ → Position → Result (Option Token) TokenError → Type 0
StandsAt bytes position (Ok (Some token)) = position ≡ position_of bytes token.start
StandsAt bytes position (Ok None) = Unit {0}
StandsAt bytes position (Err error) = Unit {0}

-- What is in hand: a token that ends at the offset, or none.
abbrev pub IsInHand : List ℕ → ℕ → Position → Result (Option Token) TokenError → Type 0
IsInHand bytes at position (Ok (Some token)) =
    (at ≡ token.end) × (token.start ≤ token.end) × (token.end ≤ length bytes) × (position ≡ position_of bytes token.start)
    × tokens.IsToken token.kind (slice_range bytes token.start token.end)
IsInHand bytes at position (Ok None) = Unit {0}
IsInHand bytes at position (Err error) = Unit {0}

-- the kind of the next token
abbrev pub front : List Lexeme → Option TokenKind
front [] = None
front (t ∷ ts) = Some t.kind

-- what stands behind the next token
abbrev pub rest_of : List Lexeme → List Lexeme
rest_of [] = []
rest_of (t ∷ ts) = ts

-- the offset of the next token, and 0 where there is none
abbrev pub start_of : List Lexeme → ℕ
start_of [] = 0
start_of (t ∷ ts) = t.start

-- the position of the next token, and line 0, column 0 where there is none
abbrev pub position_at : List Lexeme → Position
position_at [] = record { line = 0; column = 0 }
position_at (t ∷ ts) = t.position

-- the bytes of the next token, and none where there is none
abbrev pub text_at : List Lexeme → List ℕ
text_at [] = []
text_at (t ∷ ts) = t.text

-- the error of a file that may not end behind the last token
abbrev pub end_refusal : Last → SyntaxFault
end_refusal (End offset) = Unexpected offset
end_refusal (Wrong error) = TokenFault error

-- the error of a file in which the next token cannot come
abbrev pub refusal : Last → List Lexeme → SyntaxFault
refusal last [] = end_refusal last
refusal last (t ∷ ts) = Unexpected t.start

abbrev pub level_of : Option TokenKind → ℕ
level_of None = 0
level_of (Some k.Plus) = 5
level_of (Some k.Minus) = 5
level_of (Some k.Less) = 4
level_of (Some k.LessEqual) = 4
level_of (Some k.Greater) = 4
level_of (Some k.GreaterEqual) = 4
level_of (Some k.Equal) = 3
level_of (Some k.NotEqual) = 3
level_of (Some k.And) = 2
level_of (Some k.Or) = 1
level_of (Some _) = 0

-- how tightly the next token binds, 0 for one that is no operator
abbrev pub level : List Lexeme → ℕ
level ts = level_of (front ts)

-- the error at which the parser stops; none where memory is wanting
abbrev pub fault_at : Stop → Option SyntaxFault
fault_at (Fault error) = Some error
fault_at Memory = None

-- The error is the verdict. Want of memory says nothing of it.
abbrev pub Fails : Stop → Verdict → Type 0
Fails (Fault error) v = v ≡ Bad error
Fails Memory v = ⊤

-- Where there is an answer, the two verdicts are the same, and an error is the first of them.
abbrev pub Steps : {A : Type 0} → Result A Stop → Verdict → Verdict → Type 0
Steps (Ok x) before later = before ≡ later
Steps (Err e) before later = Fails e before

-- What was wanted before is read, and then that behind it is wanted, whatever is wanted later.
abbrev pub Reads : {A : Type 0} → Result A Stop → Last → List Symbol → List Lexeme → List Symbol → List Lexeme → Type 0
Reads r last before s behind rest = (wanted : List Symbol) → Steps r (verdict last (before ++ wanted) s) (verdict last (behind ++ wanted) rest)

-- An operand was read where the nesting is deep.
abbrev pub ReadsOperand : {A : Type 0} → Result A Stop → Last → ℕ → List Lexeme → List Lexeme → Type 0
ReadsOperand r last deep s rest = (after : ℕ) → Reads r last (Operand after deep ∷ []) s (Operators after ∷ []) rest

-- Behind items a comma stands.
abbrev pub CommaBehind : ExprTrees → List Lexeme → List Lexeme → Type 0
CommaBehind no_exprs s rest = s ≡ rest
CommaBehind (expr_then first later) s rest = IsKind k.Comma s rest

-- These items have been read of a list, and another may come.
pub record Begun (items : ExprTrees) (s rest : List Lexeme) : Type 0 where
  pub mid : List Lexeme
  pub spells : SpellsList items s mid
  pub comma : CommaBehind items mid rest

-- the operator of an assignment that the next token is
abbrev pub sign_of : Option TokenKind → Option AssignOp
sign_of (Some k.Assign) = Some assign.Set
sign_of (Some k.AddAssign) = Some assign.Add
sign_of (Some k.SubAssign) = Some assign.Subtract
sign_of _ = None

-- The file ends behind the last token.
abbrev pub ends_there : Last → Bool
ends_there (End offset) = true
ends_there (Wrong error) = false

-- No token is left, and none is wrong.
abbrev pub is_end : Last → List Lexeme → Bool
is_end last [] = ends_there last
is_end last (t ∷ ts) = false
