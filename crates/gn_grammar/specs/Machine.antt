-- Which token may come next, and how deep it stands: a machine that reads the tokens of a file one after the other.
-- It is a tool of the proofs. That it takes just what the grammar spells is proved.
use Rattle.std.specs.Prelude.{ℕ, ◌+◌, Bool, true, false, if◌then◌else◌, nat_lt, List, [], ◌∷◌, ◌++◌, Option, Some, None}
use Rattle.gn_tokens.specs.declared.token.TokenKind.{TokenKind}
use Rattle.gn_tokens.specs.declared.token.TokenKind.TheVariants as k
use Rattle.gn_grammar.specs.declared.fault.SyntaxFault.{SyntaxFault}
use Rattle.gn_grammar.specs.declared.fault.SyntaxFault.TheVariants.{Token, Unexpected, TooDeep}
use Rattle.gn_grammar.specs.Lexemes.{Lexeme, Last, End, Wrong}

-- What is wanted next, with the nesting there.
pub data Symbol : Type 0 where
  -- statements, or none
  Statements : (deep : ℕ) → Symbol
  -- what comes behind the name at the front of a statement
  Head : (deep : ℕ) → Symbol
  -- the operator and value of an assignment
  Sign : (deep : ℕ) → Symbol
  -- the test of a condition, with its round brackets
  Test : (deep : ℕ) → Symbol
  Block : (deep : ℕ) → Symbol
  -- a block, or none
  BlockOr : (deep : ℕ) → Symbol
  -- an `else` and what follows it, or none
  ElseOr : (deep : ℕ) → Symbol
  -- what follows an `else`
  ElseBody : (deep : ℕ) → Symbol
  -- an operand, and then Operators at the nesting `after`
  Operand : (after deep : ℕ) → Symbol
  -- what may come behind a name that is an operand
  Suffix : (deep : ℕ) → Symbol
  -- operators with their operands, or none
  Operators : (deep : ℕ) → Symbol
  -- arguments, and the bracket that closes them
  Args : (deep : ℕ) → Symbol
  -- the same behind an argument
  MoreArgs : (deep : ℕ) → Symbol
  -- items of a list, and the bracket that closes them
  Items : (deep : ℕ) → Symbol
  -- the same behind an item
  MoreItems : (deep : ℕ) → Symbol
  -- the name behind a dot
  Name : Symbol
  CloseParen : Symbol
  CloseBracket : Symbol
  CloseBrace : Symbol

-- What a symbol does at a token: takes it, where these symbols come and this is the nesting, which counts only where the token makes it greater;
-- lets what is wanted behind it have it; or refuses.
pub data Reaction : Type 0 where
  Takes : (deep : ℕ) → (wanted : List Symbol) → Reaction
  Passes : Reaction
  Refuses : Reaction

-- Three kinds of brackets, inside which the nesting is one more.
abbrev pub inside_brace : ℕ → List Symbol → Reaction
inside_brace deep later = Takes (deep + 1) (Statements (deep + 1) ∷ CloseBrace ∷ later)

abbrev pub inside_args : ℕ → List Symbol → Reaction
inside_args deep later = Takes (deep + 1) (Args (deep + 1) ∷ BlockOr deep ∷ later)

abbrev pub inside_index : ℕ → List Symbol → Reaction
inside_index deep later = Takes (deep + 1) (Operand (deep + 1) (deep + 1) ∷ CloseBracket ∷ later)

abbrev pub operand : ℕ → ℕ → List Symbol → TokenKind → Reaction
operand after deep later k.Identifier = Takes 0 (Suffix deep ∷ Operators after ∷ later)
operand after deep later k.Integer = Takes 0 (Operators after ∷ later)
operand after deep later k.Str = Takes 0 (Operators after ∷ later)
operand after deep later k.True = Takes 0 (Operators after ∷ later)
operand after deep later k.False = Takes 0 (Operators after ∷ later)
operand after deep later k.Not = Takes (deep + 1) (Operand after (deep + 1) ∷ later)
operand after deep later k.OpenParen = Takes (deep + 1) (Operand (deep + 1) (deep + 1) ∷ CloseParen ∷ Operators after ∷ later)
operand after deep later k.OpenBracket = Takes (deep + 1) (Items (deep + 1) ∷ Operators after ∷ later)
operand after deep later k.OpenBrace = inside_brace deep (Operators after ∷ later)
operand after deep later _ = Refuses

-- the operand behind an operator
abbrev pub right_operand : ℕ → Reaction
right_operand deep = Takes (deep + 1) (Operand (deep + 1) (deep + 1) ∷ [])

abbrev pub operators : ℕ → TokenKind → Reaction
operators deep k.Plus = right_operand deep
operators deep k.Minus = right_operand deep
operators deep k.Less = right_operand deep
operators deep k.LessEqual = right_operand deep
operators deep k.Greater = right_operand deep
operators deep k.GreaterEqual = right_operand deep
operators deep k.Equal = right_operand deep
operators deep k.NotEqual = right_operand deep
operators deep k.And = right_operand deep
operators deep k.Or = right_operand deep
operators deep _ = Passes

abbrev pub suffix : ℕ → TokenKind → Reaction
suffix deep k.OpenParen = inside_args deep []
suffix deep k.OpenBracket = inside_index deep []
suffix deep k.Dot = Takes 0 (Name ∷ [])
suffix deep _ = Passes

abbrev pub sign : ℕ → TokenKind → Reaction
sign deep k.Assign = Takes 0 (Operand deep deep ∷ [])
sign deep k.AddAssign = Takes 0 (Operand deep deep ∷ [])
sign deep k.SubAssign = Takes 0 (Operand deep deep ∷ [])
sign deep _ = Refuses

abbrev pub head : ℕ → TokenKind → Reaction
head deep k.OpenParen = inside_args deep []
head deep k.OpenBracket = inside_index deep (Sign deep ∷ [])
head deep k.Dot = Takes 0 (Name ∷ Sign deep ∷ [])
head deep kind = sign deep kind

abbrev pub statements : ℕ → TokenKind → Reaction
statements deep k.Identifier = Takes 0 (Head deep ∷ Statements deep ∷ [])
statements deep k.If = Takes 0 (Test deep ∷ Block deep ∷ ElseOr deep ∷ Statements deep ∷ [])
statements deep _ = Passes

abbrev pub test : ℕ → TokenKind → Reaction
test deep k.OpenParen = Takes (deep + 1) (Operand (deep + 1) (deep + 1) ∷ CloseParen ∷ [])
test deep _ = Refuses

abbrev pub block : ℕ → TokenKind → Reaction
block deep k.OpenBrace = inside_brace deep []
block deep _ = Refuses

abbrev pub block_or : ℕ → TokenKind → Reaction
block_or deep k.OpenBrace = inside_brace deep []
block_or deep _ = Passes

abbrev pub else_or : ℕ → TokenKind → Reaction
else_or deep k.Else = Takes 0 (ElseBody deep ∷ [])
else_or deep _ = Passes

abbrev pub else_body : ℕ → TokenKind → Reaction
else_body deep k.If = Takes (deep + 1) (Test (deep + 1) ∷ Block (deep + 1) ∷ ElseOr (deep + 1) ∷ [])
else_body deep k.OpenBrace = inside_brace deep []
else_body deep _ = Refuses

abbrev pub args : ℕ → TokenKind → Reaction
args deep k.CloseParen = Takes 0 []
args deep kind = operand deep deep (MoreArgs deep ∷ []) kind

abbrev pub more_args : ℕ → TokenKind → Reaction
more_args deep k.CloseParen = Takes 0 []
more_args deep k.Comma = Takes 0 (Operand deep deep ∷ MoreArgs deep ∷ [])
more_args deep _ = Refuses

abbrev pub items : ℕ → TokenKind → Reaction
items deep k.CloseBracket = Takes 0 []
items deep kind = operand deep deep (MoreItems deep ∷ []) kind

abbrev pub more_items : ℕ → TokenKind → Reaction
more_items deep k.CloseBracket = Takes 0 []
more_items deep k.Comma = Takes 0 (Items deep ∷ [])
more_items deep _ = Refuses

-- a symbol that takes just the tokens of one kind
abbrev pub only : TokenKind → TokenKind → Reaction
only k.Identifier k.Identifier = Takes 0 []
only k.CloseParen k.CloseParen = Takes 0 []
only k.CloseBracket k.CloseBracket = Takes 0 []
only k.CloseBrace k.CloseBrace = Takes 0 []
only _ _ = Refuses

-- The nesting of a token is the sum of four counts. Each symbol carries that sum, which grows by one in four places:
-- * the brackets that are open before it: in `inside_brace`, `inside_args`, `inside_index`, and at the `(` and `[` of `operand` and the `(` of `test`;
--   what comes behind the closing bracket carries the nesting from before the opening one;
-- * the `!` before it whose operands are not complete: at the `!` of `operand`; the operators behind the operand carry `after`, the nesting from before the first `!`;
-- * the binary operators already read in each expression, outside its brackets, that is still open: in `right_operand`, behind which `operand` goes on
--   with this nesting; what comes behind the whole expression carries the nesting from before it;
-- * the `else if` of each chain of conditions that is still open: at the `if` of `else_body`; what comes behind the chain carries the nesting from before it.
abbrev pub react : Symbol → TokenKind → Reaction
react (Statements deep) = statements deep
react (Head deep) = head deep
react (Sign deep) = sign deep
react (Test deep) = test deep
react (Block deep) = block deep
react (BlockOr deep) = block_or deep
react (ElseOr deep) = else_or deep
react (ElseBody deep) = else_body deep
react (Operand after deep) = operand after deep []
react (Suffix deep) = suffix deep
react (Operators deep) = operators deep
react (Args deep) = args deep
react (MoreArgs deep) = more_args deep
react (Items deep) = items deep
react (MoreItems deep) = more_items deep
react Name = only k.Identifier
react CloseParen = only k.CloseParen
react CloseBracket = only k.CloseBracket
react CloseBrace = only k.CloseBrace

-- the nesting and the symbols behind a token, or none where it cannot come
abbrev pub reacted : Reaction → List Symbol → Option (ℕ × List Symbol) → Option (ℕ × List Symbol)
reacted (Takes deep wanted) stack below = Some (deep, wanted ++ stack)
reacted Passes stack below = below
reacted Refuses stack below = None

abbrev pub next : List Symbol → TokenKind → Option (ℕ × List Symbol)
next [] kind = None
next (s ∷ stack) kind = reacted (react s kind) stack (next stack kind)

-- The file may end where this is wanted.
abbrev pub may_end : Symbol → Bool
may_end (Statements deep) = true
may_end (BlockOr deep) = true
may_end (ElseOr deep) = true
may_end (Suffix deep) = true
may_end (Operators deep) = true
may_end _ = false

abbrev pub is_done : List Symbol → Bool
is_done [] = true
is_done (s ∷ stack) = if may_end s then is_done stack else false

-- what is wanted of a whole file
abbrev pub whole_file : List Symbol
whole_file = Statements 0 ∷ []

-- a file, or its first error
pub data Verdict : Type 0 where
  Good : Verdict
  Bad : SyntaxFault → Verdict

-- the nesting that no token may exceed
abbrev pub max_nesting : ℕ
max_nesting = 200

abbrev pub judged : Option (ℕ × List Symbol) → ℕ → (List Symbol → Verdict) → Verdict
judged None at go = Bad (Unexpected at)
judged (Some x) at go = if nat_lt max_nesting x.0 then Bad (TooDeep at) else go x.1

-- the verdict behind the last token
abbrev pub verdict_at : Last → List Symbol → Verdict
verdict_at (End offset) stack = if is_done stack then Good else Bad (Unexpected offset)
verdict_at (Wrong error) stack = Bad (Token error)

-- the first error of the tokens where these symbols are wanted
abbrev pub verdict : Last → List Symbol → List Lexeme → Verdict
verdict last stack [] = verdict_at last stack
verdict last stack (t ∷ ts) = judged (next stack t.kind) t.start (λ wanted. verdict last wanted ts)
