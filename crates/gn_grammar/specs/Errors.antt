-- What a file and an expression are, and which error stands where, in the words of the grammar.
use Rattle.std.specs.Prelude.{◌≡◌, ℕ, ◌≤◌, ◌<◌, List, [], ◌∷◌, ◌++◌, Option, Some, None, ⊤}
use Rattle.gn_tree.specs.Tree.{ExprTree, BlockTree}
use Rattle.gn_tokens.specs.declared.token.TokenError.{TokenError}
use Rattle.gn_grammar.specs.declared.fault.SyntaxFault.{SyntaxFault}
use Rattle.gn_grammar.specs.declared.fault.SyntaxFault.TheVariants.{Token, Unexpected, TooDeep}
use Rattle.gn_grammar.specs.Lexemes.{Lexeme, Last, End, Wrong, lexemes, last_of}
use Rattle.gn_grammar.specs.Grammar.{Spells, SpellsStatements}
use Rattle.gn_grammar.specs.Machine.{Symbol, next, max_nesting}
use Rattle.gn_grammar.specs.Start.{Start, File, Expression, IsWhole, BeginsWhole, wanted_of}

-- Nothing of the kind begins with the tokens before and the first token behind them. The end of the bytes counts as a token.
abbrev pub IsRefused : Start → List Lexeme → List Lexeme → Type 0
IsRefused start before [] = ¬ IsWhole start before
IsRefused start before (t ∷ later) = ¬ BeginsWhole start (before ++ t ∷ [])

-- where the next token stands, if not the end of the bytes; none where no token comes, because of an error
abbrev pub next_offset : Last → List Lexeme → Option ℕ
next_offset (End offset) [] = Some offset
next_offset (Wrong error) [] = None
next_offset last (t ∷ later) = Some t.start

-- The nesting of the last of the tokens, counted where it opens a bracket, or is a `!`, an operator between operands or the `if` of an `else if`, and else 0.
-- The four counts are those of `react`; that they are those of the tree is proved.
abbrev pub deep_after : Option (ℕ × List Symbol) → (List Symbol → ℕ) → List Lexeme → ℕ
deep_after None go ts = 0
deep_after (Some x) go [] = x.0
deep_after (Some x) go (t ∷ ts) = go x.1

abbrev pub nesting_from : List Symbol → List Lexeme → ℕ
nesting_from stack [] = 0
nesting_from stack (t ∷ ts) = deep_after (next stack t.kind) (λ wanted. nesting_from wanted ts) ts

abbrev pub nesting : Start → List Lexeme → ℕ
nesting start tokens = nesting_from (wanted_of start) tokens

-- No token among these, which stand behind the ones before, is too deep.
abbrev pub NoneTooDeep : Start → List Lexeme → List Lexeme → Type 0
NoneTooDeep start before [] = ⊤
NoneTooDeep start before (t ∷ later) = (nesting start (before ++ t ∷ []) ≤ max_nesting) × NoneTooDeep start (before ++ t ∷ []) later

-- At this offset stands the first token such that no file, or no expression, begins with the tokens up to it, and no token before it is too deep.
pub record IsUnexpected (start : Start) (bytes : List ℕ) (offset : ℕ) : Type 0 where
  pub before : List Lexeme
  pub later : List Lexeme
  pub split : lexemes bytes ≡ before ++ later
  pub here : next_offset (last_of bytes) later ≡ Some offset
  pub first : BeginsWhole start before
  pub refused : IsRefused start before later
  pub shallow : NoneTooDeep start [] before

-- At this offset stands the first token that makes the nesting exceed the limit, and some file, or some expression, begins with the tokens up to it.
pub record IsTooDeep (start : Start) (bytes : List ℕ) (offset : ℕ) : Type 0 where
  pub before : List Lexeme
  pub token : Lexeme
  pub later : List Lexeme
  pub split : lexemes bytes ≡ before ++ token ∷ later
  pub here : token.start ≡ offset
  pub first : BeginsWhole start (before ++ token ∷ [])
  pub deep : max_nesting < nesting start (before ++ token ∷ [])
  pub shallow : NoneTooDeep start [] before

-- The tokens end with this error. Some file, or some expression, begins with those before it, and none of them is too deep.
pub record IsTokenError (start : Start) (bytes : List ℕ) (error : TokenError) : Type 0 where
  pub last : last_of bytes ≡ Wrong error
  pub first : BeginsWhole start (lexemes bytes)
  pub shallow : NoneTooDeep start [] (lexemes bytes)

-- The error is the first of these bytes, read as a file or as an expression.
abbrev pub IsErrorOf : Start → SyntaxFault → List ℕ → Type 0
IsErrorOf start (Token error) bytes = IsTokenError start bytes error
IsErrorOf start (Unexpected offset) bytes = IsUnexpected start bytes offset
IsErrorOf start (TooDeep offset) bytes = IsTooDeep start bytes offset

-- The bytes spell this tree of a file, and no token of them is too deep.
pub record IsTree (bytes : List ℕ) (tree : BlockTree) : Type 0 where
  pub offset : ℕ
  pub ends : last_of bytes ≡ End offset
  pub spells : SpellsStatements tree (lexemes bytes) []
  pub shallow : NoneTooDeep File [] (lexemes bytes)

-- The bytes spell this one expression, and no token of them is too deep.
pub record IsExpr (bytes : List ℕ) (tree : ExprTree) : Type 0 where
  pub offset : ℕ
  pub ends : last_of bytes ≡ End offset
  pub spells : Spells 1 tree (lexemes bytes) []
  pub shallow : NoneTooDeep Expression [] (lexemes bytes)
