-- What is proved of the grammar itself, whatever the parser's code is.
use Rattle.std.specs.Prelude.{◌≡◌, ℕ, ◌+◌, List, [], ◌∷◌, ◌⊎◌}
use Rattle.gn_tree.specs.Tree.{ExprTree, BlockTree}
use Rattle.gn_grammar.specs.declared.fault.SyntaxFault.{SyntaxFault}
use Rattle.gn_tokens.specs.Text.{Item}
use Rattle.gn_grammar.specs.Position.{position_of, further}
use Rattle.gn_grammar.specs.Lexemes.{End, lexemes, last_of}
use Rattle.gn_grammar.specs.Machine.{Verdict, Good, Bad, verdict}
use Rattle.gn_grammar.specs.Start.{Start, File, Expression, IsWhole, wanted_of}
use Rattle.gn_grammar.specs.Errors.{NoneTooDeep, IsTree, IsExpr, IsErrorOf}

-- There is just one tree or just one first error, and never both.
pub record OneAnswer (Tree : Type 0) (Is : Tree → Type 0) (First : SyntaxFault → Type 0) : Type 0 where
  pub some_answer : ((tree : Tree) × Is tree) ⊎ ((error : SyntaxFault) × First error)
  pub one_tree : (a b : Tree) → Is a → Is b → a ≡ b
  pub one_error : (e f : SyntaxFault) → First e → First f → e ≡ f
  pub not_both : (tree : Tree) (error : SyntaxFault) → Is tree → ¬ First error

-- The bytes spell just one tree of a file, or have just one first error, and never both.
abbrev pub HasOneAnswer : List ℕ → Type 0
HasOneAnswer bytes = OneAnswer BlockTree (IsTree bytes) (λ e. IsErrorOf File e bytes)

-- the same of one expression
abbrev pub HasOneExprAnswer : List ℕ → Type 0
HasOneExprAnswer bytes = OneAnswer ExprTree (IsExpr bytes) (λ e. IsErrorOf Expression e bytes)

-- The bytes are a file, or one expression, and no token of them is too deep.
pub record IsRight (start : Start) (bytes : List ℕ) : Type 0 where
  pub offset : ℕ
  pub ends : last_of bytes ≡ End offset
  pub whole : IsWhole start (lexemes bytes)
  pub shallow : NoneTooDeep start [] (lexemes bytes)

-- The bytes are as the verdict says.
abbrev pub IsAsJudged : Start → List ℕ → Verdict → Type 0
IsAsJudged start bytes Good = IsRight start bytes
IsAsJudged start bytes (Bad error) = IsErrorOf start error bytes

-- The machine's verdict on the bytes is right.
abbrev pub IsJudgedRightly : Start → List ℕ → Type 0
IsJudgedRightly start bytes = IsAsJudged start bytes (verdict (last_of bytes) (wanted_of start) (lexemes bytes))

-- The items stand where their positions say: the position so many bytes behind the offset, in the same line, is that of the byte there.
abbrev pub StandRightly : List ℕ → ℕ → List (ℕ × Item) → Type 0
StandRightly bytes start [] = Unit {0}
StandRightly bytes start (item ∷ items) = (further item.0 (position_of bytes start) ≡ position_of bytes (start + item.0)) × StandRightly bytes start items
