-- What bytes are read as, as a file and as one expression.
use Rattle.std.specs.Prelude.{◌≡◌, ℕ, List, ◌⊎◌, Option, Some, None, MatchOption, Result, Ok, Err, ⊤}
use Rattle.std.proofs.Common.{inl, inr}
use Rattle.gn_tree.specs.Tree.{ExprTree, BlockTree}
use Rattle.gn_grammar.specs.declared.fault.SyntaxFault.{SyntaxFault}
use Rattle.gn_grammar.specs.declared.fault.SyntaxFault.TheVariants as fault
use Rattle.gn_grammar.specs.Start.{File, Expression}
use Rattle.gn_grammar.specs.Errors.{IsErrorOf, IsTree, IsExpr}
use Rattle.gn_grammar.proofs.OneAnswer.{one_answer, one_expr_answer}
use Rattle.gn_syntax.specs.declared.error.SyntaxError.{SyntaxError}
use Rattle.gn_syntax.specs.declared.error.SyntaxError.TheVariants.{Token, Unexpected, TooDeep, Memory}

-- the tree, or the error
abbrev pub read_as : (Tree : Type 0) (Is : Tree → Type 0) (First : SyntaxFault → Type 0) → ((tree : Tree) × Is tree) ⊎ ((error : SyntaxFault) × First error) → Result Tree SyntaxFault
read_as Tree Is First (inl spelled) = Ok spelled.0
read_as Tree Is First (inr refused) = Err refused.0

-- the tree of a file that the bytes spell, or their first error: each list of bytes has just one of these
unfoldable pub reading : List ℕ → Result BlockTree SyntaxFault
reading bytes = read_as BlockTree (IsTree bytes) (λ e. IsErrorOf File e bytes) (one_answer bytes).some_answer

-- the same of one expression
unfoldable pub expr_reading : List ℕ → Result ExprTree SyntaxFault
expr_reading bytes = read_as ExprTree (IsExpr bytes) (λ e. IsErrorOf Expression e bytes) (one_expr_answer bytes).some_answer

-- The bytes are read so as a file: as a tree that they spell, or as their first error.
abbrev pub IsReading : List ℕ → Result BlockTree SyntaxFault → Type 0
IsReading bytes (Ok tree) = IsTree bytes tree
IsReading bytes (Err error) = IsErrorOf File error bytes

-- the same of one expression
abbrev pub IsExprReading : List ℕ → Result ExprTree SyntaxFault → Type 0
IsExprReading bytes (Ok tree) = IsExpr bytes tree
IsExprReading bytes (Err error) = IsErrorOf Expression error bytes

-- the error of the bytes that a call answers; none where memory was wanting
abbrev pub fault_of : SyntaxError → Option SyntaxFault
fault_of (Token error) = Some (fault.Token error)
fault_of (Unexpected offset) = Some (fault.Unexpected offset)
fault_of (TooDeep offset) = Some (fault.TooDeep offset)
fault_of Memory = None

-- What a call answers is what is meant, or memory was wanting.
abbrev pub IsAnswer : {A : Type 0} → Result A SyntaxError → Result A SyntaxFault → Type 0
IsAnswer (Ok x) meant = meant ≡ Ok x
IsAnswer (Err error) meant = MatchOption (fault_of error) ⊤ (λ found. meant ≡ Err found)
