-- Arguments that are written out.
use Rattle.std.specs.Prelude.{◌≡◌, ℕ, List, [], ◌∷◌}
use Rattle.gn_tree.specs.declared.position.Position.{Position}
use Rattle.gn_tree.specs.declared.piece.Piece.TheVariants.{Bytes}
use Rattle.gn_tree.specs.Tree.{ExprTree, string_expr, ExprTrees, no_exprs, expr_then}

-- a string literal without expansions
abbrev pub IsLiteral : ExprTree → List ℕ → Type 0
IsLiteral e text = (quote : Position) × (e ≡ string_expr quote (Bytes text ∷ []))

-- it is the only argument
abbrev pub IsWrittenOut : ExprTrees → List ℕ → Type 0
IsWrittenOut es text = (quote : Position) × (es ≡ expr_then (string_expr quote (Bytes text ∷ [])) no_exprs)
