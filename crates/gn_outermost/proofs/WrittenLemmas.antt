-- Slices of one item.
use Rattle.std.proofs.Common.{◌≡◌, ℕ, List, [], ◌∷◌, ◌≤◌, ◌<◌, length, get_or, refl, sym, ap, ◌∙◌, arith}
use Rattle.gn_tree.specs.declared.tree.Expr.{Expr}
use Rattle.gn_tree.specs.declared.piece.Piece.{Piece}
use Rattle.gn_tree.specs.declared.piece.Piece.TheVariants.{Bytes}
use Rattle.gn_tree.specs.Tree.{expr_then, no_exprs}
use Rattle.gn_tree.specs.Views.{expr_of, exprs_of}
use Rattle.gn_outermost.specs.Written.{IsLiteral, IsWrittenOut}

alone : {A : Type 0} (xs : List A) (x : A) → 1 ≤ length xs → length xs < 2 → x ≡ get_or xs 0 x → xs ≡ x ∷ []
alone [] x h g is = absurd (omega arith)
alone (y ∷ []) x h g is = ap (λ z. z ∷ []) (sym is)
alone (y ∷ z ∷ xs) x h g is = absurd (omega arith)

pub one_piece : (pieces : List Piece) (piece : Piece) (text : List ℕ) → 1 ≤ length pieces → length pieces < 2 → piece ≡ get_or pieces 0 piece → piece ≡ Bytes text → pieces ≡ Bytes text ∷ []
one_piece pieces piece text h g is same = alone pieces piece h g is ∙ ap (λ z. z ∷ []) same

pub one_expr : (exprs : List Expr) (expr : Expr) (text : List ℕ) → 1 ≤ length exprs → length exprs < 2 → expr ≡ get_or exprs 0 expr → IsLiteral (expr_of expr) text → IsWrittenOut (exprs_of exprs) text
one_expr exprs expr text h g is same = (same.0, ap exprs_of (alone exprs expr h g is) ∙ ap (λ e. expr_then e no_exprs) same.1)
