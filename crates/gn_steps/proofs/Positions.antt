-- The positions of arguments.
use Rattle.std.proofs.Common.{◌≡◌, ℕ, zero, suc, ◌<◌, ◌≤◌, List, [], ◌∷◌, length, get_or, refl, sym, ap, arith}
use Rattle.gn_tree.specs.declared.position.Position.{Position}
use Rattle.gn_tree.specs.declared.tree.Expr.{Expr}
use Rattle.gn_tree.specs.Views.{expr_of, exprs_of}
use Rattle.gn_tree.specs.FirstPosition.{first_position}
use Rattle.gn_meaning.specs.Arguments.{argument_position}

-- the argument of a number stands where its first token stands
pub position_at : (es : List Expr) (i : ℕ) (e : Expr) (p : Position) → i < length es → e ≡ get_or es i e → argument_position (exprs_of es) i p ≡ first_position (expr_of e)
position_at [] i e p l is = absurd (omega (arith, l))
position_at (x ∷ es) zero e p l is = ap (λ (y : Expr). first_position (expr_of y)) (sym is)
position_at (x ∷ es) (suc i) e p l is = position_at es i e p (omega (arith, l)) is

-- where there is no such argument it stands where the call does
pub position_past : (es : List Expr) (i : ℕ) (p : Position) → length es ≤ i → argument_position (exprs_of es) i p ≡ p
position_past [] i p l = refl
position_past (x ∷ es) zero p l = absurd (omega (arith, l))
position_past (x ∷ es) (suc i) p l = position_past es i p (omega (arith, l))
