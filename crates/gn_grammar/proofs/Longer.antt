-- How the tree of an expression grows by an operator and an operand.
use Rattle.std.proofs.Common.{ℕ, ◌+◌, ◌≤◌, List, arith, ◌⊎◌, ⊎_elim}
use Rattle.gn_tree.specs.declared.position.Position.{Position}
use Rattle.gn_tree.specs.declared.operator.BinaryOp.{BinaryOp}
use Rattle.gn_tree.specs.declared.operator.BinaryOp.TheVariants as binary
use Rattle.gn_tree.specs.Tree.{ExprTree, binary_expr}
use Rattle.gn_grammar.specs.Lexemes.{Lexeme}
use Rattle.gn_grammar.specs.Grammar.{priority, mark_of, IsMark, Spells}

-- What binds so tightly binds less tightly too.
pub Spells_weaker : (m n : ℕ) (e : ExprTree) (s rest : List Lexeme) → n ≤ m → Spells m e s rest → Spells n e s rest
Spells_weaker m n (binary_expr o p l r) s rest le h = (h.0, h.1, omega (arith, h.2), h.3, h.4, h.5)
Spells_weaker m n _ s rest le h = h

pub one_le : (o : BinaryOp) → 1 ≤ priority o
one_le binary.Add = omega arith
one_le binary.Subtract = omega arith
one_le binary.Less = omega arith
one_le binary.LessEqual = omega arith
one_le binary.Greater = omega arith
one_le binary.GreaterEqual = omega arith
one_le binary.Equal = omega arith
one_le binary.NotEqual = omega arith
one_le binary.And = omega arith
one_le binary.Or = omega arith

pub le_six : (o : BinaryOp) → priority o + 1 ≤ 6
le_six binary.Add = omega arith
le_six binary.Subtract = omega arith
le_six binary.Less = omega arith
le_six binary.LessEqual = omega arith
le_six binary.Greater = omega arith
le_six binary.GreaterEqual = omega arith
le_six binary.Equal = omega arith
le_six binary.NotEqual = omega arith
le_six binary.And = omega arith
le_six binary.Or = omega arith

le_or_above : (a b : ℕ) → (a ≤ b) ⊎ (b + 1 ≤ a)
le_or_above a b = grind arith

-- An operator and an operand more, behind an expression, are an expression.
pub longer : (o : BinaryOp) (v : ℕ) (at : Position) (left r : ExprTree) (s mid s2 rest : List Lexeme) → v ≤ priority o → Spells v left s mid →
    IsMark (mark_of o) at mid s2 → Spells 6 r s2 rest → (e : ExprTree) × Spells v e s rest
longer o v at (binary_expr o2 at2 l r2) r s mid s2 rest le h t sp =
    ⊎_elim
    (λ high. (
      binary_expr o at (binary_expr o2 at2 l r2) r,
      (mid, s2, le, (h.0, h.1, high, h.3, h.4, h.5), t, Spells_weaker 6 (priority o + 1) r s2 rest (le_six o) sp),
    ))
    (λ low. let inner = longer o (priority o2 + 1) at r2 r h.1 mid s2 rest low h.5 t sp in
    (binary_expr o2 at2 l inner.0, (h.0, h.1, h.2, h.3, h.4, inner.1)))
    (le_or_above (priority o) (priority o2))
longer o v at left r s mid s2 rest le h t sp = (binary_expr o at left r, (mid, s2, le, h, t, Spells_weaker 6 (priority o + 1) r s2 rest (le_six o) sp))
