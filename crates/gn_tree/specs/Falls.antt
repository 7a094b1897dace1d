-- The parts of a tree are less deep.
use Rattle.std.specs.Prelude.{◌≤◌, List, [], ◌∷◌, Some, None}
use Rattle.std.proofs.Common.{arith}
use denote.Param.Weighed.{most}
use Rattle.gn_tree.specs.Depth.{expr_depth, exprs_depth, call_depth, target_depth, statement_depth, condition_depth, otherwise_depth, block_depth}
use Rattle.gn_tree.specs.Views.{call_of, expr_of, exprs_of, target_of, otherwise_of, condition_of, statement_of, block_of}
use Rattle.gn_tree.specs.declared.tree.Expr.{Expr}
use Rattle.gn_tree.specs.declared.tree.Expr.TheVariants.{Name, Integer, String, Boolean, Call as CallExpr, Item, Entry, Scope, Parentheses, List as ListExpr, Not, Binary}
use Rattle.gn_tree.specs.declared.tree.Call.{Call}
use Rattle.gn_tree.specs.declared.tree.Target.{Target}
use Rattle.gn_tree.specs.declared.tree.Target.TheVariants.{Name as NameTarget, Item as ItemTarget, Entry as EntryTarget}
use Rattle.gn_tree.specs.declared.tree.Statement.{Statement}
use Rattle.gn_tree.specs.declared.tree.Statement.TheVariants.{Assignment, Call as CallStatement, Condition as ConditionStatement}
use Rattle.gn_tree.specs.declared.tree.Condition.{Condition}
use Rattle.gn_tree.specs.declared.tree.Otherwise.{Otherwise}
use Rattle.gn_tree.specs.declared.tree.Otherwise.TheVariants.{Nothing, Else, ElseIf}
use Rattle.gn_tree.specs.declared.tree.Block.TheDeep.{deep-Call, deep-Expr, deep-Target, deep-Otherwise, deep-Condition, deep-Statement}

call_falls : (c : Call) → deep-Call c ≤ call_depth (call_of c)
call_falls c =
    elim c.block as (λ b. deep-Call (record c { block = b }) ≤ call_depth (call_of (record c { block = b }))) [ None ↦ omega arith | Some b ↦ omega arith ]

pub expr_falls : (e : Expr) → deep-Expr e ≤ expr_depth (expr_of e)
expr_falls (Name p n) = omega arith
expr_falls (Integer p v) = omega arith
expr_falls (String p ps) = omega arith
expr_falls (Boolean p v) = omega arith
expr_falls (CallExpr c) = omega (arith, call_falls c)
expr_falls (Item p n b i) = omega arith
expr_falls (Entry p n d e) = omega arith
expr_falls (Scope p b) = omega arith
expr_falls (Parentheses p e) = omega arith
expr_falls (ListExpr p es) = omega arith
expr_falls (Not p e) = omega arith
expr_falls (Binary o p l r) = omega arith

pub exprs_fall : (es : List Expr) → most (λ e. deep-Expr e) es ≤ exprs_depth (exprs_of es)
exprs_fall [] = omega arith
exprs_fall (e ∷ es) = omega (arith, expr_falls e, exprs_fall es)

target_falls : (t : Target) → deep-Target t ≤ target_depth (target_of t)
target_falls (NameTarget p n) = omega arith
target_falls (ItemTarget p n b i) = omega (arith, expr_falls i)
target_falls (EntryTarget p n d e) = omega arith

otherwise_falls : (o : Otherwise) → deep-Otherwise o ≤ otherwise_depth (otherwise_of o)
otherwise_falls Nothing = omega arith
otherwise_falls (Else b) = omega arith
otherwise_falls (ElseIf c) = omega arith

pub condition_falls : (c : Condition) → deep-Condition c ≤ condition_depth (condition_of c)
condition_falls c = omega (arith, expr_falls c.test, otherwise_falls c.otherwise)

statement_falls : (s : Statement) → deep-Statement s ≤ statement_depth (statement_of s)
statement_falls (Assignment t o p e) = omega (arith, target_falls t, expr_falls e)
statement_falls (CallStatement c) = omega (arith, call_falls c)
statement_falls (ConditionStatement c) = omega (arith, condition_falls c)

pub block_falls : (ss : List Statement) → most (λ s. deep-Statement s) ss ≤ block_depth (block_of ss)
block_falls [] = omega arith
block_falls (s ∷ ss) = omega (arith, statement_falls s, block_falls ss)
