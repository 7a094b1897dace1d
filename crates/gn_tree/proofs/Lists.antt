-- Lists of the program's expressions and statements, seen as trees: what a loop over them or a growing list needs.
use Rattle.std.proofs.Common.{◌≡◌, ℕ, zero, suc, ◌+◌, ◌<◌, ◌≤◌, List, [], ◌∷◌, ◌++◌, length, get_or, drop, refl, sym, ap, ◌∙◌, arith}
use Rattle.std.proofs.lemmas.List.{drop_more}
use Rattle.gn_tree.specs.Tree.{ExprTrees, no_exprs, expr_then, BlockTree, no_statements, statement_then}
use Rattle.gn_tree.specs.Depth.{expr_depth, exprs_depth, statement_depth, block_depth}
use Rattle.gn_tree.specs.Counts.{expr_count, statement_count}
use Rattle.gn_tree.specs.Appended.{exprs_append, statements_append}
use Rattle.gn_tree.specs.Views.{expr_of, exprs_of, statement_of, block_of}
use Rattle.gn_tree.specs.declared.tree.Expr.{Expr}
use Rattle.gn_tree.specs.declared.tree.Statement.{Statement}

-- as many as the list has
pub expr_count-exprs_of : (es : List Expr) → expr_count (exprs_of es) ≡ length es
expr_count-exprs_of [] = refl
expr_count-exprs_of (e ∷ es) = ap suc (expr_count-exprs_of es)

pub statement_count-block_of : (ss : List Statement) → statement_count (block_of ss) ≡ length ss
statement_count-block_of [] = refl
statement_count-block_of (s ∷ ss) = ap suc (statement_count-block_of ss)

pub ruleset counts = (expr_count-exprs_of, statement_count-block_of)

-- one list behind another
pub exprs_of-append : (es fs : List Expr) → exprs_of (es ++ fs) ≡ exprs_append (exprs_of es) (exprs_of fs)
exprs_of-append [] fs = refl
exprs_of-append (e ∷ es) fs = ap (expr_then (expr_of e)) (exprs_of-append es fs)

pub block_of-append : (ss ts : List Statement) → block_of (ss ++ ts) ≡ statements_append (block_of ss) (block_of ts)
block_of-append [] ts = refl
block_of-append (s ∷ ss) ts = ap (statement_then (statement_of s)) (block_of-append ss ts)

pub exprs_append-assoc : (es fs gs : ExprTrees) → exprs_append (exprs_append es fs) gs ≡ exprs_append es (exprs_append fs gs)
exprs_append-assoc no_exprs fs gs = refl
exprs_append-assoc (expr_then e es) fs gs = ap (expr_then e) (exprs_append-assoc es fs gs)

pub statements_append-assoc : (b c d : BlockTree) → statements_append (statements_append b c) d ≡ statements_append b (statements_append c d)
statements_append-assoc no_statements c d = refl
statements_append-assoc (statement_then s b) c d = ap (statement_then s) (statements_append-assoc b c d)

pub exprs_append-no_exprs : (es : ExprTrees) → exprs_append es no_exprs ≡ es
exprs_append-no_exprs no_exprs = refl
exprs_append-no_exprs (expr_then e es) = ap (expr_then e) (exprs_append-no_exprs es)

pub statements_append-no_statements : (b : BlockTree) → statements_append b no_statements ≡ b
statements_append-no_statements no_statements = refl
statements_append-no_statements (statement_then s b) = ap (statement_then s) (statements_append-no_statements b)

-- what is left of a list from a place on: the item there, and what is left behind it
pub exprs_of-drop : (es : List Expr) (i : ℕ) (e : Expr) → i < length es → e ≡ get_or es i e → exprs_of (drop i es) ≡ expr_then (expr_of e) (exprs_of (drop (i + 1) es))
exprs_of-drop es i e h is = ap exprs_of (drop_more es i e h) ∙ ap (λ x. expr_then (expr_of x) (exprs_of (drop (i + 1) es))) (sym is)

pub block_of-drop : (ss : List Statement) (i : ℕ) (s : Statement) → i < length ss → s ≡ get_or ss i s → block_of (drop i ss) ≡ statement_then (statement_of s) (block_of (drop (i + 1) ss))
block_of-drop ss i s h is = ap block_of (drop_more ss i s h) ∙ ap (λ x. statement_then (statement_of x) (block_of (drop (i + 1) ss))) (sym is)

-- no item of a list is deeper than the list
pub exprs_depth-item : (es : List Expr) (i : ℕ) (e : Expr) → i < length es → e ≡ get_or es i e → expr_depth (expr_of e) ≤ exprs_depth (exprs_of (drop i es))
exprs_depth-item es i e h is = rw (exprs_of-drop es i e h is) (omega arith)

pub block_depth-item : (ss : List Statement) (i : ℕ) (s : Statement) → i < length ss → s ≡ get_or ss i s → statement_depth (statement_of s) ≤ block_depth (block_of (drop i ss))
block_depth-item ss i s h is = rw (block_of-drop ss i s h is) (omega arith)

-- what is left of a list is no deeper than the list
pub exprs_depth-drop : (i : ℕ) (es : List Expr) → exprs_depth (exprs_of (drop i es)) ≤ exprs_depth (exprs_of es)
exprs_depth-drop zero es = omega arith
exprs_depth-drop (suc i) [] = omega arith
exprs_depth-drop (suc i) (e ∷ es) = omega (arith, exprs_depth-drop i es)

pub block_depth-drop : (i : ℕ) (ss : List Statement) → block_depth (block_of (drop i ss)) ≤ block_depth (block_of ss)
block_depth-drop zero ss = omega arith
block_depth-drop (suc i) [] = omega arith
block_depth-drop (suc i) (s ∷ ss) = omega (arith, block_depth-drop i ss)
