-- What a block and an expression leave around them, and what a list that is written out is.
use Rattle.std.specs.Prelude.{◌≡◌, ℕ, List, [], ◌∷◌}
use Rattle.gn_tree.specs.declared.position.Position.{Position}
use Rattle.gn_tree.specs.Tree.{ExprTree, list_expr, ExprTrees, no_exprs, expr_then, BlockTree}
use Rattle.gn_values.specs.Val.{Val}
use Rattle.gn_items.specs.Effects.{Effects}
use Rattle.gn_runs.specs.Runs.{Answers, ended}
use Rattle.gn_environment.specs.Environment.{Environment}
use Rattle.gn_environment.specs.Surroundings.{surroundings}
use Rattle.gn_meaning.specs.Steps.{Left, Steps, World, deeper, then_do, ends}
use Rattle.gn_meaning.specs.Words.{list_runs}
use Rattle.gn_meaning.specs.Meaning.{expr_runs, block_runs, world}

-- a block that ends, however deep it nests and however many calls of templates may still open, leaves what stands around the scope in which it runs
abbrev pub BlocksKeepSurroundings : Type 0
BlocksKeepSurroundings =
    (room nesting : ℕ) (answers : Answers) (block : BlockTree) (env : Environment) (out : Effects) (left : Left (Unit {0}))
    → (block_runs (world room answers) nesting block env out).end ≡ ended left → surroundings left.environment ≡ surroundings env

-- the same of an expression that has a value
abbrev pub ExpressionsKeepSurroundings : Type 0
ExpressionsKeepSurroundings =
    (room nesting : ℕ) (answers : Answers) (expression : ExprTree) (env : Environment) (out : Effects) (left : Left Val)
    → (expr_runs (world room answers) nesting expression env out).end ≡ ended left → surroundings left.environment ≡ surroundings env

-- the expressions, in order
abbrev pub exprs_in : ExprTrees → List ExprTree
exprs_in no_exprs = []
exprs_in (expr_then e es) = e ∷ exprs_in es

-- steps one behind another, each in what those before it left: the list of their values, or the first of them that doesn't end
abbrev pub all_of : {A B : Type 0} → (A → Steps B) → List A → Steps (List B)
all_of step [] env out = ends [] env out
all_of step (x ∷ xs) env out = then_do (step x env out) (λ v env1 out1. then_do (all_of step xs env1 out1) (λ vs env2 out2. ends (v ∷ vs) env2 out2))

-- a list that is written out is the list of the values of its items, unless that is above the limits, or else their first fault
abbrev pub ListsAreTheirValues : Type 0
ListsAreTheirValues =
    (w : World) (nesting : ℕ) (position : Position) (items : ExprTrees) (env : Environment) (out : Effects)
    → expr_runs w nesting (list_expr position items) env out
    ≡ then_do (all_of (expr_runs w (deeper nesting 1)) (exprs_in items) env out) (λ vs env1 out1. list_runs vs position env1 out1)
