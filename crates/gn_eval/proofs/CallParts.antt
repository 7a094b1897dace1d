-- A call of the program, as the meaning has it.
use Rattle.std.proofs.Common.{◌≡◌, ℕ, Bool, true, false, if◌then◌else◌, List, [], ◌∷◌, Option, Some, None, refl, ap, ◌++◌, ◌+◌, suc, length, get_or, drop, add-one, drop-cons, ◌≤◌, ◌<◌, sym, ◌∙◌, arith}
use Rattle.gn_tree.specs.declared.tree.Call.{Call}
use Rattle.gn_tree.specs.declared.tree.Expr.{Expr}
use Rattle.gn_tree.specs.declared.position.Position.{Position}
use Rattle.gn_tree.specs.FirstPosition.{first_position}
use Rattle.gn_tree.specs.Tree.{ExprTree, name_expr, item_expr, ExprTrees, no_exprs, expr_then, BlockTree}
use Rattle.gn_tree.specs.Depth.{exprs_depth}
use Rattle.gn_tree.specs.Views.{expr_of, exprs_of, body_of, call_of}
use Rattle.gn_values.specs.Val.{Val}
use Rattle.gn_definitions.specs.Imported.{DefinitionState}
use Rattle.gn_environment.specs.Templates.{template_of}
use Rattle.gn_items.specs.Effects.{Effects}
use Rattle.gn_runs.specs.Runs.{Answers}
use Rattle.gn_environment.specs.Environment.{Environment}
use Rattle.gn_meaning.specs.Steps.{Steps, World, deeper, then_do}
use Rattle.gn_meaning.specs.Words.{base_runs}
use Rattle.gn_meaning.specs.Calls.{has_entry_runs, loop_runs}
use Rattle.gn_meaning.specs.FunctionCalls.{given_runs, template_called_runs, built_in_runs, template_or_built_in, called_runs}
use Rattle.gn_meaning.specs.Meaning.{block_in, world, calls, block_runs, expr_runs, call_runs, values_run, others_run, defined_runs, foreach_runs}
use Rattle.gn_steps.specs.Evaluated.{without_first}
use Rattle.gn_eval.specs.Parts.{parts}

block_back : (b : Option BlockTree) → block_in (body_of b) ≡ b
block_back None = refl
block_back (Some b) = refl

-- a call is that of its parts
pub called : (w : World) (n : ℕ) (call : Call) (env : Environment) (out : Effects) → call_runs w n (call_of call) env out ≡ called_runs w.answers w.call n (deeper n 1) call (parts w n call) env out
unfolding call_runs
called w n call env out =
    ap (λ (b : Option BlockTree). called_runs w.answers w.call n (deeper n 1) (record { position = call.position; name = call.name; arguments = call.arguments; block = b }) (parts w n call) env out) (block_back call.block)

-- which of the two it is
pub called_template : (w : World) (n : ℕ) (call : Call) (env : Environment) (out : Effects) (definition : DefinitionState) → template_of call.name env ≡ Some definition → call_runs w n (call_of call) env out ≡ template_called_runs w.call definition n call (parts w n call) env out
unfolding called_runs
called_template w n call env out definition h =
    called w n call env out ∙ ap (λ (d : Option DefinitionState). template_or_built_in d w.answers w.call n (deeper n 1) call (parts w n call) env out) h

pub called_built_in : (w : World) (n : ℕ) (call : Call) (env : Environment) (out : Effects) → template_of call.name env ≡ None → call_runs w n (call_of call) env out ≡ built_in_runs w.answers w.call n (deeper n 1) call (parts w n call) env out
unfolding called_runs
called_built_in w n call env out h =
    called w n call env out ∙ ap (λ (d : Option DefinitionState). template_or_built_in d w.answers w.call n (deeper n 1) call (parts w n call) env out) h

others_same : (w : World) (n : ℕ) (es : ExprTrees) (env : Environment) (out : Effects) → others_run w n es env out ≡ values_run w n (without_first es) [] env out
unfolding others_run
others_same w n no_exprs env out = refl
others_same w n (expr_then e es) env out = refl

-- the values of the arguments that are evaluated
pub given_values : (w : World) (n : ℕ) (call : Call) (invoker : Bool) (env : Environment) (out : Effects) → given_runs invoker (parts w n call) env out ≡ values_run w (deeper n 1) (if invoker then without_first call.arguments else call.arguments) [] env out
given_values w n call true env out = others_same w (deeper n 1) call.arguments env out
given_values w n call false env out = refl

-- they are no deeper than all
pub given_within : (es : ExprTrees) (invoker : Bool) → exprs_depth (if invoker then without_first es else es) ≤ exprs_depth es
given_within no_exprs true = omega arith
given_within (expr_then e es) true = omega arith
given_within es false = omega arith

-- one argument and two, seen as trees
pub one_expr : (es : List Expr) (e : Expr) → 1 ≤ length es → length es < 2 → e ≡ get_or es 0 e → exprs_of es ≡ expr_then (expr_of e) no_exprs
one_expr [] e h g is = absurd (omega arith)
one_expr (x ∷ []) e h g is = ap (λ (y : Expr). expr_then (expr_of y) no_exprs) (sym is)
one_expr (x ∷ y ∷ es) e h g is = absurd (omega arith)

pub two_exprs : (es : List Expr) (e f : Expr) → 2 ≤ length es → length es < 3 → e ≡ get_or es 0 e → f ≡ get_or es 1 f → exprs_of es ≡ expr_then (expr_of e) (expr_then (expr_of f) no_exprs)
two_exprs [] e f h g is js = absurd (omega arith)
two_exprs (x ∷ []) e f h g is js = absurd (omega arith)
two_exprs (x ∷ y ∷ []) e f h g is js = ap (λ (z : Expr). expr_then (expr_of z) (expr_then (expr_of y) no_exprs)) (sym is) ∙ ap (λ (z : Expr). expr_then (expr_of e) (expr_then (expr_of z) no_exprs)) (sym js)
two_exprs (x ∷ y ∷ z ∷ es) e f h g is js = absurd (omega arith)

-- what calls do with arguments of these shapes
pub defined_item : (w : World) (n : ℕ) (es : ExprTrees) (q : Position) (base : List ℕ) (bracket : Position) (index : ExprTree) (p : Position) (name : List ℕ) (env : Environment) (out : Effects) → es ≡ expr_then (item_expr q base bracket index) no_exprs → defined_runs w n es p name env out ≡ then_do (base_runs base q env out) (λ _ env1 out1. then_do (expr_runs w (deeper n 1) index env1 out1) (λ at env2 out2. has_entry_runs base at q env2 out2))
unfolding defined_runs
defined_item w n es q base bracket index p name env out h = rw h refl

pub foreach_two : (w : World) (n : ℕ) (es : ExprTrees) (block : Steps (Unit {0})) (q : Position) (v : List ℕ) (e : ExprTree) (p : Position) (name : List ℕ) (env : Environment) (out : Effects) → es ≡ expr_then (name_expr q v) (expr_then e no_exprs) → foreach_runs w n es p name block env out ≡ then_do (expr_runs w n e env out) (λ x env1 out1. loop_runs v x (first_position e) block env1 out1)
unfolding foreach_runs
foreach_two w n es block q v e p name env out h = rw h refl

-- the value of the next argument comes first
drop_next : (es : List Expr) (i : ℕ) (e : Expr) → i < length es → e ≡ get_or es i e → drop i es ≡ e ∷ drop (i + 1) es
drop_next es i e h is = rw add-one (drop-cons es i e h ∙ ap (λ (x : Expr). x ∷ drop (suc i) es) (sym is))

pub values_next : (w : World) (n : ℕ) (es : List Expr) (i : ℕ) (e : Expr) (vs : List Val) (env : Environment) (out : Effects) → i < length es → e ≡ get_or es i e → values_run w n (exprs_of (drop i es)) vs env out ≡ then_do (expr_runs w n (expr_of e) env out) (λ v env1 out1. values_run w n (exprs_of (drop (i + 1) es)) (vs ++ v ∷ []) env1 out1)
unfolding values_run
values_next w n es i e vs env out h is = ap (λ (xs : List Expr). values_run w n (exprs_of xs) vs env out) (drop_next es i e h is)

-- the body of a template runs where one call more may open
pub called_body : (room inside : ℕ) (a : Answers) (definition : DefinitionState) (position : Position) (env : Environment) (out : Effects) → inside + 1 ≡ room → calls room a definition position env out ≡ block_runs (world inside a) definition.nesting definition.block env out
unfolding calls
called_body room inside a definition position env out h = ap (λ (r : ℕ). calls r a definition position env out) (sym h ∙ add-one inside)
