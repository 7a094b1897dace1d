-- Each evaluation is a tree of questions: a line for each case.
use Rattle.std.proofs.Common.{ℕ, zero, suc, ◌+◌, Bool, true, false, List, [], ◌∷◌, ◌++◌}
use Rattle.gn_tree.specs.declared.position.Position.{Position}
use Rattle.gn_tree.specs.declared.operator.AssignOp.{AssignOp}
use Rattle.gn_tree.specs.declared.operator.BinaryOp.{BinaryOp}
use Rattle.gn_tree.specs.declared.operator.BinaryOp.TheVariants.{And, Or}
use Rattle.gn_tree.specs.Tree.{ExprTree, name_expr, integer_expr, string_expr, boolean_expr, call_expr, item_expr, entry_expr, scope_expr, parentheses_expr, list_expr, not_expr, binary_expr, ExprTrees, no_exprs, expr_then, CallTree, call_tree, BodyTree, no_body, some_body, TargetTree, name_target, item_target, entry_target, StatementTree, assign_statement, call_statement, condition_statement, ConditionTree, condition_tree, OtherwiseTree, no_otherwise, else_block, else_if, BlockTree, no_statements, statement_then}
use Rattle.gn_tree.specs.FirstPosition.{first_position, call_position}
use Rattle.gn_values.specs.Val.{Val, vbool, vstr}
use Rattle.gn_items.specs.Effects.{Effects}
use Rattle.gn_runs.specs.Runs.{Answers}
use Rattle.gn_environment.specs.Environment.{Environment, entered}
use Rattle.gn_meaning.specs.Steps.{Steps, deeper}
use Rattle.gn_meaning.specs.Words.{operated}
use Rattle.gn_meaning.specs.Meaning.{operator_runs, truth_runs, picked_runs, operators_in, call_in, expr_runs, values_run, others_run, call_runs, body_runs, defined_runs, foreach_runs, assignment_runs, statement_runs, condition_runs, otherwise_runs, block_runs, calls, reads, world}
use Rattle.gn_meaning.proofs.Steps.{IsTreeBehind, AreQuiet, AreTrees, tree_do, tree_ends, tree_fails}
use Rattle.gn_meaning.proofs.Words.{value_tree, name_tree, element_tree, base_tree, negation_tree, boolean_tree, list_tree, scope_tree, string_tree, name_assigned_tree, element_changed_tree, pieces_tree}
use Rattle.gn_meaning.proofs.Calls.{has_entry_tree, has_value_tree, loop_tree, call_value_tree}
use Rattle.gn_meaning.proofs.OpeningTrees.{BodiesAreTrees}
use Rattle.gn_meaning.proofs.CallTrees.{called_tree}

operator_tree : (o : BinaryOp) (x : Val) (right : Answers → Steps Val) → AreTrees right → (p : Position) → AreTrees (λ a. operator_runs o x (right a) p)
operator_tree And (vbool false) right t p env out = tree_ends _ env out
operator_tree And (vbool true) right t p env out = tree_do _ _ (t env out) (λ y env1 out1. boolean_tree y p env1 out1)
operator_tree And x right t p env out = tree_fails _ out
operator_tree Or (vbool true) right t p env out = tree_ends _ env out
operator_tree Or (vbool false) right t p env out = tree_do _ _ (t env out) (λ y env1 out1. boolean_tree y p env1 out1)
operator_tree Or x right t p env out = tree_fails _ out
operator_tree o x right t p env out = tree_do _ _ (t env out) (λ y env1 out1. value_tree (operated o x y) p env1 out1)

truth_tree : (v : Val) (p : Position) → AreQuiet (truth_runs v p)
unfolding truth_runs
truth_tree (vbool b) p env out = tree_ends b env out
truth_tree v p env out = tree_fails _ out

picked_tree : (holds : Bool) (first second : Answers → Steps (Unit {0})) → AreTrees first → AreTrees second → AreTrees (λ a. picked_runs holds (first a) (second a))
picked_tree true first second t u env out = t env out
picked_tree false first second t u env out = u env out

-- Where so many calls may open, and those that may open in them are trees
module _ (room : ℕ) (c : BodiesAreTrees (calls room)) (r : (e : ExprTree) → AreTrees (λ a. reads room a e)) where
  mutual
    unfolding expr_runs

    pub expr_tree : (n : ℕ) (e : ExprTree) (env : Environment) (out : Effects) → IsTreeBehind out.asked (λ a. expr_runs (world room a) n e env out)
    expr_tree n (name_expr p m) env out = name_tree m p env out
    expr_tree n (integer_expr p v) env out = tree_ends _ env out
    expr_tree n (string_expr p pieces) env out = tree_do _ _ (pieces_tree pieces [] env out) (λ text env1 out1. string_tree text p env1 out1)
    expr_tree n (boolean_expr p b) env out = tree_ends _ env out
    expr_tree n (call_expr k) env out = tree_do _ _ (call_tree_of n k env out) (λ v env1 out1. call_value_tree v (call_position k) env1 out1)
    expr_tree n (item_expr p base bracket index) env out =
        tree_do _ _ (base_tree base p env out) (λ _ env1 out1. tree_do _ _ (expr_tree (deeper n 1) index env1 out1) (λ at env2 out2. element_tree base p at bracket env2 out2))
    expr_tree n (entry_expr p base dot entry) env out = element_tree base p (vstr entry) dot env out
    expr_tree n (scope_expr p b) env out = tree_do _ _ (block_tree (deeper n 1) b (entered false env) out) (λ _ env1 out1. scope_tree p env1 out1)
    expr_tree n (parentheses_expr p e) env out = expr_tree (deeper n 1) e env out
    expr_tree n (list_expr p es) env out = tree_do _ _ (values_tree (deeper n 1) es [] env out) (λ vs env1 out1. list_tree vs p env1 out1)
    expr_tree n (not_expr p e) env out = tree_do _ _ (expr_tree (deeper n 1) e env out) (λ v env1 out1. negation_tree v p env1 out1)
    expr_tree n (binary_expr o p l r) env out =
        tree_do _ _ (expr_tree n l env out) (λ x env1 out1. operator_tree o x _ (λ en ou. expr_tree (deeper n (operators_in l + 1)) r en ou) p env1 out1)

    values_tree : (n : ℕ) (es : ExprTrees) (vs : List Val) (env : Environment) (out : Effects) → IsTreeBehind out.asked (λ a. values_run (world room a) n es vs env out)
    values_tree n no_exprs vs env out = tree_ends vs env out
    values_tree n (expr_then e es) vs env out = tree_do _ _ (expr_tree n e env out) (λ v env1 out1. values_tree n es (vs ++ v ∷ []) env1 out1)

    others_tree : (n : ℕ) (es : ExprTrees) (env : Environment) (out : Effects) → IsTreeBehind out.asked (λ a. others_run (world room a) n es env out)
    others_tree n no_exprs env out = tree_ends [] env out
    others_tree n (expr_then e es) env out = values_tree n es [] env out

    call_tree_of : (n : ℕ) (k : CallTree) (env : Environment) (out : Effects) → IsTreeBehind out.asked (λ a. call_runs (world room a) n k env out)
    call_tree_of n (call_tree p name es body) env out =
        called_tree (calls room) c n (deeper n 1) (call_in p name es body) _
        (record {
          values = λ en ou. values_tree (deeper n 1) es [] en ou;
          others = λ en ou. others_tree (deeper n 1) es en ou;
          tests = λ en ou. defined_tree (deeper n 1) es p name en ou;
          loops = λ en ou. foreach_tree (deeper n 1) es p name _ (λ e o. body_tree (deeper n 1) body e o) en ou;
          block = λ en ou. body_tree (deeper n 1) body en ou;
          reads = r;
        }) env out

    body_tree : (n : ℕ) (body : BodyTree) (env : Environment) (out : Effects) → IsTreeBehind out.asked (λ a. body_runs (world room a) n body env out)
    body_tree n no_body env out = tree_ends tt env out
    body_tree n (some_body b) env out = block_tree n b env out

    defined_tree : (n : ℕ) (es : ExprTrees) (p : Position) (name : List ℕ) (env : Environment) (out : Effects) → IsTreeBehind out.asked (λ a. defined_runs (world room a) n es p name env out)
    defined_tree n (expr_then (name_expr q x) no_exprs) p name env out = has_value_tree x env out
    defined_tree n (expr_then (entry_expr q base dot entry) no_exprs) p name env out =
        tree_do _ _ (base_tree base q env out) (λ _ env1 out1. has_entry_tree base (vstr entry) q env1 out1)
    defined_tree n (expr_then (item_expr q base bracket index) no_exprs) p name env out =
        tree_do _ _ (base_tree base q env out) (λ _ env1 out1. tree_do _ _ (expr_tree (deeper n 1) index env1 out1) (λ at env2 out2. has_entry_tree base at q env2 out2))
    defined_tree n es p name env out = tree_fails _ out

    foreach_tree : (n : ℕ) (es : ExprTrees) (p : Position) (name : List ℕ) (block : Answers → Steps (Unit {0})) → AreTrees block → (env : Environment) (out : Effects) → IsTreeBehind out.asked (λ a. foreach_runs (world room a) n es p name (block a) env out)
    foreach_tree n (expr_then (name_expr q v) (expr_then e no_exprs)) p name block t env out =
        tree_do _ _ (expr_tree n e env out) (λ l env1 out1. loop_tree v l (first_position e) block t env1 out1)
    foreach_tree n es p name block t env out = tree_fails _ out

    assignment_tree : (n : ℕ) (t : TargetTree) (o : AssignOp) (q : Position) (v : Val) (env : Environment) (out : Effects) → IsTreeBehind out.asked (λ a. assignment_runs (world room a) n t o q v env out)
    assignment_tree n (name_target p x) o q v env out = name_assigned_tree x p o q v env out
    assignment_tree n (item_target p base bracket index) o q v env out =
        tree_do _ _ (expr_tree (deeper n 1) index env out) (λ at env1 out1. element_changed_tree base p at bracket o q v env1 out1)
    assignment_tree n (entry_target p base dot entry) o q v env out = element_changed_tree base p (vstr entry) dot o q v env out

    statement_tree : (n : ℕ) (s : StatementTree) (env : Environment) (out : Effects) → IsTreeBehind out.asked (λ a. statement_runs (world room a) n s env out)
    statement_tree n (assign_statement t o q e) env out = tree_do _ _ (expr_tree n e env out) (λ v env1 out1. assignment_tree n t o q v env1 out1)
    statement_tree n (call_statement k) env out = tree_do _ _ (call_tree_of n k env out) (λ _ env1 out1. tree_ends tt env1 out1)
    statement_tree n (condition_statement k) env out = condition_tree_of n k env out

    condition_tree_of : (n : ℕ) (k : ConditionTree) (env : Environment) (out : Effects) → IsTreeBehind out.asked (λ a. condition_runs (world room a) n k env out)
    condition_tree_of n (condition_tree test b o) env out =
        tree_do _ _ (expr_tree (deeper n 1) test env out) (λ v env1 out1. tree_do _ _ (truth_tree v (first_position test) env1 out1)
        (λ holds env2 out2. picked_tree holds _ _ (λ en ou. block_tree (deeper n 1) b en ou) (λ en ou. otherwise_tree n o en ou) env2 out2))

    otherwise_tree : (n : ℕ) (o : OtherwiseTree) (env : Environment) (out : Effects) → IsTreeBehind out.asked (λ a. otherwise_runs (world room a) n o env out)
    otherwise_tree n no_otherwise env out = tree_ends tt env out
    otherwise_tree n (else_block b) env out = block_tree (deeper n 1) b env out
    otherwise_tree n (else_if k) env out = condition_tree_of (deeper n 1) k env out

    pub block_tree : (n : ℕ) (b : BlockTree) (env : Environment) (out : Effects) → IsTreeBehind out.asked (λ a. block_runs (world room a) n b env out)
    block_tree n no_statements env out = tree_ends tt env out
    block_tree n (statement_then s b) env out = tree_do _ _ (statement_tree n s env out) (λ _ env1 out1. block_tree n b env1 out1)

-- the bodies of templates and expressions that are read, however many calls may still open
mutual
  unfolding calls

  pub calls_tree : (room : ℕ) → BodiesAreTrees (calls room)
  calls_tree zero definition p env out = tree_fails _ out
  calls_tree (suc room) definition p env out = block_tree room (calls_tree room) (reads_tree room) definition.nesting definition.block env out

  pub reads_tree : (room : ℕ) (e : ExprTree) → AreTrees (λ a. reads room a e)
  reads_tree zero e env out = tree_fails _ out
  reads_tree (suc room) e env out = expr_tree room (calls_tree room) (reads_tree room) 0 e env out
