-- Expressions, statements and blocks leave in order what they find in order, where the answers are so: a line for each case.
use Rattle.std.proofs.Common.{ℕ, zero, suc, ◌+◌, Bool, true, false, List, [], ◌∷◌, ◌++◌}
use Rattle.gn_tree.specs.declared.position.Position.{Position}
use Rattle.gn_tree.specs.declared.operator.AssignOp.{AssignOp}
use Rattle.gn_tree.specs.declared.operator.BinaryOp.{BinaryOp}
use Rattle.gn_tree.specs.declared.operator.BinaryOp.TheVariants.{And, Or}
use Rattle.gn_tree.specs.Tree.{ExprTree, name_expr, integer_expr, string_expr, boolean_expr, call_expr, item_expr, entry_expr, scope_expr, parentheses_expr, list_expr, not_expr, binary_expr, ExprTrees, no_exprs, expr_then, CallTree, call_tree, BodyTree, no_body, some_body, TargetTree, name_target, item_target, entry_target, StatementTree, assign_statement, call_statement, condition_statement, ConditionTree, condition_tree, OtherwiseTree, no_otherwise, else_block, else_if, BlockTree, no_statements, statement_then}
use Rattle.gn_tree.specs.FirstPosition.{first_position, call_position}
use Rattle.gn_values.specs.Val.{Val, vbool, vstr}
use Rattle.gn_items.specs.Effects.{Effects}
use Rattle.gn_runs.specs.Runs.{Answers}
use Rattle.gn_environment.specs.Environment.{Environment, entered}
use Rattle.gn_meaning.specs.Steps.{Steps, max_evaluation_depth, deeper}
use Rattle.gn_meaning.specs.Words.{operated}
use Rattle.gn_meaning.specs.Meaning.{operator_runs, truth_runs, picked_runs, operators_in, call_in, expr_runs, values_run, others_run, call_runs, body_runs, defined_runs, foreach_runs, assignment_runs, statement_runs, condition_runs, otherwise_runs, block_runs, calls, world, whole_block_runs}
use Rattle.gn_orders.specs.InOrder.{AreAnswersInOrder}
use Rattle.gn_orders.proofs.Ends.{Leaves, Keep, ends_do, keep_do, keep_ends, fails_so}
use Rattle.gn_orders.proofs.Steps.{value_keeps, name_keeps, element_keeps, base_keeps, negation_keeps, boolean_keeps, list_keeps, string_keeps, scope_leaves, name_assigned_keeps, element_changed_keeps, pieces_keep, has_entry_keeps, has_value_keeps, loop_keeps, call_value_keeps}
use Rattle.gn_orders.proofs.Openings.{BodiesKeep}
use Rattle.gn_orders.proofs.FunctionCalls.{called_keeps}

operator_keeps : (o : BinaryOp) (x : Val) (right : Steps Val) → Keep right → (p : Position) → Keep (operator_runs o x right p)
operator_keeps And (vbool false) right t p env out = keep_ends _ env out (λ o. o)
operator_keeps And (vbool true) right t p env out = keep_do _ _ (t env out) (λ y env1 out1. boolean_keeps y p env1 out1)
operator_keeps And x right t p env out = fails_so _ out
operator_keeps Or (vbool true) right t p env out = keep_ends _ env out (λ o. o)
operator_keeps Or (vbool false) right t p env out = keep_do _ _ (t env out) (λ y env1 out1. boolean_keeps y p env1 out1)
operator_keeps Or x right t p env out = fails_so _ out
operator_keeps o x right t p env out = keep_do _ _ (t env out) (λ y env1 out1. value_keeps (operated o x y) p env1 out1)

pub truth_keeps : (v : Val) (p : Position) → Keep (truth_runs v p)
unfolding truth_runs
truth_keeps (vbool b) p env out = keep_ends b env out (λ o. o)
truth_keeps v p env out = fails_so _ out

picked_keeps : (holds : Bool) (first second : Steps (Unit {0})) → Keep first → Keep second → Keep (picked_runs holds first second)
picked_keeps true first second t u env out = t env out
picked_keeps false first second t u env out = u env out

-- Where so many calls of templates may open, and the bodies of those that may open in them leave in order what they find in order
module _ (room : ℕ) (a : Answers) (i : AreAnswersInOrder a) (c : BodiesKeep (calls room a)) where
  mutual
    unfolding expr_runs

    pub expr_keeps : (n : ℕ) (e : ExprTree) (env : Environment) (out : Effects) → Leaves env (expr_runs (world room a) n e env out)
    expr_keeps n (name_expr p m) env out = name_keeps m p env out
    expr_keeps n (integer_expr p v) env out = keep_ends _ env out (λ o. o)
    expr_keeps n (string_expr p pieces) env out = keep_do _ _ (pieces_keep pieces [] env out) (λ text env1 out1. string_keeps text p env1 out1)
    expr_keeps n (boolean_expr p b) env out = keep_ends _ env out (λ o. o)
    expr_keeps n (call_expr k) env out = keep_do _ _ (call_keeps n k env out) (λ v env1 out1. call_value_keeps v (call_position k) env1 out1)
    expr_keeps n (item_expr p base bracket index) env out =
        keep_do _ _ (base_keeps base p env out) (λ _ env1 out1. keep_do _ _ (expr_keeps (deeper n 1) index env1 out1) (λ at env2 out2. element_keeps base p at bracket env2 out2))
    expr_keeps n (entry_expr p base dot entry) env out = element_keeps base p (vstr entry) dot env out
    expr_keeps n (scope_expr p b) env out = ends_do _ _ (block_keeps (deeper n 1) b (entered false env) out) (λ l h. scope_leaves p env l.environment l.effects h)
    expr_keeps n (parentheses_expr p e) env out = expr_keeps (deeper n 1) e env out
    expr_keeps n (list_expr p es) env out = keep_do _ _ (values_keeps (deeper n 1) es [] env out) (λ vs env1 out1. list_keeps vs p env1 out1)
    expr_keeps n (not_expr p e) env out = keep_do _ _ (expr_keeps (deeper n 1) e env out) (λ v env1 out1. negation_keeps v p env1 out1)
    expr_keeps n (binary_expr o p l r) env out =
        keep_do _ _ (expr_keeps n l env out) (λ x env1 out1. operator_keeps o x _ (λ en ou. expr_keeps (deeper n (operators_in l + 1)) r en ou) p env1 out1)

    pub values_keeps : (n : ℕ) (es : ExprTrees) (vs : List Val) (env : Environment) (out : Effects) → Leaves env (values_run (world room a) n es vs env out)
    values_keeps n no_exprs vs env out = keep_ends vs env out (λ o. o)
    values_keeps n (expr_then e es) vs env out = keep_do _ _ (expr_keeps n e env out) (λ v env1 out1. values_keeps n es (vs ++ v ∷ []) env1 out1)

    pub others_keeps : (n : ℕ) (es : ExprTrees) (env : Environment) (out : Effects) → Leaves env (others_run (world room a) n es env out)
    others_keeps n no_exprs env out = keep_ends [] env out (λ o. o)
    others_keeps n (expr_then e es) env out = values_keeps n es [] env out

    pub call_keeps : (n : ℕ) (k : CallTree) (env : Environment) (out : Effects) → Leaves env (call_runs (world room a) n k env out)
    call_keeps n (call_tree p name es body) env out =
        called_keeps a i (calls room a) c n (deeper n 1) (call_in p name es body) _
        (record {
          values = λ en ou. values_keeps (deeper n 1) es [] en ou;
          others = λ en ou. others_keeps (deeper n 1) es en ou;
          tests = λ en ou. defined_keeps (deeper n 1) es p name en ou;
          loops = λ en ou. foreach_keeps (deeper n 1) es p name _ (λ e o. body_keeps (deeper n 1) body e o) en ou;
          block = λ en ou. body_keeps (deeper n 1) body en ou;
        }) env out

    pub body_keeps : (n : ℕ) (body : BodyTree) (env : Environment) (out : Effects) → Leaves env (body_runs (world room a) n body env out)
    body_keeps n no_body env out = keep_ends tt env out (λ o. o)
    body_keeps n (some_body b) env out = block_keeps n b env out

    pub defined_keeps : (n : ℕ) (es : ExprTrees) (p : Position) (name : List ℕ) (env : Environment) (out : Effects) → Leaves env (defined_runs (world room a) n es p name env out)
    defined_keeps n (expr_then (name_expr q x) no_exprs) p name env out = has_value_keeps x env out
    defined_keeps n (expr_then (entry_expr q base dot entry) no_exprs) p name env out =
        keep_do _ _ (base_keeps base q env out) (λ _ env1 out1. has_entry_keeps base (vstr entry) q env1 out1)
    defined_keeps n (expr_then (item_expr q base bracket index) no_exprs) p name env out =
        keep_do _ _ (base_keeps base q env out) (λ _ env1 out1. keep_do _ _ (expr_keeps (deeper n 1) index env1 out1) (λ at env2 out2. has_entry_keeps base at q env2 out2))
    defined_keeps n es p name env out = fails_so _ out

    pub foreach_keeps : (n : ℕ) (es : ExprTrees) (p : Position) (name : List ℕ) (block : Steps (Unit {0})) → Keep block → (env : Environment) (out : Effects) → Leaves env (foreach_runs (world room a) n es p name block env out)
    foreach_keeps n (expr_then (name_expr q v) (expr_then e no_exprs)) p name block t env out =
        keep_do _ _ (expr_keeps n e env out) (λ l env1 out1. loop_keeps v l (first_position e) block t env1 out1)
    foreach_keeps n es p name block t env out = fails_so _ out

    pub assignment_keeps : (n : ℕ) (t : TargetTree) (o : AssignOp) (q : Position) (v : Val) (env : Environment) (out : Effects) → Leaves env (assignment_runs (world room a) n t o q v env out)
    assignment_keeps n (name_target p x) o q v env out = name_assigned_keeps x p o q v env out
    assignment_keeps n (item_target p base bracket index) o q v env out =
        keep_do _ _ (expr_keeps (deeper n 1) index env out) (λ at env1 out1. element_changed_keeps base p at bracket o q v env1 out1)
    assignment_keeps n (entry_target p base dot entry) o q v env out = element_changed_keeps base p (vstr entry) dot o q v env out

    pub statement_keeps : (n : ℕ) (s : StatementTree) (env : Environment) (out : Effects) → Leaves env (statement_runs (world room a) n s env out)
    statement_keeps n (assign_statement t o q e) env out = keep_do _ _ (expr_keeps n e env out) (λ v env1 out1. assignment_keeps n t o q v env1 out1)
    statement_keeps n (call_statement k) env out = keep_do _ _ (call_keeps n k env out) (λ _ env1 out1. keep_ends tt env1 out1 (λ o. o))
    statement_keeps n (condition_statement k) env out = condition_keeps n k env out

    pub condition_keeps : (n : ℕ) (k : ConditionTree) (env : Environment) (out : Effects) → Leaves env (condition_runs (world room a) n k env out)
    condition_keeps n (condition_tree test b o) env out =
        keep_do _ _ (expr_keeps (deeper n 1) test env out) (λ v env1 out1. keep_do _ _ (truth_keeps v (first_position test) env1 out1)
        (λ holds env2 out2. picked_keeps holds _ _ (λ en ou. block_keeps (deeper n 1) b en ou) (λ en ou. otherwise_keeps n o en ou) env2 out2))

    pub otherwise_keeps : (n : ℕ) (o : OtherwiseTree) (env : Environment) (out : Effects) → Leaves env (otherwise_runs (world room a) n o env out)
    otherwise_keeps n no_otherwise env out = keep_ends tt env out (λ o. o)
    otherwise_keeps n (else_block b) env out = block_keeps (deeper n 1) b env out
    otherwise_keeps n (else_if k) env out = condition_keeps (deeper n 1) k env out

    pub block_keeps : (n : ℕ) (b : BlockTree) (env : Environment) (out : Effects) → Leaves env (block_runs (world room a) n b env out)
    block_keeps n no_statements env out = keep_ends tt env out (λ o. o)
    block_keeps n (statement_then s b) env out = keep_do _ _ (statement_keeps n s env out) (λ _ env1 out1. block_keeps n b env1 out1)

-- the bodies of templates, however many calls may still open
pub calls_keep : (room : ℕ) (a : Answers) → AreAnswersInOrder a → BodiesKeep (calls room a)
unfolding calls
calls_keep zero a i definition p env out = fails_so _ out
calls_keep (suc room) a i definition p env out = block_keeps room a i (calls_keep room a i) definition.nesting definition.block env out

-- a block that nests nowhere
pub whole_block_keeps : (a : Answers) → AreAnswersInOrder a → (b : BlockTree) → Keep (whole_block_runs a b)
unfolding whole_block_runs
whole_block_keeps a i b env out = block_keeps max_evaluation_depth a i (calls_keep max_evaluation_depth a i) 0 b env out
