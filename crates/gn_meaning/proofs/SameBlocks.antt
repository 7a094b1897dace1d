-- What a block does in the body of a template is the same whatever the body of that template would do: a line for each case.
use Rattle.std.proofs.Common.{◌≡◌, ℕ, ◌+◌, Bool, true, List, [], ◌∷◌, ◌++◌, Some, None, false, refl, ◌∙◌}
use Rattle.gn_tree.specs.declared.position.Position.{Position}
use Rattle.gn_tree.specs.declared.operator.AssignOp.{AssignOp}
use Rattle.gn_tree.specs.declared.operator.BinaryOp.{BinaryOp}
use Rattle.gn_tree.specs.declared.operator.BinaryOp.TheVariants.{And, Or}
use Rattle.gn_tree.specs.Tree.{ExprTree, name_expr, integer_expr, string_expr, boolean_expr, call_expr, item_expr, entry_expr, scope_expr, parentheses_expr, list_expr, not_expr, binary_expr, ExprTrees, no_exprs, expr_then, CallTree, call_tree, BodyTree, no_body, some_body, TargetTree, name_target, item_target, entry_target, StatementTree, assign_statement, call_statement, condition_statement, ConditionTree, condition_tree, OtherwiseTree, no_otherwise, else_block, else_if, BlockTree, no_statements, statement_then}
use Rattle.gn_tree.specs.FirstPosition.{first_position}
use Rattle.gn_values.specs.Val.{Val, vbool, vlist, list_of}
use Rattle.gn_runs.specs.Runs.{Answers}
use Rattle.gn_environment.specs.Environment.{Environment, entered, restored, given}
use Rattle.gn_meaning.specs.Steps.{Steps, World, deeper}
use Rattle.gn_meaning.specs.Meaning.{operator_runs, picked_runs, operators_in, call_in, expr_runs, values_run, others_run, call_runs, body_runs, defined_runs, foreach_runs, assignment_runs, statement_runs, condition_runs, otherwise_runs, block_runs, calls, reads, world}
use Rattle.gn_definitions.specs.Imported.{DefinitionState}
use Rattle.gn_environment.specs.Within.{IsWithin}
use Rattle.gn_environment.proofs.Surroundings.{given_keeps, restored_keeps}
use Rattle.gn_meaning.specs.Calls.{turns_run, loop_runs}
use Rattle.gn_meaning.specs.TemplateLaws.{AreTheSameBut, BodiesDontCallTheirTemplates}
use Rattle.gn_meaning.proofs.Ends.{Keep, moved}
use Rattle.gn_meaning.proofs.KeptBySteps.{base_keeps}
use Rattle.gn_meaning.proofs.KeptByBlocks.{expr_keeps, values_keeps, others_keeps, body_keeps, defined_keeps, foreach_keeps, statement_keeps, truth_keeps, calls_keep}
use Rattle.gn_meaning.proofs.SameRuns.{AreSame, body_around, follow, same_behind, called_same}

module _ (outermost inner : DefinitionState) (within : IsWithin outermost inner) where
  abbrev Same : {A : Type 0} → Steps A → Steps A → Type 0
  Same steps others = AreSame outermost inner within steps others

  operator_same : (o : BinaryOp) (x : Val) (right right1 : Steps Val) → Same right right1 → (p : Position) → Same (operator_runs o x right p) (operator_runs o x right1 p)
  operator_same And (vbool false) right right1 s p env out e = refl
  operator_same And (vbool true) right right1 s p env out e = same_behind _ _ _ (s env out e)
  operator_same And x right right1 s p env out e = refl
  operator_same Or (vbool true) right right1 s p env out e = refl
  operator_same Or (vbool false) right right1 s p env out e = same_behind _ _ _ (s env out e)
  operator_same Or x right right1 s p env out e = refl
  operator_same o x right right1 s p env out e = same_behind _ _ _ (s env out e)

  picked_same : (holds : Bool) (first first1 second second1 : Steps (Unit {0})) → Same first first1 → Same second second1 → Same (picked_runs holds first second) (picked_runs holds first1 second1)
  picked_same true first first1 second second1 s t env out e = s env out e
  picked_same false first first1 second second1 s t env out e = t env out e

  module _ (name : List ℕ) (block block1 : Steps (Unit {0})) (k : Keep block) (s : Same block block1) where
    turns_same : (vs : List Val) → Same (turns_run name block vs) (turns_run name block1 vs)
    turns_same [] env out e = refl
    turns_same (v ∷ vs) env out e =
        follow outermost inner within env e _ _ _ _ (s (given name v env) out (body_around env (given name v env) (given_keeps name v env) ∙ e)) (moved (given_keeps name v env) (k (given name v env) out)) (λ _ env1 out1 e1. turns_same vs env1 out1 e1)

    loop_same : (v : Val) (at : Position) → Same (loop_runs name v at block) (loop_runs name v at block1)
    unfolding loop_runs
    loop_same (vlist vs) at env out e =
        same_behind _ _ _ (turns_same (list_of vs) (restored name None env) out (body_around env (restored name None env) (restored_keeps name None env) ∙ e))
    loop_same v at env out e = refl

  -- Where so many calls of templates may open
  module _ (room : ℕ) (a : Answers) (others : DefinitionState → Position → Steps (Unit {0})) (same : AreTheSameBut outermost.place (calls room a) others) where
    abbrev there : World
    there = record { answers = a; call = others; read = reads room a }

    abbrev here : World
    here = world room a

    entered_so : (env : Environment) → env.body ≡ Some inner → (entered false env).body ≡ Some inner
    unfolding entered
    entered_so env e = e

    mutual
      unfolding expr_runs

      expr_same : (n : ℕ) (x : ExprTree) → Same (expr_runs here n x) (expr_runs there n x)
      expr_same n (name_expr p m) env out e = refl
      expr_same n (integer_expr p v) env out e = refl
      expr_same n (string_expr p pieces) env out e = refl
      expr_same n (boolean_expr p b) env out e = refl
      expr_same n (call_expr k) env out e = same_behind _ _ _ (call_same n k env out e)
      expr_same n (item_expr p base bracket index) env out e =
          follow outermost inner within env e _ _ _ _ refl (base_keeps base p env out) (λ _ env1 out1 e1. same_behind _ _ _ (expr_same (deeper n 1) index env1 out1 e1))
      expr_same n (entry_expr p base dot entry) env out e = refl
      expr_same n (scope_expr p b) env out e = same_behind _ _ _ (block_same (deeper n 1) b (entered false env) out (entered_so env e))
      expr_same n (parentheses_expr p x) env out e = expr_same (deeper n 1) x env out e
      expr_same n (list_expr p es) env out e = same_behind _ _ _ (values_same (deeper n 1) es [] env out e)
      expr_same n (not_expr p x) env out e = same_behind _ _ _ (expr_same (deeper n 1) x env out e)
      expr_same n (binary_expr o p l r) env out e =
          follow outermost inner within env e _ _ _ _ (expr_same n l env out e) (expr_keeps room a (calls_keep room a) n l env out) (λ x env1 out1 e1. operator_same o x _ _ (λ en ou e2. expr_same (deeper n (operators_in l + 1)) r en ou e2) p env1 out1 e1)

      values_same : (n : ℕ) (es : ExprTrees) (vs : List Val) → Same (values_run here n es vs) (values_run there n es vs)
      values_same n no_exprs vs env out e = refl
      values_same n (expr_then x es) vs env out e =
          follow outermost inner within env e _ _ _ _ (expr_same n x env out e) (expr_keeps room a (calls_keep room a) n x env out) (λ v env1 out1 e1. values_same n es (vs ++ v ∷ []) env1 out1 e1)

      others_same : (n : ℕ) (es : ExprTrees) → Same (others_run here n es) (others_run there n es)
      others_same n no_exprs env out e = refl
      others_same n (expr_then x es) env out e = values_same n es [] env out e

      call_same : (n : ℕ) (k : CallTree) → Same (call_runs here n k) (call_runs there n k)
      call_same n (call_tree p name es body) env out e =
          called_same outermost inner within (calls room a) others same a n (deeper n 1) (call_in p name es body) _ _
          (record {
            values = λ en ou. values_keeps room a (calls_keep room a) (deeper n 1) es [] en ou;
            others = λ en ou. others_keeps room a (calls_keep room a) (deeper n 1) es en ou;
            tests = λ en ou. defined_keeps room a (calls_keep room a) (deeper n 1) es p name en ou;
            loops = λ en ou. foreach_keeps room a (calls_keep room a) (deeper n 1) es p name _ (λ en1 ou1. body_keeps room a (calls_keep room a) (deeper n 1) body en1 ou1) en ou;
            block = λ en ou. body_keeps room a (calls_keep room a) (deeper n 1) body en ou;
          })
          (record {
            values = λ en ou e1. values_same (deeper n 1) es [] en ou e1;
            others = λ en ou e1. others_same (deeper n 1) es en ou e1;
            tests = λ en ou e1. defined_same (deeper n 1) es p name en ou e1;
            loops = λ en ou e1. foreach_same (deeper n 1) es p name _ _ (λ en1 ou1. body_keeps room a (calls_keep room a) (deeper n 1) body en1 ou1) (λ en1 ou1 e2. body_same (deeper n 1) body en1 ou1 e2) en ou e1;
            block = λ en ou e1. body_same (deeper n 1) body en ou e1;
            reads = refl;
          }) env out e

      body_same : (n : ℕ) (body : BodyTree) → Same (body_runs here n body) (body_runs there n body)
      body_same n no_body env out e = refl
      body_same n (some_body b) env out e = block_same n b env out e

      defined_same : (n : ℕ) (es : ExprTrees) (p : Position) (name : List ℕ) → Same (defined_runs here n es p name) (defined_runs there n es p name)
      defined_same n (expr_then (name_expr q x) no_exprs) p name env out e = refl
      defined_same n (expr_then (entry_expr q base dot entry) no_exprs) p name env out e = refl
      defined_same n (expr_then (item_expr q base bracket index) no_exprs) p name env out e =
          follow outermost inner within env e _ _ _ _ refl (base_keeps base q env out) (λ _ env1 out1 e1. same_behind _ _ _ (expr_same (deeper n 1) index env1 out1 e1))
      defined_same n es p name env out e = refl

      foreach_same : (n : ℕ) (es : ExprTrees) (p : Position) (name : List ℕ) (block block1 : Steps (Unit {0})) → Keep block → Same block block1 → Same (foreach_runs here n es p name block) (foreach_runs there n es p name block1)
      foreach_same n (expr_then (name_expr q v) (expr_then x no_exprs)) p name block block1 k s env out e =
          follow outermost inner within env e _ _ _ _ (expr_same n x env out e) (expr_keeps room a (calls_keep room a) n x env out) (λ l env1 out1 e1. loop_same v block block1 k s l (first_position x) env1 out1 e1)
      foreach_same n es p name block block1 k s env out e = refl

      assignment_same : (n : ℕ) (t : TargetTree) (o : AssignOp) (q : Position) (v : Val) → Same (assignment_runs here n t o q v) (assignment_runs there n t o q v)
      assignment_same n (name_target p x) o q v env out e = refl
      assignment_same n (item_target p base bracket index) o q v env out e = same_behind _ _ _ (expr_same (deeper n 1) index env out e)
      assignment_same n (entry_target p base dot entry) o q v env out e = refl

      statement_same : (n : ℕ) (s : StatementTree) → Same (statement_runs here n s) (statement_runs there n s)
      statement_same n (assign_statement t o q x) env out e =
          follow outermost inner within env e _ _ _ _ (expr_same n x env out e) (expr_keeps room a (calls_keep room a) n x env out) (λ v env1 out1 e1. assignment_same n t o q v env1 out1 e1)
      statement_same n (call_statement k) env out e = same_behind _ _ _ (call_same n k env out e)
      statement_same n (condition_statement k) env out e = condition_same n k env out e

      condition_same : (n : ℕ) (k : ConditionTree) → Same (condition_runs here n k) (condition_runs there n k)
      condition_same n (condition_tree test b o) env out e =
          follow outermost inner within env e _ _ _ _ (expr_same (deeper n 1) test env out e) (expr_keeps room a (calls_keep room a) (deeper n 1) test env out)
          (λ v env1 out1 e1. follow outermost inner within env1 e1 _ _ _ _ refl (truth_keeps v (first_position test) env1 out1)
          (λ holds env2 out2 e2. picked_same holds _ _ _ _ (λ en ou e3. block_same (deeper n 1) b en ou e3) (λ en ou e3. otherwise_same n o en ou e3) env2 out2 e2))

      otherwise_same : (n : ℕ) (o : OtherwiseTree) → Same (otherwise_runs here n o) (otherwise_runs there n o)
      otherwise_same n no_otherwise env out e = refl
      otherwise_same n (else_block b) env out e = block_same (deeper n 1) b env out e
      otherwise_same n (else_if k) env out e = condition_same (deeper n 1) k env out e

      pub block_same : (n : ℕ) (b : BlockTree) → Same (block_runs here n b) (block_runs there n b)
      block_same n no_statements env out e = refl
      block_same n (statement_then s b) env out e =
          follow outermost inner within env e _ _ _ _ (statement_same n s env out e) (statement_keeps room a (calls_keep room a) n s env out) (λ _ env1 out1 e1. block_same n b env1 out1 e1)

pub bodies_dont_call : BodiesDontCallTheirTemplates
bodies_dont_call room n a others outermost body within same block env out e = block_same outermost body within room a others same n block env out e
