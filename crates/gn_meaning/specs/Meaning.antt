-- What expressions, statements and blocks mean: the run of each in an environment, over known answers, as deep as it nests in its file.
use Rattle.std.specs.Prelude.{ℕ, zero, suc, ◌+◌, Bool, true, false, List, [], ◌∷◌, ◌++◌, if◌then◌else◌, ◌&&◌, ◌==◌, not, length, is_some, codes, Option, Some, None}
use Rattle.gn_tree.specs.declared.position.Position.{Position}
use Rattle.gn_tree.specs.declared.operator.BinaryOp.{BinaryOp}
use Rattle.gn_tree.specs.declared.operator.BinaryOp.TheVariants.{And, Or}
use Rattle.gn_tree.specs.declared.tree.Call.{Call}
use Rattle.gn_tree.specs.Tree.{ExprTree, name_expr, integer_expr, string_expr, boolean_expr, call_expr, item_expr, entry_expr, scope_expr, parentheses_expr, list_expr, not_expr, binary_expr, ExprTrees, no_exprs, expr_then, CallTree, call_tree, BodyTree, no_body, some_body, TargetTree, name_target, item_target, entry_target, StatementTree, assign_statement, call_statement, condition_statement, ConditionTree, condition_tree, OtherwiseTree, no_otherwise, else_block, else_if, BlockTree, no_statements, statement_then}
use Rattle.gn_tree.specs.declared.operator.AssignOp.{AssignOp}
use Rattle.gn_tree.specs.FirstPosition.{first_position, call_position}
use Rattle.gn_values.specs.Val.{Val, vbool, vint, vstr}
use Rattle.gn_faults.specs.declared.code.Code.TheVariants as code
use Rattle.gn_definitions.specs.Imported.{DefinitionState, ImportState}
use Rattle.gn_runs.specs.Runs.{Answers}
use Rattle.gn_environment.specs.Environment.{entered, reported_here}
use Rattle.gn_items.specs.declared.default_toolchain.DefaultToolchain.{DefaultToolchain}
use Rattle.gn_environment.specs.Imports.{import_left, configuration_left}
use Rattle.gn_meaning.specs.Steps.{Steps, World, max_evaluation_depth, deeper, then_do, ends}
use Rattle.gn_meaning.specs.Words.{fails_at, value_or_fault, name_runs, element_runs, base_runs, negation_runs, operated, boolean_runs, list_runs, scope_runs, string_runs, name_assigned_runs, element_assigned_runs}
use Rattle.gn_meaning.specs.Calls.{has_entry_runs, has_value_runs, loop_runs, call_value_runs, checked_end}
use Rattle.gn_meaning.specs.FunctionCalls.{called_runs}
use Rattle.gn_meaning.specs.Pieces.{pieces_run}

-- an operator behind its left side: `&&` and `||` look at its type first and stop early, all others evaluate the right side first
abbrev pub operator_runs : BinaryOp → Val → Steps Val → Position → Steps Val
operator_runs And (vbool false) right position env out = ends (vbool false) env out
operator_runs And (vbool true) right position env out = then_do (right env out) (λ y env1 out1. boolean_runs y position env1 out1)
operator_runs And _ right position env out = fails_at code.BadTypes position [] env out
operator_runs Or (vbool true) right position env out = ends (vbool true) env out
operator_runs Or (vbool false) right position env out = then_do (right env out) (λ y env1 out1. boolean_runs y position env1 out1)
operator_runs Or _ right position env out = fails_at code.BadTypes position [] env out
operator_runs operator x right position env out = then_do (right env out) (λ y env1 out1. value_or_fault (operated operator x y) position env1 out1)

-- a condition has to be a boolean, which picks a block
unfoldable pub truth_runs : Val → Position → Steps Bool
truth_runs (vbool b) at env out = ends b env out
truth_runs _ at env out = fails_at code.NotBoolean at [] env out

abbrev pub picked_runs : Bool → (first second : Steps (Unit {0})) → Steps (Unit {0})
picked_runs true first second env out = first env out
picked_runs false first second env out = second env out

-- how many operators between operands an expression has outside its brackets
abbrev pub operators_in : ExprTree → ℕ
operators_in (binary_expr o p l r) = operators_in l + 1 + operators_in r
operators_in _ = 0

-- the block behind a call, if there is one
abbrev pub block_in : BodyTree → Option BlockTree
block_in no_body = None
block_in (some_body b) = Some b

-- a call of these parts
abbrev pub call_in : Position → List ℕ → ExprTrees → BodyTree → Call
call_in p name es body = record { position = p; name = name; arguments = es; block = block_in body }

-- Each part nests in its file as deep as the number says: a bracket counts for all that stands inside, a `!` for its operand, an operator for all that
-- comes behind it in its expression outside the brackets around it, and an `else if` for the rest of its chain.
unfoldable mutual
  pub expr_runs : World → ℕ → ExprTree → Steps Val
  expr_runs w n (name_expr p m) env out = name_runs m p env out
  expr_runs w n (integer_expr p v) env out = ends (vint v) env out
  expr_runs w n (string_expr p pieces) env out = then_do (pieces_run pieces [] env out) (λ text env1 out1. string_runs text p env1 out1)
  expr_runs w n (boolean_expr p b) env out = ends (vbool b) env out
  expr_runs w n (call_expr c) env out = then_do (call_runs w n c env out) (λ v env1 out1. call_value_runs v (call_position c) env1 out1)
  expr_runs w n (item_expr p base bracket index) env out =
      then_do (base_runs base p env out) (λ _ env1 out1. then_do (expr_runs w (deeper n 1) index env1 out1) (λ at env2 out2. element_runs base p at bracket env2 out2))
  expr_runs w n (entry_expr p base dot entry) env out = element_runs base p (vstr entry) dot env out
  expr_runs w n (scope_expr p b) env out = then_do (block_runs w (deeper n 1) b (entered false env) out) (λ _ env1 out1. scope_runs p env1 out1)
  expr_runs w n (parentheses_expr p e) env out = expr_runs w (deeper n 1) e env out
  expr_runs w n (list_expr p es) env out = then_do (values_run w (deeper n 1) es [] env out) (λ vs env1 out1. list_runs vs p env1 out1)
  expr_runs w n (not_expr p e) env out = then_do (expr_runs w (deeper n 1) e env out) (λ v env1 out1. negation_runs v p env1 out1)
  expr_runs w n (binary_expr o p l r) env out =
      then_do (expr_runs w n l env out) (λ x env1 out1. operator_runs o x (expr_runs w (deeper n (operators_in l + 1)) r) p env1 out1)

  -- the values of arguments or of items in order, behind those that are there
  pub values_run : World → ℕ → ExprTrees → List Val → Steps (List Val)
  values_run w n no_exprs vs env out = ends vs env out
  values_run w n (expr_then e es) vs env out = then_do (expr_runs w n e env out) (λ v env1 out1. values_run w n es (vs ++ v ∷ []) env1 out1)

  -- the values of all arguments but the first
  pub others_run : World → ℕ → ExprTrees → Steps (List Val)
  others_run w n no_exprs env out = ends [] env out
  others_run w n (expr_then e es) env out = values_run w n es [] env out

  -- a call: what stands inside its brackets and in its block nests one deeper than its name
  pub call_runs : World → ℕ → CallTree → Steps (Option Val)
  call_runs w n (call_tree p name es body) env out =
      called_runs w.answers w.call n (deeper n 1) (call_in p name es body)
      (record {
        values = values_run w (deeper n 1) es [];
        others = others_run w (deeper n 1) es;
        tests = defined_runs w (deeper n 1) es p name;
        loops = foreach_runs w (deeper n 1) es p name (body_runs w (deeper n 1) body);
        block = body_runs w (deeper n 1) body;
        reads = w.read;
      }) env out

  -- the block behind a call, if there is one
  pub body_runs : World → ℕ → BodyTree → Steps (Unit {0})
  body_runs w n no_body env out = ends tt env out
  body_runs w n (some_body b) env out = block_runs w n b env out

  pub defined_runs : World → ℕ → ExprTrees → Position → List ℕ → Steps (Option Val)
  defined_runs w n (expr_then (name_expr q m) no_exprs) p name env out = has_value_runs m env out
  defined_runs w n (expr_then (entry_expr q base dot entry) no_exprs) p name env out =
      then_do (base_runs base q env out) (λ _ env1 out1. has_entry_runs base (vstr entry) q env1 out1)
  defined_runs w n (expr_then (item_expr q base bracket index) no_exprs) p name env out =
      then_do (base_runs base q env out) (λ _ env1 out1. then_do (expr_runs w (deeper n 1) index env1 out1) (λ at env2 out2. has_entry_runs base at q env2 out2))
  defined_runs w n _ p name env out = fails_at code.BadArguments p (name ∷ []) env out

  pub foreach_runs : World → ℕ → ExprTrees → Position → List ℕ → Steps (Unit {0}) → Steps (Option Val)
  foreach_runs w n (expr_then (name_expr q v) (expr_then e no_exprs)) p name block env out =
      then_do (expr_runs w n e env out) (λ l env1 out1. loop_runs v l (first_position e) block env1 out1)
  foreach_runs w n _ p name block env out = fails_at code.BadArguments p (name ∷ []) env out

  -- the right side is evaluated first, then the subscript
  pub assignment_runs : World → ℕ → TargetTree → AssignOp → Position → Val → Steps (Unit {0})
  assignment_runs w n (name_target p m) o q v env out = name_assigned_runs m p o q v env out
  assignment_runs w n (item_target p base bracket index) o q v env out =
      then_do (expr_runs w (deeper n 1) index env out) (λ at env1 out1. element_assigned_runs base p at bracket o q v env1 out1)
  assignment_runs w n (entry_target p base dot entry) o q v env out = element_assigned_runs base p (vstr entry) dot o q v env out

  pub statement_runs : World → ℕ → StatementTree → Steps (Unit {0})
  statement_runs w n (assign_statement t o q e) env out = then_do (expr_runs w n e env out) (λ v env1 out1. assignment_runs w n t o q v env1 out1)
  statement_runs w n (call_statement c) env out = then_do (call_runs w n c env out) (λ _ env1 out1. ends tt env1 out1)
  statement_runs w n (condition_statement c) env out = condition_runs w n c env out

  pub condition_runs : World → ℕ → ConditionTree → Steps (Unit {0})
  condition_runs w n (condition_tree test b o) env out =
      then_do (expr_runs w (deeper n 1) test env out) (λ v env1 out1. then_do (truth_runs v (first_position test) env1 out1)
      (λ holds env2 out2. picked_runs holds (block_runs w (deeper n 1) b) (otherwise_runs w n o) env2 out2))

  pub otherwise_runs : World → ℕ → OtherwiseTree → Steps (Unit {0})
  otherwise_runs w n no_otherwise env out = ends tt env out
  otherwise_runs w n (else_block b) env out = block_runs w (deeper n 1) b env out
  otherwise_runs w n (else_if c) env out = condition_runs w (deeper n 1) c env out

  pub block_runs : World → ℕ → BlockTree → Steps (Unit {0})
  block_runs w n no_statements env out = ends tt env out
  block_runs w n (statement_then s b) env out = then_do (statement_runs w n s env out) (λ _ env1 out1. block_runs w n b env1 out1)

-- the bodies of templates, and what expressions come to that are read from files, where so many calls may still open. Each makes the evaluation deeper by
-- one at least, so the greatest depth decides before this number does
unfoldable mutual
  pub calls : ℕ → Answers → DefinitionState → Position → Steps (Unit {0})
  calls zero answers definition position env out = fails_at code.Nesting position [] env out
  calls (suc room) answers definition position env out =
      block_runs (record { answers = answers; call = calls room answers; read = reads room answers }) definition.nesting definition.block env out

  pub reads : ℕ → Answers → ExprTree → Steps Val
  reads zero answers expression env out = fails_at code.Nesting (first_position expression) [] env out
  reads (suc room) answers expression env out =
      expr_runs (record { answers = answers; call = calls room answers; read = reads room answers }) 0 expression env out

-- what a step may look at over these answers, where so many calls may still open
abbrev pub world : ℕ → Answers → World
world room answers = record { answers = answers; call = calls room answers; read = reads room answers }

-- a block that nests nowhere
unfoldable pub whole_block_runs : Answers → BlockTree → Steps (Unit {0})
whole_block_runs answers b env out = block_runs (world max_evaluation_depth answers) 0 b env out

-- a whole file whose scope is checked: its block, and then its unread names
unfoldable pub file_runs : Answers → BlockTree → Steps (Unit {0})
file_runs answers b env out = then_do (whole_block_runs answers b env out) (λ _ env1 out1. checked_end (reported_here env1) tt env1 env1 out1)

-- a file that is imported: its block, and then what it leaves
unfoldable pub import_file_runs : Answers → BlockTree → Steps ImportState
import_file_runs answers b env out = then_do (whole_block_runs answers b env out) (λ _ env1 out1. ends (import_left env1) env1 out1)

-- whether a build configuration lacks the name of the default toolchain: under that toolchain, whose text isn't known while it runs, it has to have one
abbrev pub lacks_toolchain : List ℕ → Option DefaultToolchain → Bool
lacks_toolchain toolchain named = length toolchain == 0 && not (is_some named)

-- the build configuration: its block, and then what it leaves for the files beneath which it stands; where it names no default toolchain, that is missing
-- at line 1, column 1
unfoldable pub configuration_ends : Steps ImportState
configuration_ends env out =
    if lacks_toolchain env.setting.context.toolchain out.default_toolchain
    then fails_at code.Missing (record { line = 1; column = 1 }) (codes "set_default_toolchain" ∷ []) env out
    else ends (configuration_left env) env out

unfoldable pub configuration_file_runs : Answers → BlockTree → Steps ImportState
configuration_file_runs answers b env out = then_do (whole_block_runs answers b env out) (λ _ env1 out1. configuration_ends env1 out1)
