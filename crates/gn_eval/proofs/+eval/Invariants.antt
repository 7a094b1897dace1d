use Rattle.std.proofs.Common.{◌≡◌, ◌≤◌, ◌+◌, ◌*◌, [], map, drop, length}
use Rattle.std.specs.Vec.Iter.{into_iter_items}
use Rattle.gn_tree.specs.Depth.{expr_depth, exprs_depth, call_depth, body_depth, target_depth, statement_depth, condition_depth, otherwise_depth, block_depth}
use Rattle.gn_tree.specs.Views.{expr_of, exprs_of, call_of, body_of, target_of, statement_of, condition_of, otherwise_of, block_of}
use Rattle.gn_values.specs.View.{val_of}
use Rattle.gn_runs.specs.Runs.{Answers}
use Rattle.gn_meaning.specs.Calls.{turns_run}
use Rattle.gn_meaning.specs.Meaning.{world, expr_runs, values_run, body_runs, block_runs}
use Rattle.gn_eval.specs.Library.{Includes, GoesOn}
use Rattle.gn_eval.proofs.Joined.{operations_run, right_depth}
use Rattle.gn_eval.proofs.+eval.Given as goal

-- The calls of templates and evaluations of what was read that may still open, then ten times the depth, and then a rank for calls at one depth.

abbrev pub decreases-expressions::eval_expr : goal.decreases-expressions::eval_expr
decreases-expressions::eval_expr g l = l.level.room * 4294967296 + (10 * expr_depth (expr_of l.expr.now) + 5)

abbrev pub decreases-expressions::eval_operand : goal.decreases-expressions::eval_operand
decreases-expressions::eval_operand g l = l.level.room * 4294967296 + (10 * expr_depth (expr_of l.expr.now) + 4)

abbrev pub decreases-expressions::eval_call : goal.decreases-expressions::eval_call
decreases-expressions::eval_call g l = l.level.room * 4294967296 + (10 * call_depth (call_of l.call.now) + 6)

abbrev pub decreases-expressions::eval_item : goal.decreases-expressions::eval_item
decreases-expressions::eval_item g l = l.level.room * 4294967296 + (10 * expr_depth l.index.now + 6)

abbrev pub decreases-expressions::apply : goal.decreases-expressions::apply
decreases-expressions::apply g l = l.level.room * 4294967296 + (10 * expr_depth l.operation.right.now + 6)

abbrev pub decreases-expressions::eval_scope : goal.decreases-expressions::eval_scope
decreases-expressions::eval_scope g l = l.level.room * 4294967296 + (10 * block_depth l.block.now + 8)

abbrev pub decreases-expressions::eval_list : goal.decreases-expressions::eval_list
decreases-expressions::eval_list g l = l.level.room * 4294967296 + (10 * exprs_depth l.items.now + 7)

abbrev pub decreases-expressions::eval_values : goal.decreases-expressions::eval_values
decreases-expressions::eval_values g l = l.level.room * 4294967296 + (10 * exprs_depth (exprs_of l.arguments.now) + 6)

abbrev pub decreases-calls::run_call : goal.decreases-calls::run_call
decreases-calls::run_call g l = l.level.room * 4294967296 + (10 * call_depth (call_of l.call.now) + 5)

abbrev pub decreases-calls::run_template : goal.decreases-calls::run_template
decreases-calls::run_template g l = l.level.room * 4294967296 + (10 * call_depth (call_of l.call.now) + 4)

abbrev pub decreases-calls::run_built_in : goal.decreases-calls::run_built_in
decreases-calls::run_built_in g l = l.level.room * 4294967296 + (10 * call_depth (call_of l.call.now) + 4)

abbrev pub decreases-calls::run_function : goal.decreases-calls::run_function
decreases-calls::run_function g l = l.level.room * 4294967296 + (10 * call_depth (call_of l.call.now) + 3)

abbrev pub decreases-calls::run_plain : goal.decreases-calls::run_plain
decreases-calls::run_plain g l = l.level.room * 4294967296 + (10 * call_depth (call_of l.call.now) + 2)

abbrev pub decreases-calls::run_changing : goal.decreases-calls::run_changing
decreases-calls::run_changing g l = l.level.room * 4294967296 + (10 * call_depth (call_of l.call.now) + 2)

abbrev pub decreases-calls::run_opening : goal.decreases-calls::run_opening
decreases-calls::run_opening g l = l.level.room * 4294967296 + (10 * call_depth (call_of l.call.now) + 2)

abbrev pub decreases-calls::run_valued : goal.decreases-calls::run_valued
decreases-calls::run_valued g l = l.level.room * 4294967296 + (10 * call_depth (call_of l.call.now) + 1)

abbrev pub decreases-calls::run_block_of : goal.decreases-calls::run_block_of
decreases-calls::run_block_of g l = l.level.room * 4294967296 + (10 * body_depth (body_of l.block.now) + 8)

abbrev pub decreases-calls::run_body : goal.decreases-calls::run_body
decreases-calls::run_body g l = l.level.room * 4294967296 + 1

abbrev pub decreases-calls::run_template_body : goal.decreases-calls::run_template_body
decreases-calls::run_template_body g l = l.level.room * 4294967296

abbrev pub decreases-calls::run_opened : goal.decreases-calls::run_opened
decreases-calls::run_opened g l = l.level.room * 4294967296 + 10 * call_depth (call_of l.call.now)

abbrev pub decreases-reading::run_read_file : goal.decreases-reading::run_read_file
decreases-reading::run_read_file g l = l.level.room * 4294967296 + (10 * call_depth (call_of l.call.now) + 2)

abbrev pub decreases-reading::end_read : goal.decreases-reading::end_read
decreases-reading::end_read g l = l.level.room * 4294967296 + 1

abbrev pub decreases-reading::eval_read : goal.decreases-reading::eval_read
decreases-reading::eval_read g l = l.level.room * 4294967296

abbrev pub decreases-special_calls::run_defined : goal.decreases-special_calls::run_defined
decreases-special_calls::run_defined g l = l.level.room * 4294967296 + (10 * call_depth (call_of l.call.now) + 2)

abbrev pub decreases-special_calls::has_item : goal.decreases-special_calls::has_item
decreases-special_calls::has_item g l = l.level.room * 4294967296 + (10 * expr_depth l.index.now + 6)

abbrev pub decreases-special_calls::run_foreach : goal.decreases-special_calls::run_foreach
decreases-special_calls::run_foreach g l = l.level.room * 4294967296 + (10 * call_depth (call_of l.call.now) + 2)

abbrev pub decreases-special_calls::run_loop : goal.decreases-special_calls::run_loop
decreases-special_calls::run_loop g l = l.level.room * 4294967296 + (10 * body_depth (body_of l.block.now) + 10)

abbrev pub decreases-special_calls::run_rounds : goal.decreases-special_calls::run_rounds
decreases-special_calls::run_rounds g l = l.level.room * 4294967296 + (10 * body_depth (body_of l.block.now) + 9)

abbrev pub decreases-statements::run_statements : goal.decreases-statements::run_statements
decreases-statements::run_statements g l = l.level.room * 4294967296 + (10 * block_depth l.block.now + 7)

abbrev pub decreases-statements::run_statement : goal.decreases-statements::run_statement
decreases-statements::run_statement g l = l.level.room * 4294967296 + (10 * statement_depth (statement_of l.statement.now) + 6)

abbrev pub decreases-statements::assign : goal.decreases-statements::assign
decreases-statements::assign g l = l.level.room * 4294967296 + (10 * target_depth (target_of l.target.now) + 6)

abbrev pub decreases-statements::run_condition : goal.decreases-statements::run_condition
decreases-statements::run_condition g l = l.level.room * 4294967296 + (10 * condition_depth (condition_of l.condition.now) + 3)

abbrev pub decreases-statements::run_otherwise : goal.decreases-statements::run_otherwise
decreases-statements::run_otherwise g l = l.level.room * 4294967296 + (10 * otherwise_depth (otherwise_of l.otherwise.now) + 4)

abbrev pub invariant-expressions::eval_expr-operators : goal.invariant-expressions::eval_expr-operators
invariant-expressions::eval_expr-operators g l = record {
  runs : (a : Answers) → Includes (g.L.Library.state l.library).told a → expr_runs (world l.fn.level.room a) l.fn.level.nesting (expr_of l.fn.expr) l.fn.env l.fn.out ≡ operations_run (world l.inner.room a) l.inner.nesting l.operations.items (val_of l.value) l.env l.out;
  goes : GoesOn (g.L.Library.state l.fn.library) (g.L.Library.state l.library);
  small : right_depth l.operations.items ≤ expr_depth (expr_of l.fn.expr);
  room : l.inner.room ≡ l.fn.level.room;
  capped : l.inner.nesting ≤ 400;
}

abbrev pub decreases-expressions::eval_expr-operators : goal.decreases-expressions::eval_expr-operators
decreases-expressions::eval_expr-operators g l = length l.operations.items

abbrev pub invariant-expressions::eval_values-loop-argument : goal.invariant-expressions::eval_values-loop-argument
invariant-expressions::eval_values-loop-argument g l = record {
  runs : (a : Answers) → Includes (g.L.Library.state l.library).told a → values_run (world l.level.room a) l.level.nesting (exprs_of l.arguments) [] l.fn.env l.fn.out ≡ values_run (world l.level.room a) l.level.nesting (exprs_of (drop l.argument-index l.arguments)) (map val_of l.values.items) l.env l.out;
  goes : GoesOn (g.L.Library.state l.fn.library) (g.L.Library.state l.library);
  small : exprs_depth (exprs_of (drop l.argument-index l.arguments)) ≤ exprs_depth (exprs_of l.arguments);
}

abbrev pub invariant-special_calls::run_rounds-rounds : goal.invariant-special_calls::run_rounds-rounds
invariant-special_calls::run_rounds-rounds g l = record {
  runs : (a : Answers) → Includes (g.L.Library.state l.library).told a → turns_run l.name (body_runs (world l.level.room a) l.level.nesting (body_of l.block)) (map val_of l.fn.items.items) l.fn.env l.fn.out ≡ turns_run l.name (body_runs (world l.level.room a) l.level.nesting (body_of l.block)) (map val_of (into_iter_items l.item-iterator)) l.env l.out;
  goes : GoesOn (g.L.Library.state l.fn.library) (g.L.Library.state l.library);
}

abbrev pub invariant-statements::run_statements-loop-statement : goal.invariant-statements::run_statements-loop-statement
invariant-statements::run_statements-loop-statement g l = record {
  runs : (a : Answers) → Includes (g.L.Library.state l.library).told a → block_runs (world l.level.room a) l.level.nesting l.fn.block l.fn.env l.fn.out ≡ block_runs (world l.level.room a) l.level.nesting (block_of (drop l.statement-index l.statement-items)) l.env l.out;
  goes : GoesOn (g.L.Library.state l.fn.library) (g.L.Library.state l.library);
  small : block_depth (block_of (drop l.statement-index l.statement-items)) ≤ block_depth l.fn.block;
}
