use Rattle.std.proofs.Common.{Err, Global, None, Some, Vec, [], ap, arith, drop, map, option_map, rules, subst, sym, ℕ, ◌++◌, ◌+◌, ◌∙◌, ◌∷◌, ◌≡◌, ◌≤◌}
use Rattle.std.proofs.lemmas.Grind.{common_steps}
use Rattle.std.specs.declared.sync.Arc.{Arc}
use Rattle.gn_environment.specs.Environment.{Environment}
use Rattle.gn_environment.specs.Templates.{body_begins, template_of}
use Rattle.gn_eval.proofs.CallParts.{called_body, called_built_in, called_template, defined_item, foreach_two, one_expr, two_exprs, values_next}
use Rattle.gn_eval.specs.Telling.{covered, goes_on_further, then_failed, told_before}
use Rattle.gn_eval.proofs.Joined.{joined_ended, joined_failed, operand_within, operation_done, operation_failed, operations_run, right_depth, right_depth-more, rights_within}
use Rattle.gn_eval.proofs.Passed.{ended_claims, failed, failed_claims, goes_on_still, same_claims, step_claims}
use Rattle.gn_eval.proofs.ReadValues.{read_claims, read_inside}
use Rattle.gn_eval.specs.Ends.{Evaluates, IsFailure, end_of_step}
use Rattle.gn_eval.specs.Parts.{parts}
use Rattle.gn_eval.specs.declared.level.Level.{Level}
use Rattle.gn_meaning.specs.Calls.{has_entry_runs, loop_runs}
use Rattle.gn_meaning.specs.Contents.{evaluated_runs, read_ends}
use Rattle.gn_meaning.specs.FunctionCalls.{built_in_runs, template_called_runs}
use Rattle.gn_meaning.specs.Meaning.{block_runs, body_runs, call_runs, calls, defined_runs, expr_runs, foreach_runs, operators_in, reads, values_run, world}
use Rattle.gn_meaning.specs.OpeningCalls.{begun_runs, opened_call_runs, valued_runs}
use Rattle.gn_meaning.specs.Steps.{deeper, then_do}
use Rattle.gn_meaning.specs.Words.{base_runs}
use Rattle.gn_calls_plain.specs.Contents.{read_view}
use Rattle.gn_calls_scopes.specs.Openings.{opened_view, opener_view}
use Rattle.gn_calls_plain.specs.declared.contents.Read.{Read}
use Rattle.gn_calls_scopes.specs.declared.openings.Opened.{Opened}
use Rattle.gn_tree.specs.Depth.{expr_depth, max_tree_depth}
use Rattle.gn_tree.specs.FirstPosition.{first_position}
use Rattle.gn_tree.specs.Tree.{BlockTree, ExprTree, expr_then, item_expr, name_expr, no_exprs}
use Rattle.gn_tree.specs.Views.{body_of, call_of, expr_of, exprs_of}
use Rattle.gn_tree.specs.declared.position.Position.{Position}
use Rattle.gn_tree.specs.declared.tree.Expr.{Expr}
use Rattle.gn_values.specs.View.{val_of}
use Rattle.gn_definitions.specs.declared.kept.Definition.{Definition}
use Rattle.gn_values.specs.declared.value.Value.{Value}
use Rattle.gn_eval.proofs.+eval.Goals as goal

pub expressions::eval_expr-eval_operand-requires : goal.expressions::eval_expr-eval_operand-requires
expressions::eval_expr-eval_operand-requires g t c κs within =
    let less : expr_depth (expr_of c.in_ok-leftmost.leftmost.now) ≤ expr_depth (expr_of c.args.expr.now) = subst (λ (x : ExprTree). expr_depth (expr_of c.in_ok-leftmost.leftmost.now) ≤ expr_depth x) (sym c.in_ok-leftmost.ensures.whole) (operand_within (expr_of c.in_ok-leftmost.leftmost.now) c.in_ok-leftmost.operations.items) in
    let shallow : expr_depth (expr_of c.in_ok-leftmost.leftmost.now) ≤ max_tree_depth = omega (arith, less, c.requires.shallow) in
    (search rules, (search rules, (c.in_ok-leftmost.ensures.operand, shallow)))

pub expressions::eval_expr-returns-in_err-value : goal.expressions::eval_expr-returns-in_err-value
expressions::eval_expr-returns-in_err-value g t c =
    let n = c.args.level.nesting in
    let os = c.in_ok-leftmost.operations.items in
    let operand = expr_of c.in_ok-leftmost.leftmost.now in
    let told = (g.L.Library.state c.eval_operand.new.library).told in
    let need = (g.L.Library.state c.eval_operand.new.library).need in
    record {
      runs = λ a h.
          let w = world c.args.level.room a in
          failed Value val_of told need c.from_residual-in_err-value.result c.in_err-value.field-0.0 a c.eval_operand.new.env c.eval_operand.new.out (expr_runs w n (expr_of c.args.expr.now) c.args.env.now c.args.out.now) c.from_residual-in_err-value.ensures.1
          (λ k. subst (λ (x : ExprTree). IsFailure need c.in_err-value.field-0.0 c.eval_operand.new.out (expr_runs w n x c.args.env.now c.args.out.now)) (sym c.in_ok-leftmost.ensures.whole)
          (joined_failed w n operand os c.args.env.now c.args.out.now need c.in_err-value.field-0.0 c.eval_operand.new.out (c.in_err-value.ensures.runs a k))) h;
      goes = grind (arith, common_steps);
      rose = grind (arith, common_steps);
    }

pub expressions::eval_expr-operators-init : goal.expressions::eval_expr-operators-init
expressions::eval_expr-operators-init g t c =
    let n = c.args.level.nesting in
    let os = c.in_ok-leftmost.operations.items in
    let operand = expr_of c.in_ok-leftmost.leftmost.now in
    record {
      runs = λ a h.
          let w = world c.args.level.room a in
          ap (λ (x : ExprTree). expr_runs w n x c.args.env.now c.args.out.now) c.in_ok-leftmost.ensures.whole
          ∙ joined_ended w n operand os c.args.env.now c.args.out.now (val_of c.in_ok-value.value) c.eval_operand.new.env c.eval_operand.new.out c.in_ok-leftmost.ensures.operand (c.in_ok-value.ensures.runs a h)
          ∙ ap (λ (l : Level). operations_run (world l.room a) l.nesting os (val_of c.in_ok-value.value) c.eval_operand.new.env c.eval_operand.new.out) (sym c.deeper-inner.ensures);
      goes = c.eval_operand.ensures.goes;
      small = subst (λ (x : ExprTree). right_depth os ≤ expr_depth x) (sym c.in_ok-leftmost.ensures.whole) (rights_within operand os);
      room = ap (λ (l : Level). l.room) c.deeper-inner.ensures;
      capped = omega (arith, ap (λ (l : Level). l.nesting) c.deeper-inner.ensures);
    }

pub expressions::eval_expr-apply-requires : goal.expressions::eval_expr-apply-requires
expressions::eval_expr-apply-requires g t c κs within =
    let rights = ap right_depth c.in-Some.ensures.items ∙ right_depth-more c.pop.new.self.items c.in-Some.operation in
    let small = c.operators.invariant.small in
    let room = c.operators.invariant.room in
    let less : expr_depth c.in-Some.operation.right.now + 1 ≤ expr_depth (expr_of c.args.expr.now) = omega arith in
    let shallow : expr_depth c.in-Some.operation.right.now ≤ max_tree_depth = omega (arith, less, c.requires.shallow) in
    (search rules, (search rules, shallow))

pub expressions::eval_expr-returns-in_err-value-2 : goal.expressions::eval_expr-returns-in_err-value-2
expressions::eval_expr-returns-in_err-value-2 g t c =
    let n = c.operators.inner.nesting in
    let o = c.in-Some.operation in
    let rest = c.pop.new.self.items in
    let told = (g.L.Library.state c.apply.new.library).told in
    let need = (g.L.Library.state c.apply.new.library).need in
    record {
      runs = λ a h.
          let w = world c.operators.inner.room a in
          let whole = expr_runs (world c.args.level.room a) c.args.level.nesting (expr_of c.args.expr.now) c.args.env.now c.args.out.now in
          let before = c.operators.invariant.runs a (told_before c.apply.ensures.goes a (covered told c.from_residual-in_err-value-2.result a h)) in
          failed Value val_of told need c.from_residual-in_err-value-2.result c.in_err-value-2.field-0.0 a c.apply.new.env c.apply.new.out whole c.from_residual-in_err-value-2.ensures.1
          (λ k. operation_failed w n whole c.operators.operations.items rest o (val_of c.operators.value) c.operators.env c.operators.out c.operators.invariant.capped before c.in-Some.ensures.items need c.in_err-value-2.field-0.0 c.apply.new.out (c.in_err-value-2.ensures.runs a k)) h;
      goes = goes_on_further _ _ _ c.operators.invariant.goes c.apply.ensures.goes;
      rose = grind (arith, common_steps);
    }

pub expressions::eval_expr-operators-preserved : goal.expressions::eval_expr-operators-preserved
expressions::eval_expr-operators-preserved g t c =
    let n = c.operators.inner.nesting in
    let o = c.in-Some.operation in
    let rest = c.pop.new.self.items in
    let rights = ap right_depth c.in-Some.ensures.items ∙ right_depth-more c.pop.new.self.items c.in-Some.operation in
    let got = ap operators_in c.get.ensures in
    let at : deeper n c.saturating_add.result ≡ deeper n (1 + operators_in o.right.now) = omega (arith, got, c.operators_in.ensures, c.saturating_add.ensures) in
    record {
      runs = λ a h.
          let w = world c.operators.inner.room a in
          let whole = expr_runs (world c.args.level.room a) c.args.level.nesting (expr_of c.args.expr.now) c.args.env.now c.args.out.now in
          operation_done w n whole c.operators.operations.items rest o (val_of c.operators.value) c.operators.env c.operators.out c.operators.invariant.capped (c.operators.invariant.runs a (told_before c.apply.ensures.goes a h)) c.in-Some.ensures.items (val_of c.in_ok-value-2.value) c.apply.new.env c.apply.new.out (c.in_ok-value-2.ensures.runs a h)
          ∙ ap (λ (k : ℕ). operations_run w k rest (val_of c.in_ok-value-2.value) c.apply.new.env c.apply.new.out) (sym at)
          ∙ ap (λ (l : Level). operations_run (world l.room a) l.nesting rest (val_of c.in_ok-value-2.value) c.apply.new.env c.apply.new.out) (sym c.deeper-inner-in-Some.ensures);
      goes = goes_on_further _ _ _ c.operators.invariant.goes c.apply.ensures.goes;
      small = omega (arith, rights, c.operators.invariant.small);
      room = ap (λ (l : Level). l.room) c.deeper-inner-in-Some.ensures ∙ c.operators.invariant.room;
      capped = omega (arith, ap (λ (l : Level). l.nesting) c.deeper-inner-in-Some.ensures);
    }

pub calls::run_call-returns-in-Some : goal.calls::run_call-returns-in-Some
calls::run_call-returns-in-Some g t c =
    let is : template_of c.args.call.now.name c.args.env.now ≡ Some c.in-Some.definition.value = sym c.in_ok-definition.ensures ∙ ap (option_map (λ (d : Arc Definition Global). d.value)) c.in-Some.is in
    same_claims (option_map val_of) (g.L.Library.state c.args.library.now) (g.L.Library.state c.run_template.new.library) c.run_template.result c.run_template.new.env c.run_template.new.out
    (λ a. call_runs (world c.args.level.room a) c.args.level.nesting (call_of c.args.call.now) c.args.env.now c.args.out.now)
    (λ a. template_called_runs (calls c.args.level.room a) c.in-Some.definition.value c.args.level.nesting c.args.call.now (parts (world c.args.level.room a) c.args.level.nesting c.args.call.now) c.args.env.now c.args.out.now)
    (λ a. called_template (world c.args.level.room a) c.args.level.nesting c.args.call.now c.args.env.now c.args.out.now c.in-Some.definition.value is) c.run_template.ensures

pub calls::run_call-returns-in-None : goal.calls::run_call-returns-in-None
calls::run_call-returns-in-None g t c =
    let is : template_of c.args.call.now.name c.args.env.now ≡ None = sym c.in_ok-definition.ensures ∙ ap (option_map (λ (d : Arc Definition Global). d.value)) c.in-None.is in
    same_claims (option_map val_of) (g.L.Library.state c.args.library.now) (g.L.Library.state c.run_built_in.new.library) c.run_built_in.result c.run_built_in.new.env c.run_built_in.new.out
    (λ a. call_runs (world c.args.level.room a) c.args.level.nesting (call_of c.args.call.now) c.args.env.now c.args.out.now)
    (λ a. built_in_runs a (calls c.args.level.room a) c.args.level.nesting (deeper c.args.level.nesting 1) c.args.call.now (parts (world c.args.level.room a) c.args.level.nesting c.args.call.now) c.args.env.now c.args.out.now)
    (λ a. called_built_in (world c.args.level.room a) c.args.level.nesting c.args.call.now c.args.env.now c.args.out.now is) c.run_built_in.ensures

pub expressions::apply-returns-after-left : goal.expressions::apply-returns-after-left
expressions::apply-returns-after-left g t c = record { runs = search rules; goes = search rules; rose = search rules }

pub expressions::apply-returns-after-left-5 : goal.expressions::apply-returns-after-left-5
expressions::apply-returns-after-left-5 g t c = record { runs = search rules; goes = search rules; rose = search rules }

pub expressions::eval_values-returns-in_err-value : goal.expressions::eval_values-returns-in_err-value
expressions::eval_values-returns-in_err-value g t c =
    let n = c.args.level.nesting in
    let es = c.args.arguments.now in
    let i = c.loop-argument.argument-index in
    let vs = map val_of c.loop-argument.values.items in
    let told = (g.L.Library.state c.eval_expr.new.library).told in
    let need = (g.L.Library.state c.eval_expr.new.library).need in
    let e = c.in_err-value.field-0.0 in
    let view = λ (r : Vec Value Global). map val_of r.items in
    record {
      runs = λ a h.
          let w = world c.args.level.room a in
          let before = c.loop-argument.invariant.runs a (told_before c.eval_expr.ensures.goes a (covered told c.from_residual.result a h)) in
          let whole = before ∙ values_next w n es i c.argument-item.result vs c.loop-argument.env c.loop-argument.out c.loop-argument-test.true c.argument-item.is in
          failed Value view told need c.from_residual.result e a c.eval_expr.new.env c.eval_expr.new.out (values_run w n (exprs_of es) [] c.args.env.now c.args.out.now) c.from_residual.ensures.1
          (λ k. subst (λ r. IsFailure need e c.eval_expr.new.out r) (sym whole)
          (then_failed need e c.eval_expr.new.out (expr_runs w n (expr_of c.argument-item.result) c.loop-argument.env c.loop-argument.out) (λ v env1 out1. values_run w n (exprs_of (drop (i + 1) es)) (vs ++ v ∷ []) env1 out1) (c.in_err-value.ensures.runs a k))) h;
      goes = goes_on_further _ _ _ c.loop-argument.invariant.goes c.eval_expr.ensures.goes;
      rose = search rules;
    }

pub special_calls::run_defined-returns-in-Item : goal.special_calls::run_defined-returns-in-Item
special_calls::run_defined-returns-in-Item g t c =
    let es : c.args.call.now.arguments ≡ expr_then (item_expr c.in-Item.position c.in-Item.base c.in-Item.bracket c.in-Item.index) no_exprs =
    sym c.as_slice.ensures.exprs ∙ one_expr c.as_slice.result.now c.argument-item.result c.in-len1.len_at_least c.in-len1.len_below c.argument-item.is
    ∙ ap (λ (x : Expr). expr_then (expr_of x) no_exprs) c.in-Item.is in
    same_claims (option_map val_of) (g.L.Library.state c.args.library.now) (g.L.Library.state c.has_item.new.library) c.has_item.result c.has_item.new.env c.has_item.new.out
    (λ a. defined_runs (world c.args.level.room a) c.args.level.nesting c.args.call.now.arguments c.args.call.now.position c.args.call.now.name c.args.env.now c.args.out.now)
    (λ a. then_do (base_runs c.in-Item.base c.in-Item.position c.args.env.now c.args.out.now) (λ _ env1 out1. then_do (expr_runs (world c.args.level.room a) (deeper c.args.level.nesting 1) c.in-Item.index env1 out1) (λ at env2 out2. has_entry_runs c.in-Item.base at c.in-Item.position env2 out2)))
    (λ a. defined_item (world c.args.level.room a) c.args.level.nesting c.args.call.now.arguments c.in-Item.position c.in-Item.base c.in-Item.bracket c.in-Item.index c.args.call.now.position c.args.call.now.name c.args.env.now c.args.out.now es) c.has_item.ensures

pub special_calls::run_foreach-returns-in_err-value : goal.special_calls::run_foreach-returns-in_err-value
special_calls::run_foreach-returns-in_err-value g t c =
    let es : c.args.call.now.arguments ≡ expr_then (name_expr c.in-Name.position c.in-Name.name) (expr_then (expr_of c.list-item.result) no_exprs) =
    sym c.as_slice.ensures.exprs ∙ two_exprs c.as_slice.result.now c.variable-item.result c.list-item.result c.in-len2.len_at_least c.in-len2.len_below c.variable-item.is c.list-item.is
    ∙ ap (λ (x : Expr). expr_then (expr_of x) (expr_then (expr_of c.list-item.result) no_exprs)) c.in-Name.is in
    same_claims (option_map val_of) (g.L.Library.state c.args.library.now) (g.L.Library.state c.eval_expr.new.library) c.from_residual.result c.eval_expr.new.env c.eval_expr.new.out
    (λ a. foreach_runs (world c.args.level.room a) c.args.level.nesting c.args.call.now.arguments c.args.call.now.position c.args.call.now.name (body_runs (world c.args.level.room a) c.args.level.nesting (body_of c.args.call.now.block)) c.args.env.now c.args.out.now)
    (λ a. then_do (expr_runs (world c.args.level.room a) c.args.level.nesting (expr_of c.list-item.result) c.args.env.now c.args.out.now) (λ x env1 out1. loop_runs c.in-Name.name x (first_position (expr_of c.list-item.result)) (body_runs (world c.args.level.room a) c.args.level.nesting (body_of c.args.call.now.block)) env1 out1))
    (λ a. foreach_two (world c.args.level.room a) c.args.level.nesting c.args.call.now.arguments (body_runs (world c.args.level.room a) c.args.level.nesting (body_of c.args.call.now.block)) c.in-Name.position c.in-Name.name (expr_of c.list-item.result) c.args.call.now.position c.args.call.now.name c.args.env.now c.args.out.now es)
    (failed_claims Value (option_map val_of) val_of (g.L.Library.state c.args.library.now) (g.L.Library.state c.eval_expr.new.library) c.from_residual.result c.in_err-value.field-0.0 c.eval_expr.new.env c.eval_expr.new.out
    (λ a. expr_runs (world c.args.level.room a) c.args.level.nesting (expr_of c.list-item.result) c.args.env.now c.args.out.now)
    (λ a x env1 out1. loop_runs c.in-Name.name x (first_position (expr_of c.list-item.result)) (body_runs (world c.args.level.room a) c.args.level.nesting (body_of c.args.call.now.block)) env1 out1)
    c.from_residual.ensures.1 c.in_err-value.ensures)

pub special_calls::run_foreach-returns : goal.special_calls::run_foreach-returns
special_calls::run_foreach-returns g t c =
    let es : c.args.call.now.arguments ≡ expr_then (name_expr c.in-Name.position c.in-Name.name) (expr_then (expr_of c.list-item.result) no_exprs) =
    sym c.as_slice.ensures.exprs ∙ two_exprs c.as_slice.result.now c.variable-item.result c.list-item.result c.in-len2.len_at_least c.in-len2.len_below c.variable-item.is c.list-item.is
    ∙ ap (λ (x : Expr). expr_then (expr_of x) (expr_then (expr_of c.list-item.result) no_exprs)) c.in-Name.is in
    same_claims (option_map val_of) (g.L.Library.state c.args.library.now) (g.L.Library.state c.run_loop.new.library) c.run_loop.result c.run_loop.new.env c.run_loop.new.out
    (λ a. foreach_runs (world c.args.level.room a) c.args.level.nesting c.args.call.now.arguments c.args.call.now.position c.args.call.now.name (body_runs (world c.args.level.room a) c.args.level.nesting (body_of c.args.call.now.block)) c.args.env.now c.args.out.now)
    (λ a. then_do (expr_runs (world c.args.level.room a) c.args.level.nesting (expr_of c.list-item.result) c.args.env.now c.args.out.now) (λ x env1 out1. loop_runs c.in-Name.name x (first_position (expr_of c.list-item.result)) (body_runs (world c.args.level.room a) c.args.level.nesting (body_of c.args.call.now.block)) env1 out1))
    (λ a. foreach_two (world c.args.level.room a) c.args.level.nesting c.args.call.now.arguments (body_runs (world c.args.level.room a) c.args.level.nesting (body_of c.args.call.now.block)) c.in-Name.position c.in-Name.name (expr_of c.list-item.result) c.args.call.now.position c.args.call.now.name c.args.env.now c.args.out.now es)
    (ended_claims (option_map val_of) (g.L.Library.state c.args.library.now) (g.L.Library.state c.eval_expr.new.library) (g.L.Library.state c.run_loop.new.library) c.run_loop.result c.run_loop.new.env c.run_loop.new.out
    (λ a. expr_runs (world c.args.level.room a) c.args.level.nesting (expr_of c.list-item.result) c.args.env.now c.args.out.now)
    (λ a x env1 out1. loop_runs c.in-Name.name x (first_position (expr_of c.list-item.result)) (body_runs (world c.args.level.room a) c.args.level.nesting (body_of c.args.call.now.block)) env1 out1)
    (val_of c.in_ok-value.value) c.eval_expr.new.env c.eval_expr.new.out (λ a i. c.in_ok-value.ensures.runs a i) c.eval_expr.ensures.goes
    (subst (λ (p : Position). Evaluates (option_map val_of) (g.L.Library.state c.eval_expr.new.library) (g.L.Library.state c.run_loop.new.library) c.run_loop.result c.run_loop.new.env c.run_loop.new.out
    (λ a. loop_runs c.in-Name.name (val_of c.in_ok-value.value) p (body_runs (world c.args.level.room a) c.args.level.nesting (body_of c.args.call.now.block)) c.eval_expr.new.env c.eval_expr.new.out)) c.first_position.ensures c.run_loop.ensures))

pub calls::run_valued-returns-in_err-opened : goal.calls::run_valued-returns-in_err-opened
unfolding valued_runs
calls::run_valued-returns-in_err-opened g t c =
    let state = g.L.Library.state c.args.library.now in
    let run = begun_runs (opener_view c.args.opener) (map val_of c.args.values.now) c.args.level.nesting c.args.call.now c.args.env.now c.args.out.now in
    let e = c.in_err-opened.field-0.0 in
    failed_claims Opened (option_map val_of) opened_view state state c.from_residual.result (end_of_step e) c.begin_call.new.env c.args.out.now (λ a. run)
    (λ a opened env1 out1. opened_call_runs (calls c.args.level.room a) opened c.args.call.now.position (parts (world c.args.level.room a) c.args.level.nesting c.args.call.now).block env1 out1)
    c.from_residual.ensures.1
    (step_claims opened_view state (Err e) c.begin_call.new.env c.args.out.now run (c.in_err-opened.ensures.runs c.args.out.now))

pub calls::run_valued-returns : goal.calls::run_valued-returns
unfolding valued_runs
calls::run_valued-returns g t c =
    let state = g.L.Library.state c.args.library.now in
    ended_claims (option_map val_of) state state (g.L.Library.state c.run_opened.new.library) c.run_opened.result c.run_opened.new.env c.run_opened.new.out
    (λ a. begun_runs (opener_view c.args.opener) (map val_of c.args.values.now) c.args.level.nesting c.args.call.now c.args.env.now c.args.out.now)
    (λ a opened env1 out1. opened_call_runs (calls c.args.level.room a) opened c.args.call.now.position (parts (world c.args.level.room a) c.args.level.nesting c.args.call.now).block env1 out1)
    (opened_view c.in_ok-opened.opened) c.begin_call.new.env c.args.out.now (λ a told. c.in_ok-opened.ensures.runs c.args.out.now) (goes_on_still state) c.run_opened.ensures

pub calls::run_template_body-returns : goal.calls::run_template_body-returns
calls::run_template_body-returns g t c =
    let definition = c.args.definition.now.value in
    let inside = c.in-Some.inside in
    let out = c.args.out.now in
    let begun : body_begins definition c.args.name.now c.args.env.now ≡ c.begin_body.new.self = search rules in
    let nesting : definition.nesting ≡ inside.nesting = search rules in
    let block : definition.block ≡ c.block.result.now = search rules in
    let room : inside.room + 1 ≡ c.args.level.room = c.in-Some.ensures.some.0 in
    same_claims (λ u. u) (g.L.Library.state c.args.library.now) (g.L.Library.state c.run_statements.new.library) c.run_statements.result c.run_statements.new.env c.run_statements.new.out
    (λ a. calls c.args.level.room a definition c.args.position (body_begins definition c.args.name.now c.args.env.now) out)
    (λ a. block_runs (world inside.room a) inside.nesting c.block.result.now c.begin_body.new.self out)
    (λ a. called_body c.args.level.room inside.room a definition c.args.position (body_begins definition c.args.name.now c.args.env.now) out room
    ∙ ap (λ (n : ℕ). block_runs (world inside.room a) n definition.block (body_begins definition c.args.name.now c.args.env.now) out) nesting
    ∙ ap (λ (b : BlockTree). block_runs (world inside.room a) inside.nesting b (body_begins definition c.args.name.now c.args.env.now) out) block
    ∙ ap (λ (e : Environment). block_runs (world inside.room a) inside.nesting c.block.result.now e out) begun)
    c.run_statements.ensures

pub reading::eval_read-returns : goal.reading::eval_read-returns
reading::eval_read-returns g t c =
    let inside = c.in-Some.inside in
    let expression = c.args.expression.now in
    let nesting : inside.nesting ≡ 0 = c.in-Some.ensures.some.1 in
    let room : inside.room + 1 ≡ c.args.level.room = c.in-Some.ensures.some.0 in
    same_claims val_of (g.L.Library.state c.args.library.now) (g.L.Library.state c.eval_expr.new.library) c.eval_expr.result c.eval_expr.new.env c.eval_expr.new.out
    (λ a. reads c.args.level.room a expression c.args.env.now c.args.out.now)
    (λ a. expr_runs (world inside.room a) inside.nesting (expr_of c.get-expression.result.now) c.args.env.now c.args.out.now)
    (λ a. read_inside c.args.level.room inside.room a expression c.args.env.now c.args.out.now room
    ∙ ap (λ (n : ℕ). expr_runs (world inside.room a) n expression c.args.env.now c.args.out.now) (sym nesting)
    ∙ ap (λ (e : ExprTree). expr_runs (world inside.room a) inside.nesting e c.args.env.now c.args.out.now) (sym c.get-expression.ensures))
    c.eval_expr.ensures

pub reading::end_read-returns-in_ok-begun-in-Expression : goal.reading::end_read-returns-in_ok-begun-in-Expression
unfolding read_ends
reading::end_read-returns-in_ok-begun-in-Expression g t c =
    let before = g.L.Library.state c.args.library.now in
    let after = g.L.Library.state c.eval_read-value.new.library in
    let nesting = c.args.level.nesting in
    let call = c.args.call.now in
    let env = c.args.env.now in
    let out = c.args.out.now in
    let expression = c.in-Expression.expression in
    let begun = c.in_ok-begun-in-Expression.begun in
    same_claims (option_map val_of) before after c.end_expression.result env c.eval_read-value.new.out
    (λ a. read_ends (reads c.args.level.room a) (read_view c.args.read) nesting call env out)
    (λ a. evaluated_runs (reads c.args.level.room a expression begun out) call env)
    (λ a. ap (λ (r : Read). read_ends (reads c.args.level.room a) (read_view r) nesting call env out) c.in-Expression.is
    ∙ ap (λ (e : Environment). evaluated_runs (reads c.args.level.room a expression e out) call env) (sym c.in_ok-begun-in-Expression.ensures))
    (read_claims call env before after c.eval_read-value.new.env c.eval_read-value.new.out (λ a. reads c.args.level.room a expression begun out) c.eval_read-value.result c.end_expression.result c.end_expression.ensures c.eval_read-value.ensures)
