-- A call leaves in order what it finds in order, where its parts and the answers do so.
use Rattle.std.proofs.Common.{ℕ, ◌+◌, Bool, true, false, ◌&&◌, nat_lt, Option, Some, None, is_some}
use Rattle.gn_tree.specs.declared.tree.Call.{Call}
use Rattle.gn_tree.specs.declared.position.Position.{Position}
use Rattle.gn_tree.specs.Counts.{expr_count}
use Rattle.gn_values.specs.Val.{Val}
use Rattle.gn_definitions.specs.Imported.{DefinitionState}
use Rattle.gn_items.specs.Effects.{Effects}
use Rattle.gn_runs.specs.Runs.{Answers}
use Rattle.gn_environment.specs.Environment.{Environment}
use Rattle.gn_environment.specs.Templates.{template_of}
use Rattle.gn_meaning.specs.Steps.{Steps, max_evaluation_depth}
use Rattle.gn_meaning.specs.Imports.{max_import_nesting}
use Rattle.gn_meaning.specs.Templates.{opened_depth}
use Rattle.gn_functions.specs.Functions.{function_of}
use Rattle.gn_functions.specs.Rules.{takes, rule_of, template_rule}
use Rattle.gn_meaning.specs.ChangingCalls.{begins_with_invoker}
use Rattle.gn_meaning.specs.OpeningCalls.{of_template, of_function, opening_runs}
use Rattle.gn_meaning.specs.FunctionCalls.{allowed_here, ruled_runs, named_runs, accepted_runs, template_accepted_runs, is_skipped, unless_skipped, Parts, given_runs, changing_runs, function_runs, built_in_runs, template_called_runs, template_or_built_in, called_runs}
use Rattle.gn_functions.specs.declared.function.Function.{Function}
use Rattle.gn_functions.specs.declared.function.Function.TheVariants.{Plain, Changing as OfChanging, Opening as OfOpening, Defined, Foreach, ReadFile}
use Rattle.gn_functions.specs.declared.function.Changing.{Changing}
use Rattle.gn_functions.specs.declared.function.Opening.{Opening}
use Rattle.gn_functions.specs.declared.function.Named.{Named}
use Rattle.gn_functions.specs.declared.function.Named.TheVariants.{Function as OfFunction, Excluded, Unknown}
use Rattle.gn_orders.specs.InOrder.{IsKeptInOrder, IsBodyInOrder, IsOrdered, AreAnswersInOrder}
use Rattle.gn_orders.proofs.Environments.{template_so, at_depth_keeps}
use Rattle.gn_orders.proofs.Ends.{Leaves, Keep, ends_do, keep_do, keep_ends, fails_so, so_if}
use Rattle.gn_orders.proofs.Steps.{plain_keeps}
use Rattle.gn_orders.proofs.Contents.{read_file_keeps}
use Rattle.gn_orders.proofs.Selections.{changed_keeps}
use Rattle.gn_orders.proofs.Openings.{BodiesKeep, opening_leaves}

ruled_keeps : (f : Function) (n : ℕ) (call : Call) → Keep (ruled_runs f (rule_of f) n call)
unfolding ruled_runs
ruled_keeps f n call env out =
    so_if (allowed_here (rule_of f).allowed env) _ _
    (so_if (takes (rule_of f) (expr_count call.arguments) (is_some call.block)) _ _ (so_if ((rule_of f).imports && nat_lt max_import_nesting (n + env.depth)) _ _ (fails_so _ out) (keep_ends f env out (λ o. o))) (fails_so _ out)) (fails_so _ out)

named_keeps : (f : Named) (n : ℕ) (call : Call) → Keep (named_runs f n call)
named_keeps (OfFunction f) n call env out = ruled_keeps f n call env out
named_keeps Excluded n call env out = fails_so _ out
named_keeps Unknown n call env out = fails_so _ out

accepted_keeps : (n : ℕ) (call : Call) → Keep (accepted_runs n call)
unfolding accepted_runs
accepted_keeps n call env out = named_keeps (function_of call.name) n call env out

-- a template's call that is open
template_accepted_keeps : (n : ℕ) (call : Call) → Keep (template_accepted_runs n call)
unfolding template_accepted_runs
template_accepted_keeps n call env out =
    so_if (takes template_rule (expr_count call.arguments) (is_some call.block)) _ _
    (so_if (nat_lt max_evaluation_depth (opened_depth n env)) _ _ (fails_so _ out) (keep_ends _ _ out (at_depth_keeps (opened_depth n env) env))) (fails_so _ out)

unless_keeps : (skipped : Bool) (steps : Steps (Option Val)) → Keep steps → Keep (unless_skipped skipped steps)
unless_keeps true steps t env out = keep_ends _ env out (λ o. o)
unless_keeps false steps t env out = t env out

-- the parts of a call, each of which leaves in order what it finds in order
pub record PartsKeep (parts : Parts) : Type 0 where
  pub values : Keep parts.values
  pub others : Keep parts.others
  pub tests : Keep parts.tests
  pub loops : Keep parts.loops
  pub block : Keep parts.block

module _ (answers : Answers) (i : AreAnswersInOrder answers) (body : DefinitionState → Position → Steps (Unit {0})) (b : BodiesKeep body) (n inside : ℕ) (call : Call) (parts : Parts) (t : PartsKeep parts) where
  given_keeps : (invoker : Bool) → Keep (given_runs invoker parts)
  given_keeps true env out = t.others env out
  given_keeps false env out = t.values env out

  changing_keeps : (f : Changing) → Keep (changing_runs answers f inside call parts)
  changing_keeps f env out =
      keep_do _ _ (given_keeps (begins_with_invoker f call.arguments env) env out)
      (λ vs env1 out1. changed_keeps answers i f (begins_with_invoker f call.arguments env) vs call inside env1 out1)

  opening_keeps : (f : Opening) → Keep (opening_runs body (of_function f) n call parts.values parts.block)
  opening_keeps f env out = opening_leaves body b parts.block t.block env (of_function f) n call parts.values t.values env out (λ o. o) tt

  function_keeps : (f : Function) → Keep (function_runs answers body f n inside call parts)
  unfolding function_runs
  function_keeps (Plain f) env out = keep_do _ _ (t.values env out) (λ vs env1 out1. plain_keeps f vs call env1 out1)
  function_keeps (OfChanging f) env out = changing_keeps f env out
  function_keeps (OfOpening f) env out = unless_keeps (is_skipped f env) _ (opening_keeps f) env out
  function_keeps Defined env out = t.tests env out
  function_keeps Foreach env out = t.loops env out
  function_keeps ReadFile env out = keep_do _ _ (t.values env out) (λ vs env1 out1. read_file_keeps answers parts.reads vs n call env1 out1)

  built_in_keeps : Keep (built_in_runs answers body n inside call parts)
  unfolding built_in_runs
  built_in_keeps env out = keep_do _ _ (accepted_keeps n call env out) (λ f env1 out1. function_keeps f env1 out1)

  template_called_leaves : (d : DefinitionState) (env : Environment) (out : Effects) → (IsOrdered env → IsKeptInOrder d) → Leaves env (template_called_runs body d n call parts env out)
  unfolding template_called_runs
  template_called_leaves d env out k =
      ends_do _ _ (template_accepted_keeps n call env out)
      (λ l h. opening_leaves body b parts.block t.block env (of_template d l.value) n call parts.values t.values l.environment l.effects h k)

  chosen_leaves : (d : Option DefinitionState) (env : Environment) (out : Effects) → (IsOrdered env → IsBodyInOrder d) → Leaves env (template_or_built_in d answers body n inside call parts env out)
  chosen_leaves (Some d) env out k = template_called_leaves d env out k
  chosen_leaves None env out k = built_in_keeps env out

  pub called_keeps : Keep (called_runs answers body n inside call parts)
  unfolding called_runs
  called_keeps env out = chosen_leaves (template_of call.name env) env out (template_so call.name env)
