-- A call is a tree of questions, where its parts are.
use Rattle.std.proofs.Common.{ℕ, ◌+◌, Bool, true, false, ◌&&◌, nat_lt, Option, Some, None, is_some}
use Rattle.gn_tree.specs.declared.position.Position.{Position}
use Rattle.gn_tree.specs.declared.tree.Call.{Call}
use Rattle.gn_tree.specs.Counts.{expr_count}
use Rattle.gn_tree.specs.Tree.{ExprTree}
use Rattle.gn_values.specs.Val.{Val}
use Rattle.gn_definitions.specs.Imported.{DefinitionState}
use Rattle.gn_items.specs.Effects.{Effects}
use Rattle.gn_runs.specs.Runs.{Answers}
use Rattle.gn_environment.specs.Environment.{Environment}
use Rattle.gn_environment.specs.Templates.{template_of}
use Rattle.gn_meaning.specs.Steps.{Steps}
use Rattle.gn_meaning.specs.Imports.{max_import_nesting}
use Rattle.gn_functions.specs.Functions.{function_of}
use Rattle.gn_functions.specs.Rules.{takes, rule_of, template_rule}
use Rattle.gn_meaning.specs.ChangingCalls.{begins_with_invoker}
use Rattle.gn_meaning.specs.OpeningCalls.{of_template, of_function, opening_runs}
use Rattle.gn_meaning.specs.FunctionCalls.{allowed_here, ruled_runs, named_runs, accepted_runs, template_accepted_runs, is_skipped, unless_skipped, Parts, given_runs, changing_runs, function_runs, built_in_runs, template_called_runs, template_or_built_in, called_runs}
use Rattle.gn_functions.specs.declared.rule.Rule.{Rule}
use Rattle.gn_functions.specs.declared.function.Function.{Function}
use Rattle.gn_functions.specs.declared.function.Function.TheVariants.{Plain, Changing as OfChanging, Opening, Defined, Foreach, ReadFile}
use Rattle.gn_functions.specs.declared.function.Changing.{Changing}
use Rattle.gn_functions.specs.declared.function.Named.{Named}
use Rattle.gn_functions.specs.declared.function.Named.TheVariants.{Function as OfFunction, Excluded, Unknown}
use Rattle.gn_meaning.proofs.Steps.{IsTreeBehind, AreQuiet, AreTrees, tree_do, tree_ends, tree_fails, tree_if}
use Rattle.gn_meaning.proofs.Templates.{opened_tree}
use Rattle.gn_meaning.proofs.PlainTrees.{plain_tree}
use Rattle.gn_meaning.proofs.Contents.{read_file_tree}
use Rattle.gn_meaning.proofs.ChangingTrees.{changed_tree}
use Rattle.gn_meaning.proofs.OpeningTrees.{BodiesAreTrees, opening_tree}

ruled_tree : (f : Function) (rule : Rule) (n : ℕ) (call : Call) → AreQuiet (ruled_runs f rule n call)
unfolding ruled_runs
ruled_tree f rule n call env out =
    tree_if (allowed_here rule.allowed env) _ _
    (tree_if (takes rule (expr_count call.arguments) (is_some call.block)) _ _
    (tree_if (rule.imports && nat_lt max_import_nesting (n + env.depth)) _ _ (tree_fails _ out) (tree_ends f env out)) (tree_fails _ out)) (tree_fails _ out)

named_tree : (f : Named) (n : ℕ) (call : Call) → AreQuiet (named_runs f n call)
named_tree (OfFunction f) n call env out = ruled_tree f (rule_of f) n call env out
named_tree Excluded n call env out = tree_fails _ out
named_tree Unknown n call env out = tree_fails _ out

accepted_tree : (n : ℕ) (call : Call) → AreQuiet (accepted_runs n call)
unfolding accepted_runs
accepted_tree n call env out = named_tree (function_of call.name) n call env out

template_accepted_tree : (n : ℕ) (call : Call) → AreQuiet (template_accepted_runs n call)
unfolding template_accepted_runs
template_accepted_tree n call env out =
    tree_if (takes template_rule (expr_count call.arguments) (is_some call.block)) _ _ (opened_tree n call.position _ (λ env1 out1. tree_ends env.depth env1 out1) env out) (tree_fails _ out)

unless_tree : (skipped : Bool) (steps : Answers → Steps (Option Val)) (env : Environment) (out : Effects) → IsTreeBehind out.asked (λ a. steps a env out) → IsTreeBehind out.asked (λ a. unless_skipped skipped (steps a) env out)
unless_tree true steps env out t = tree_ends None env out
unless_tree false steps env out t = t

-- the parts of a call, each of which is a tree
pub record PartsAreTrees (parts : Answers → Parts) : Type 0 where
  pub values : AreTrees (λ a. (parts a).values)
  pub others : AreTrees (λ a. (parts a).others)
  pub tests : AreTrees (λ a. (parts a).tests)
  pub loops : AreTrees (λ a. (parts a).loops)
  pub block : AreTrees (λ a. (parts a).block)
  pub reads : (e : ExprTree) → AreTrees (λ a. (parts a).reads e)

module _ (body : Answers → DefinitionState → Position → Steps (Unit {0})) (b : BodiesAreTrees body) (n inside : ℕ) (call : Call) (parts : Answers → Parts) (t : PartsAreTrees parts) where
  given_tree : (invoker : Bool) → AreTrees (λ a. given_runs invoker (parts a))
  given_tree true env out = t.others env out
  given_tree false env out = t.values env out

  changing_tree : (f : Changing) → AreTrees (λ a. changing_runs a f inside call (parts a))
  changing_tree f env out =
      tree_do _ _ (given_tree (begins_with_invoker f call.arguments env) env out)
      (λ vs env1 out1. changed_tree f (begins_with_invoker f call.arguments env) vs call inside env1 out1)

  function_tree : (f : Function) → AreTrees (λ a. function_runs a (body a) f n inside call (parts a))
  unfolding function_runs
  function_tree (Plain f) env out = tree_do _ _ (t.values env out) (λ vs env1 out1. plain_tree f vs call env1 out1)
  function_tree (OfChanging f) env out = changing_tree f env out
  function_tree (Opening f) env out =
      unless_tree (is_skipped f env) (λ a. opening_runs (body a) (of_function f) n call (parts a).values (parts a).block) env out
      (opening_tree body b (λ a. (parts a).block) t.block (of_function f) n call (λ a. (parts a).values) t.values env out)
  function_tree Defined env out = t.tests env out
  function_tree Foreach env out = t.loops env out
  function_tree ReadFile env out =
      tree_do _ _ (t.values env out) (λ vs env1 out1. read_file_tree (λ a. (parts a).reads) t.reads vs n call env1 out1)

  built_in_tree : AreTrees (λ a. built_in_runs a (body a) n inside call (parts a))
  unfolding built_in_runs
  built_in_tree env out = tree_do _ _ (accepted_tree n call env out) (λ f env1 out1. function_tree f env1 out1)

  template_called_tree : (d : DefinitionState) → AreTrees (λ a. template_called_runs (body a) d n call (parts a))
  unfolding template_called_runs
  template_called_tree d env out =
      tree_do _ _ (template_accepted_tree n call env out)
      (λ depth env1 out1. opening_tree body b (λ a. (parts a).block) t.block (of_template d depth) n call (λ a. (parts a).values) t.values env1 out1)

  chosen_tree : (d : Option DefinitionState) → AreTrees (λ a. template_or_built_in d a (body a) n inside call (parts a))
  chosen_tree (Some d) env out = template_called_tree d env out
  chosen_tree None env out = built_in_tree env out

  pub called_tree : AreTrees (λ a. called_runs a (body a) n inside call (parts a))
  unfolding called_runs
  called_tree env out = chosen_tree (template_of call.name env) env out
