-- What templates do are trees of questions, and the ends of blocks that set something around them.
use Rattle.std.proofs.Common.{ℕ, nat_lt, List, Option, Some, None, Result, Ok, Err}
use Rattle.gn_tree.specs.declared.position.Position.{Position}
use Rattle.gn_tree.specs.Tree.{BlockTree}
use Rattle.gn_values.specs.Val.{Val, vstr}
use Rattle.gn_runs.specs.Runs.{Answers}
use Rattle.gn_items.specs.Effects.{with_declarations}
use Rattle.gn_environment.specs.Environment.{Environment, reported_here}
use Rattle.gn_environment.specs.Templates.{has_template_here, at_depth, reported_by_invoker}
use Rattle.gn_environment.specs.Declaring.{ArgumentState, arguments_here, arguments_declared}
use Rattle.gn_meaning.specs.Steps.{Steps, max_evaluation_depth}
use Rattle.gn_meaning.specs.Templates.{template_defined_runs, opened_depth, opened_runs, invoker_checked, template_end_runs, defaults_end_runs}
use Rattle.gn_meaning.specs.Declaring.{arguments_taken, arguments_end_runs}
use Rattle.gn_meaning.proofs.Steps.{AreQuiet, AreTrees, tree_ends, tree_fails, tree_if}
use Rattle.gn_meaning.proofs.Calls.{checked_tree}

pub template_defined_tree : (v : Val) (at p : Position) (nesting : ℕ) (block : BlockTree) → AreQuiet (template_defined_runs v at p nesting block)
unfolding template_defined_runs
template_defined_tree (vstr name) at p nesting block env out = tree_if (has_template_here name env) _ _ (tree_fails _ out) (tree_ends _ _ out)
template_defined_tree v at p nesting block env out = tree_fails _ out

pub opened_tree : {A : Type 0} (nesting : ℕ) (p : Position) (steps : Answers → Steps A) → AreTrees steps → AreTrees (λ a. opened_runs nesting p (steps a))
opened_tree nesting p steps t env out =
    tree_if (nat_lt max_evaluation_depth (opened_depth nesting env)) _ _ (tree_fails _ out) (t (at_depth (opened_depth nesting env) env) out)

invoker_checked_tree : (unread : Option (List ℕ × (List ℕ × Position))) (steps : Steps (Option Val)) → AreQuiet steps → AreQuiet (invoker_checked unread steps)
invoker_checked_tree (Some unread) steps t env out = tree_fails _ out
invoker_checked_tree None steps t env out = t env out

pub template_end_tree : (depth : ℕ) → AreQuiet (template_end_runs depth)
unfolding template_end_runs
template_end_tree depth env out = invoker_checked_tree (reported_by_invoker env) _ (λ env1 out1. checked_tree (reported_here env1) _ _ env1 out1) env out

pub defaults_end_tree : (kind : List ℕ) → AreQuiet (defaults_end_runs kind)
unfolding defaults_end_runs
defaults_end_tree kind env out = tree_ends _ _ out

arguments_taken_tree : (r : Result Environment (List ℕ)) (arguments : List ArgumentState) (p : Position) → AreQuiet (arguments_taken r arguments p)
unfolding with_declarations
arguments_taken_tree (Ok after) arguments p env out = tree_ends _ after (with_declarations _ out)
arguments_taken_tree (Err name) arguments p env out = tree_fails _ out

pub arguments_end_tree : (p : Position) → AreQuiet (arguments_end_runs p)
unfolding arguments_end_runs
arguments_end_tree p env out = arguments_taken_tree (arguments_declared p env) (arguments_here p env) p env out
