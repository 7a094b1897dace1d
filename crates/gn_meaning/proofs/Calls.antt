-- Calls are trees of questions, where what they are made of is.
use Rattle.std.proofs.Common.{ℕ, List, [], ◌∷◌, Option, Some, None, Result, Ok, Err}
use Rattle.gn_tree.specs.declared.position.Position.{Position}
use Rattle.gn_values.specs.Val.{Val, vstr, vlist, vscope, list_of}
use Rattle.gn_faults.specs.declared.fault.Fault.{Fault}
use Rattle.gn_items.specs.declared.item.Item.{Item}
use Rattle.gn_rows.specs.declared.kinds.ItemKind.{ItemKind}
use Rattle.gn_rows.specs.declared.kinds.ItemKind.TheVariants as kinds
use Rattle.gn_items.specs.Effects.{Effects, with_item, with_tool, as_tool, with_toolchain, with_defined, is_known}
use Rattle.gn_runs.specs.Runs.{Answers}
use Rattle.gn_environment.specs.Environment.{Environment, value_of, given, reported_here, left, with_open}
use Rattle.gn_environment.specs.Templates.{block_begins, defaults_given}
use Rattle.gn_environment.specs.Invoker.{names_invoker}
use Rattle.gn_meaning.specs.Steps.{Steps}
use Rattle.gn_meaning.specs.Items.{defined}
use Rattle.gn_meaning.specs.Calls.{open_around, has_entry_of, has_invoker_entry_runs, has_entry_runs, has_value_runs, turns_run, loop_runs, checked_end, item_runs, item_end_runs, defaults_taken, scope_begun_runs, item_scope, item_scope_begun_runs, call_value_runs}
use Rattle.gn_meaning.proofs.Steps.{IsTreeBehind, AreQuiet, AreTrees, tree_do, tree_ends, tree_fails, tree_if}

has_entry_of_tree : (v : Option Val) (base : List ℕ) (at : Val) (p : Position) → AreQuiet (has_entry_of v base at p)
has_entry_of_tree (Some (vscope bs)) base (vstr name) p env out = tree_ends _ _ out
has_entry_of_tree (Some v) base at p env out = tree_fails _ out
has_entry_of_tree None base at p env out = tree_fails _ out

has_invoker_entry_tree : (at : Val) (p : Position) → AreQuiet (has_invoker_entry_runs at p)
has_invoker_entry_tree (vstr name) p env out = tree_ends _ _ out
has_invoker_entry_tree at p env out = tree_fails _ out

pub has_entry_tree : (base : List ℕ) (at : Val) (p : Position) → AreQuiet (has_entry_runs base at p)
unfolding has_entry_runs
has_entry_tree base at p env out =
    tree_if (names_invoker base env) _ _ (has_invoker_entry_tree at p env out) (has_entry_of_tree (value_of base env) base at p env out)

pub has_value_tree : (name : List ℕ) → AreQuiet (has_value_runs name)
unfolding has_value_runs
has_value_tree name env out = tree_if (names_invoker name env) _ _ (tree_ends _ _ out) (tree_ends _ _ out)

turns_tree : (name : List ℕ) (block : Answers → Steps (Unit {0})) → AreTrees block → (vs : List Val) → AreTrees (λ a. turns_run name (block a) vs)
turns_tree name block t [] env out = tree_ends tt env out
turns_tree name block t (v ∷ vs) env out = tree_do _ _ (t (given name v env) out) (λ _ env1 out1. turns_tree name block t vs env1 out1)

pub loop_tree : (name : List ℕ) (v : Val) (at : Position) (block : Answers → Steps (Unit {0})) → AreTrees block → AreTrees (λ a. loop_runs name v at (block a))
unfolding loop_runs
loop_tree name (vlist vs) at block t env out = tree_do _ _ (turns_tree name block t (list_of vs) _ out) (λ _ env1 out1. tree_ends _ _ out1)
loop_tree name v at block t env out = tree_fails _ out

pub checked_tree : {A : Type 0} (unread : Option (List ℕ × Position)) (x : A) (after : Environment) → AreQuiet (checked_end unread x after)
checked_tree (Some unread) x after env out = tree_fails _ out
checked_tree None x after env out = tree_ends x after out

-- Items

-- what has been defined stands with the others, and nothing was asked for that
defined_tree : (kind : ItemKind) (item : Item) (unread : Option (List ℕ × Position)) (after env : Environment) (out : Effects) → IsTreeBehind {A = Option Val} out.asked (λ a. checked_end unread None after env (with_defined kind item out))
unfolding with_item with_tool
defined_tree kinds.Tool item unread after env out = checked_tree unread None after env (with_tool (as_tool item) out)
defined_tree kinds.Toolchain item unread after env out = checked_tree unread None after env (with_toolchain item out)
defined_tree kind item unread after env out = checked_tree unread None after env (with_item item out)

item_tree : (kind : ItemKind) (d : Result (Item × Environment) Fault) (p : Position) → AreQuiet (item_runs kind d p)
item_tree kind (Err fault) p env out = tree_fails fault out
item_tree kind (Ok d) p env out = tree_if (is_known kind d.0 out) _ _ (tree_fails _ out) (defined_tree kind d.0 (reported_here d.1) (with_open (open_around kind) (left d.1)) d.1 out)

pub item_end_tree : (kind : ItemKind) (name : List ℕ) (p : Position) → AreQuiet (item_end_runs kind name p)
unfolding item_end_runs
item_end_tree kind name p env out = item_tree kind (defined kind name p env) p env out

defaults_taken_tree : (r : Result Environment (List ℕ)) (p : Position) → AreQuiet (defaults_taken r p)
defaults_taken_tree (Ok after) p env out = tree_ends tt after out
defaults_taken_tree (Err name) p env out = tree_fails _ out

pub scope_begun_tree : (kind name : List ℕ) (p : Position) → AreQuiet (scope_begun_runs kind name p)
unfolding scope_begun_runs
scope_begun_tree kind name p env out = defaults_taken_tree (defaults_given kind (block_begins name env)) p (block_begins name env) out

pub item_scope_begun_tree : (kind : ItemKind) (kind_name name : List ℕ) (p : Position) → AreQuiet (item_scope_begun_runs kind kind_name name p)
unfolding item_scope_begun_runs
item_scope_begun_tree kind kind_name name p env out = defaults_taken_tree (defaults_given kind_name (item_scope kind name env)) p (item_scope kind name env) out

-- Which call it is

pub call_value_tree : (v : Option Val) (p : Position) → AreQuiet (call_value_runs v p)
unfolding call_value_runs
call_value_tree (Some v) p env out = tree_ends v env out
call_value_tree None p env out = tree_fails _ out
