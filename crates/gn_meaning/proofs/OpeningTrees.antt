-- What the calls that open a scope do are trees of questions, where the values of their arguments, their blocks and the bodies of templates are.
use Rattle.std.proofs.Common.{ℕ, List, [], ◌∷◌, Option, Some, None}
use Rattle.gn_tree.specs.declared.position.Position.{Position}
use Rattle.gn_tree.specs.declared.tree.Call.{Call}
use Rattle.gn_values.specs.Val.{Val, vstr}
use Rattle.gn_definitions.specs.Imported.{DefinitionState}
use Rattle.gn_rows.specs.declared.kinds.ItemKind.{ItemKind}
use Rattle.gn_runs.specs.Runs.{Answers}
use Rattle.gn_environment.specs.Environment.{with_open}
use Rattle.gn_environment.specs.Templates.{template_of, body_begins}
use Rattle.gn_meaning.specs.Steps.{Steps}
use Rattle.gn_meaning.specs.Calls.{open_in}
use Rattle.gn_meaning.specs.Templates.{allows}
use Rattle.gn_functions.specs.Functions.{target_kind_of}
use Rattle.gn_meaning.specs.OpeningCalls.{Opener, of_template, of_function, Opened, opened_item, opened_template, opened_defaults, opened_arguments, template_begun_runs, item_begun_runs, template_named_runs, item_named_runs, target_kind_runs, target_of_runs, target_runs, defaults_begun_runs, begun_runs, body_run, closed_runs, opened_call_runs, valued_runs, opening_runs}
use Rattle.gn_functions.specs.declared.function.Opening.TheVariants.{Item, Target, SetDefaults, DeclareArguments}
use Rattle.gn_meaning.proofs.Steps.{AreQuiet, AreTrees, tree_do, tree_ends, tree_fails, tree_if}
use Rattle.gn_meaning.proofs.Calls.{scope_begun_tree, item_scope_begun_tree, item_end_tree}
use Rattle.gn_meaning.proofs.Templates.{opened_tree, template_end_tree, defaults_end_tree, arguments_end_tree}

template_begun_tree : (d : DefinitionState) (depth : ℕ) (kind_name name : List ℕ) (p : Position) → AreQuiet (template_begun_runs d depth kind_name name p)
unfolding template_begun_runs
template_begun_tree d depth kind_name name p env out = tree_do _ _ (scope_begun_tree kind_name name p env out) (λ _ env1 out1. tree_ends _ env1 out1)

item_begun_tree : (kind : ItemKind) (kind_name name : List ℕ) (p : Position) → AreQuiet (item_begun_runs kind kind_name name p)
unfolding item_begun_runs
item_begun_tree kind kind_name name p env out = tree_do _ _ (item_scope_begun_tree kind kind_name name p (with_open (open_in kind) env) out) (λ _ env1 out1. tree_ends _ env1 out1)

template_named_tree : (d : DefinitionState) (depth : ℕ) (v : Val) (call : Call) → AreQuiet (template_named_runs d depth v call)
template_named_tree d depth (vstr name) call env out = template_begun_tree d depth call.name name call.position env out
template_named_tree d depth v call env out = tree_fails _ out

item_named_tree : (kind : ItemKind) (v : Val) (call : Call) → AreQuiet (item_named_runs kind v call)
item_named_tree kind (vstr name) call env out = item_begun_tree kind call.name name call.position env out
item_named_tree kind v call env out = tree_fails _ out

target_kind_tree : (kind : Option ItemKind) (kind_name name : List ℕ) (call : Call) → AreQuiet (target_kind_runs kind kind_name name call)
target_kind_tree (Some kind) kind_name name call env out = tree_if (allows kind env) _ _ (item_begun_tree kind kind_name name call.position env out) (tree_fails _ out)
target_kind_tree None kind_name name call env out = tree_fails _ out

target_of_tree : (d : Option DefinitionState) (n : ℕ) (kind_name name : List ℕ) (call : Call) → AreQuiet (target_of_runs d n kind_name name call)
target_of_tree (Some d) n kind_name name call env out =
    opened_tree n call.position _ (λ env1 out1. template_begun_tree d env.depth kind_name name call.position env1 out1) env out
target_of_tree None n kind_name name call env out = target_kind_tree (target_kind_of kind_name) kind_name name call env out

target_tree : (kind v : Val) (n : ℕ) (call : Call) → AreQuiet (target_runs kind v n call)
unfolding target_runs
target_tree (vstr kind_name) (vstr name) n call env out = target_of_tree (template_of kind_name env) n kind_name name call env out
target_tree (vstr kind_name) v n call env out = tree_fails _ out
target_tree kind v n call env out = tree_fails _ out

defaults_begun_tree : (v : Val) (call : Call) → AreQuiet (defaults_begun_runs v call)
defaults_begun_tree (vstr kind) call env out = tree_ends _ _ out
defaults_begun_tree v call env out = tree_fails _ out

begun_tree : (o : Opener) (vs : List Val) (n : ℕ) (call : Call) → AreQuiet (begun_runs o vs n call)
unfolding begun_runs
begun_tree (of_template d depth) (v ∷ []) n call env out = template_named_tree d depth v call env out
begun_tree (of_function (Item kind)) (v ∷ []) n call env out = item_named_tree kind v call env out
begun_tree (of_function Target) (kind ∷ v ∷ []) n call env out = target_tree kind v n call env out
begun_tree (of_function SetDefaults) (v ∷ []) n call env out = defaults_begun_tree v call env out
begun_tree (of_function DeclareArguments) [] n call env out = tree_ends _ _ out
begun_tree o vs n call env out = tree_fails _ out

closed_tree : (o : Opened) (p : Position) → AreQuiet (closed_runs o p)
unfolding closed_runs
closed_tree (opened_item kind name) p env out = item_end_tree kind name p env out
closed_tree (opened_template d name depth) p env out = template_end_tree depth env out
closed_tree (opened_defaults kind) p env out = defaults_end_tree kind env out
closed_tree opened_arguments p env out = arguments_end_tree p env out

-- the bodies of templates, each of which is a tree
abbrev pub BodiesAreTrees : (Answers → DefinitionState → Position → Steps (Unit {0})) → Type 0
BodiesAreTrees body = (definition : DefinitionState) (p : Position) → AreTrees (λ a. body a definition p)

body_run_tree : (body : Answers → DefinitionState → Position → Steps (Unit {0})) → BodiesAreTrees body → (o : Opened) (p : Position) → AreTrees (λ a. body_run (body a) o p)
body_run_tree body b (opened_template d name depth) p env out = b d p (body_begins d name env) out
body_run_tree body b (opened_item kind name) p env out = tree_ends tt env out
body_run_tree body b (opened_defaults kind) p env out = tree_ends tt env out
body_run_tree body b opened_arguments p env out = tree_ends tt env out

module _ (body : Answers → DefinitionState → Position → Steps (Unit {0})) (b : BodiesAreTrees body) (block : Answers → Steps (Unit {0})) (u : AreTrees block) where
  opened_call_tree : (o : Opened) (p : Position) → AreTrees (λ a. opened_call_runs (body a) o p (block a))
  unfolding opened_call_runs
  opened_call_tree o p env out =
      tree_do _ _ (u env out) (λ _ env1 out1. tree_do _ _ (body_run_tree body b o p env1 out1) (λ _ env2 out2. closed_tree o p env2 out2))

  valued_tree : (o : Opener) (vs : List Val) (n : ℕ) (call : Call) → AreTrees (λ a. valued_runs (body a) o vs n call (block a))
  unfolding valued_runs
  valued_tree o vs n call env out = tree_do _ _ (begun_tree o vs n call env out) (λ opened env1 out1. opened_call_tree opened call.position env1 out1)

  pub opening_tree : (o : Opener) (n : ℕ) (call : Call) (values : Answers → Steps (List Val)) → AreTrees values → AreTrees (λ a. opening_runs (body a) o n call (values a) (block a))
  unfolding opening_runs
  opening_tree o n call values t env out = tree_do _ _ (t env out) (λ vs env1 out1. valued_tree o vs n call env1 out1)
