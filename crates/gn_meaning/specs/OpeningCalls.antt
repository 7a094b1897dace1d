-- Calls that open a scope, run their block in it and close it: of templates, of items, `target`, `set_defaults` and `declare_args`.
use Rattle.std.specs.Prelude.{ℕ, false, if◌then◌else◌, List, [], ◌∷◌, Option, Some, None}
use Rattle.gn_tree.specs.declared.position.Position.{Position}
use Rattle.gn_tree.specs.declared.tree.Call.{Call}
use Rattle.gn_values.specs.Val.{Val, vstr}
use Rattle.gn_definitions.specs.Imported.{DefinitionState}
use Rattle.gn_faults.specs.declared.code.Code.TheVariants as code
use Rattle.gn_rows.specs.declared.kinds.ItemKind.{ItemKind}
use Rattle.gn_environment.specs.Environment.{with_open, entered}
use Rattle.gn_environment.specs.Templates.{template_of, body_begins}
use Rattle.gn_environment.specs.Declaring.{declaring_entered}
use Rattle.gn_meaning.specs.Steps.{Steps, then_do, ends}
use Rattle.gn_meaning.specs.Words.{fails_at}
use Rattle.gn_meaning.specs.Arguments.{at_argument, refused_runs}
use Rattle.gn_meaning.specs.Calls.{open_in, scope_begun_runs, item_scope_begun_runs, item_end_runs}
use Rattle.gn_meaning.specs.Templates.{opened_runs, template_end_runs, allows, defaults_end_runs}
use Rattle.gn_meaning.specs.Declaring.{arguments_end_runs}
use Rattle.gn_functions.specs.Functions.{target_kind_of}
use Rattle.gn_functions.specs.declared.function.Opening.{Opening}
use Rattle.gn_functions.specs.declared.function.Opening.TheVariants.{Item, Target, SetDefaults, DeclareArguments}

-- which call opens a scope: that of a template, before which the evaluation was so deep, or that of a function
pub data Opener : Type 0 where
  of_template : (definition : DefinitionState) (depth : ℕ) → Opener
  of_function : (function : Opening) → Opener

-- what is open while the block of a call runs: an item of this name, a template of this name with the depth before its call, the defaults of a kind, or
-- declared arguments
pub data Opened : Type 0 where
  opened_item : (kind : ItemKind) (name : List ℕ) → Opened
  opened_template : (definition : DefinitionState) (name : List ℕ) (depth : ℕ) → Opened
  opened_defaults : (kind : List ℕ) → Opened
  opened_arguments : Opened

-- The scope in which the block of a call of this kind and name begins

unfoldable pub template_begun_runs : DefinitionState → ℕ → List ℕ → List ℕ → Position → Steps Opened
template_begun_runs definition depth kind_name name position env out =
    then_do (scope_begun_runs kind_name name position env out) (λ _ env1 out1. ends (opened_template definition name depth) env1 out1)

unfoldable pub item_begun_runs : ItemKind → List ℕ → List ℕ → Position → Steps Opened
item_begun_runs kind kind_name name position env out =
    then_do (item_scope_begun_runs kind kind_name name position (with_open (open_in kind) env) out) (λ _ env1 out1. ends (opened_item kind name) env1 out1)

-- a call of a template and of an item, with its one value
abbrev pub template_named_runs : DefinitionState → ℕ → Val → Call → Steps Opened
template_named_runs definition depth (vstr name) call env out = template_begun_runs definition depth call.name name call.position env out
template_named_runs definition depth _ call env out = fails_at code.BadTypes (at_argument call 0) [] env out

abbrev pub item_named_runs : ItemKind → Val → Call → Steps Opened
item_named_runs kind (vstr name) call env out = item_begun_runs kind call.name name call.position env out
item_named_runs kind _ call env out = fails_at code.BadTypes (at_argument call 0) [] env out

-- `target`, where no template has the name of its kind
abbrev pub target_kind_runs : Option ItemKind → List ℕ → List ℕ → Call → Steps Opened
target_kind_runs (Some kind) kind_name name call env out =
    if allows kind env then item_begun_runs kind kind_name name call.position env out else fails_at code.NotAllowedHere call.position (kind_name ∷ []) env out
target_kind_runs None kind_name name call env out = fails_at code.BadArguments call.position (call.name ∷ []) env out

-- `target`: the call of the template of that name, or else of that kind of target
abbrev pub target_of_runs : Option DefinitionState → ℕ → List ℕ → List ℕ → Call → Steps Opened
target_of_runs (Some definition) nesting kind_name name call env out =
    opened_runs nesting call.position (template_begun_runs definition env.depth kind_name name call.position) env out
target_of_runs None nesting kind_name name call env out = target_kind_runs (target_kind_of kind_name) kind_name name call env out

unfoldable pub target_runs : Val → Val → ℕ → Call → Steps Opened
target_runs (vstr kind_name) (vstr name) nesting call env out = target_of_runs (template_of kind_name env) nesting kind_name name call env out
target_runs (vstr kind_name) _ nesting call env out = fails_at code.BadTypes (at_argument call 1) [] env out
target_runs _ _ nesting call env out = fails_at code.BadTypes (at_argument call 0) [] env out

-- `set_defaults`
abbrev pub defaults_begun_runs : Val → Call → Steps Opened
defaults_begun_runs (vstr kind) call env out = ends (opened_defaults kind) (entered false env) out
defaults_begun_runs _ call env out = fails_at code.BadTypes (at_argument call 0) [] env out

-- the scope that the call opens, with the values of its arguments; its name nests so deep in its file
unfoldable pub begun_runs : Opener → List Val → ℕ → Call → Steps Opened
begun_runs (of_template definition depth) (v ∷ []) nesting call env out = template_named_runs definition depth v call env out
begun_runs (of_function (Item kind)) (v ∷ []) nesting call env out = item_named_runs kind v call env out
begun_runs (of_function Target) (kind ∷ v ∷ []) nesting call env out = target_runs kind v nesting call env out
begun_runs (of_function SetDefaults) (v ∷ []) nesting call env out = defaults_begun_runs v call env out
begun_runs (of_function DeclareArguments) [] nesting call env out = ends opened_arguments (declaring_entered env) out
begun_runs opener vs nesting call env out = refused_runs call env out

-- behind the block of a template's call its body runs; behind that of another call nothing does
abbrev pub body_run : (DefinitionState → Position → Steps (Unit {0})) → Opened → Position → Steps (Unit {0})
body_run body (opened_template definition name depth) position env out = body definition position (body_begins definition name env) out
body_run body (opened_item kind name) position env out = ends tt env out
body_run body (opened_defaults kind) position env out = ends tt env out
body_run body opened_arguments position env out = ends tt env out

-- how what is open is closed
unfoldable pub closed_runs : Opened → Position → Steps (Option Val)
closed_runs (opened_item kind name) position env out = item_end_runs kind name position env out
closed_runs (opened_template definition name depth) position env out = template_end_runs depth env out
closed_runs (opened_defaults kind) position env out = defaults_end_runs kind env out
closed_runs opened_arguments position env out = arguments_end_runs position env out

-- what is done where the scope of a call is open: its block runs, then its body, and it is closed
unfoldable pub opened_call_runs : (DefinitionState → Position → Steps (Unit {0})) → Opened → Position → Steps (Unit {0}) → Steps (Option Val)
opened_call_runs body opened position block env out =
    then_do (block env out) (λ _ env1 out1. then_do (body_run body opened position env1 out1) (λ _ env2 out2. closed_runs opened position env2 out2))

-- with the values of the arguments the scope is opened
unfoldable pub valued_runs : (DefinitionState → Position → Steps (Unit {0})) → Opener → List Val → ℕ → Call → Steps (Unit {0}) → Steps (Option Val)
valued_runs body opener vs nesting call block env out =
    then_do (begun_runs opener vs nesting call env out) (λ opened env1 out1. opened_call_runs body opened call.position block env1 out1)

-- the whole: the values of the arguments, the scope, the block, the body, the end
unfoldable pub opening_runs : (DefinitionState → Position → Steps (Unit {0})) → Opener → ℕ → Call → Steps (List Val) → Steps (Unit {0}) → Steps (Option Val)
opening_runs body opener nesting call values block env out =
    then_do (values env out) (λ vs env1 out1. valued_runs body opener vs nesting call block env1 out1)
