-- A call of a function or of a template: what is judged before its arguments, and what it does then.
use Rattle.std.specs.Prelude.{ℕ, ◌+◌, Bool, true, false, not, ◌&&◌, nat_lt, if◌then◌else◌, List, [], ◌∷◌, Option, Some, None, is_some}
use Rattle.std.specs.Str.{bytes_eq}
use Rattle.gn_tree.specs.declared.position.Position.{Position}
use Rattle.gn_tree.specs.declared.tree.Call.{Call}
use Rattle.gn_tree.specs.Counts.{expr_count}
use Rattle.gn_tree.specs.Tree.{ExprTree}
use Rattle.gn_values.specs.Val.{Val}
use Rattle.gn_definitions.specs.Imported.{DefinitionState}
use Rattle.gn_faults.specs.declared.code.Code.TheVariants as code
use Rattle.gn_runs.specs.Runs.{Answers}
use Rattle.gn_environment.specs.Environment.{Environment}
use Rattle.gn_environment.specs.Templates.{template_of}
use Rattle.gn_meaning.specs.Steps.{Steps, then_do, ends}
use Rattle.gn_meaning.specs.Words.{fails_at}
use Rattle.gn_meaning.specs.Arguments.{refused_runs}
use Rattle.gn_meaning.specs.Imports.{max_import_nesting}
use Rattle.gn_meaning.specs.Templates.{opened_runs, asks_for_files, allows_arguments, is_build_configuration, allows}
use Rattle.gn_meaning.specs.PlainCalls.{plain_runs}
use Rattle.gn_meaning.specs.Contents.{read_file_runs}
use Rattle.gn_meaning.specs.ChangingCalls.{begins_with_invoker, changed_runs}
use Rattle.gn_meaning.specs.OpeningCalls.{of_template, of_function, opening_runs}
use Rattle.gn_functions.specs.Functions.{function_of}
use Rattle.gn_functions.specs.Rules.{takes, rule_of, template_rule}
use Rattle.gn_functions.specs.declared.rule.Rule.{Rule}
use Rattle.gn_functions.specs.declared.rule.Allowed.{Allowed}
use Rattle.gn_functions.specs.declared.rule.Allowed.TheVariants.{Everywhere, WhereItems, WhereFiles, WhereArguments, InBuildConfiguration}
use Rattle.gn_functions.specs.declared.function.Function.{Function}
use Rattle.gn_functions.specs.declared.function.Function.TheVariants.{Plain, Changing as OfChanging, Opening as OfOpening, Defined, Foreach, ReadFile}
use Rattle.gn_functions.specs.declared.function.Changing.{Changing}
use Rattle.gn_functions.specs.declared.function.Opening.{Opening}
use Rattle.gn_functions.specs.declared.function.Opening.TheVariants.{Item}
use Rattle.gn_rows.specs.declared.kinds.ItemKind.TheVariants.{Toolchain}
use Rattle.gn_functions.specs.declared.function.Named.{Named}
use Rattle.gn_functions.specs.declared.function.Named.TheVariants.{Function as OfFunction, Excluded, Unknown}

-- What is judged before the arguments

abbrev pub allowed_here : Allowed → Environment → Bool
allowed_here Everywhere env = true
allowed_here (WhereItems kind) env = allows kind env
allowed_here WhereFiles env = asks_for_files env.setting.kind
allowed_here WhereArguments env = allows_arguments env
allowed_here InBuildConfiguration env = is_build_configuration env.setting.kind

-- whether the call is allowed here, takes its arguments and its block, and doesn't nest too deep, where it is one that may
unfoldable pub ruled_runs : Function → Rule → ℕ → Call → Steps Function
ruled_runs function rule nesting call env out =
    if allowed_here rule.allowed env then
    (if takes rule (expr_count call.arguments) (is_some call.block) then
    (if rule.imports && nat_lt max_import_nesting (nesting + env.depth) then fails_at code.Nesting call.position [] env out else ends function env out)
    else refused_runs call env out)
    else fails_at code.NotAllowedHere call.position (call.name ∷ []) env out

abbrev pub named_runs : Named → ℕ → Call → Steps Function
named_runs (OfFunction function) nesting call env out = ruled_runs function (rule_of function) nesting call env out
named_runs Excluded nesting call env out = fails_at code.Excluded call.position (call.name ∷ []) env out
named_runs Unknown nesting call env out = fails_at code.UnknownFunction call.position (call.name ∷ []) env out

-- which function it is, and then what its rule says; the call's name nests so deep in its file
unfoldable pub accepted_runs : ℕ → Call → Steps Function
accepted_runs nesting call env out = named_runs (function_of call.name) nesting call env out

-- the same of a template, which is open from here on: the depth before
unfoldable pub template_accepted_runs : ℕ → Call → Steps ℕ
template_accepted_runs nesting call env out =
    if takes template_rule (expr_count call.arguments) (is_some call.block) then opened_runs nesting call.position (ends env.depth) env out else refused_runs call env out

-- What it does then

-- the parts of a call, still to be run: the values of its arguments, those of all but the first, what `defined` and `foreach` do with them, its block, and
-- what expressions come to that it reads from files
pub record Parts : Type 0 where
  pub values : Steps (List Val)
  pub others : Steps (List Val)
  pub tests : Steps (Option Val)
  pub loops : Steps (Option Val)
  pub block : Steps (Unit {0})
  pub reads : ExprTree → Steps Val

-- a toolchain is skipped under another toolchain than the default one: neither its arguments nor its block are evaluated
abbrev pub is_skipped : Opening → Environment → Bool
is_skipped (Item Toolchain) env = not (bytes_eq env.setting.context.toolchain env.setting.context.default_toolchain)
is_skipped _ env = false

abbrev pub unless_skipped : Bool → Steps (Option Val) → Steps (Option Val)
unless_skipped true steps env out = ends None env out
unless_skipped false steps env out = steps env out

-- the values of the arguments that are evaluated
abbrev pub given_runs : Bool → Parts → Steps (List Val)
given_runs invoker parts env out = if invoker then parts.others env out else parts.values env out

-- what stands inside the brackets of the call nests as deep as `inside` says
abbrev pub changing_runs : Answers → Changing → ℕ → Call → Parts → Steps (Option Val)
changing_runs answers f inside call parts env out =
    then_do (given_runs (begins_with_invoker f call.arguments env) parts env out)
    (λ vs env1 out1. changed_runs answers f (begins_with_invoker f call.arguments env) vs call inside env1 out1)

unfoldable pub function_runs : Answers → (DefinitionState → Position → Steps (Unit {0})) → Function → (nesting inside : ℕ) → Call → Parts → Steps (Option Val)
function_runs answers body (Plain f) nesting inside call parts env out = then_do (parts.values env out) (λ vs env1 out1. plain_runs f vs call env1 out1)
function_runs answers body (OfChanging f) nesting inside call parts env out = changing_runs answers f inside call parts env out
function_runs answers body (OfOpening f) nesting inside call parts env out =
    unless_skipped (is_skipped f env) (opening_runs body (of_function f) nesting call parts.values parts.block) env out
function_runs answers body Defined nesting inside call parts env out = parts.tests env out
function_runs answers body Foreach nesting inside call parts env out = parts.loops env out
function_runs answers body ReadFile nesting inside call parts env out =
    then_do (parts.values env out) (λ vs env1 out1. read_file_runs answers parts.reads vs nesting call env1 out1)

unfoldable pub built_in_runs : Answers → (DefinitionState → Position → Steps (Unit {0})) → (nesting inside : ℕ) → Call → Parts → Steps (Option Val)
built_in_runs answers body nesting inside call parts env out =
    then_do (accepted_runs nesting call env out) (λ function env1 out1. function_runs answers body function nesting inside call parts env1 out1)

unfoldable pub template_called_runs : (DefinitionState → Position → Steps (Unit {0})) → DefinitionState → ℕ → Call → Parts → Steps (Option Val)
template_called_runs body definition nesting call parts env out =
    then_do (template_accepted_runs nesting call env out)
    (λ depth env1 out1. opening_runs body (of_template definition depth) nesting call parts.values parts.block env1 out1)

-- the template that a name means, or else the built-in function
abbrev pub template_or_built_in : Option DefinitionState → Answers → (DefinitionState → Position → Steps (Unit {0})) → (nesting inside : ℕ) → Call → Parts → Steps (Option Val)
template_or_built_in (Some definition) answers body nesting inside call parts env out = template_called_runs body definition nesting call parts env out
template_or_built_in None answers body nesting inside call parts env out = built_in_runs answers body nesting inside call parts env out

unfoldable pub called_runs : Answers → (DefinitionState → Position → Steps (Unit {0})) → (nesting inside : ℕ) → Call → Parts → Steps (Option Val)
called_runs answers body nesting inside call parts env out =
    template_or_built_in (template_of call.name env) answers body nesting inside call parts env out
