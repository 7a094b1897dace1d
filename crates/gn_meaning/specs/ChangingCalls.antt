-- Calls that need the values of their arguments and change where they stand: `import`, `template`, `forward_variables_from`, `not_needed`,
-- `set_default_toolchain`.
use Rattle.std.specs.Prelude.{ℕ, Bool, true, false, ◌&&◌, List, [], ◌∷◌, Option, Some, None}
use Rattle.gn_tree.specs.declared.tree.Call.{Call}
use Rattle.gn_tree.specs.Tree.{ExprTrees, no_exprs, expr_then, BlockTree}
use Rattle.gn_values.specs.Val.{Val}
use Rattle.gn_runs.specs.Runs.{Answers}
use Rattle.gn_environment.specs.Environment.{Environment}
use Rattle.gn_meaning.specs.Steps.{Steps}
use Rattle.gn_meaning.specs.Arguments.{at_argument, refused_runs}
use Rattle.gn_meaning.specs.Imports.{imported_runs}
use Rattle.gn_meaning.specs.Templates.{template_defined_runs}
use Rattle.gn_meaning.specs.Toolchains.{toolchain_setting_runs}
use Rattle.gn_meaning.specs.Selections.{is_bare_invoker, FirstArgument, the_invoker, a_value, forwarded_runs, unneeded_one_runs, unneeded_two_runs, unneeded_three_runs}
use Rattle.gn_functions.specs.declared.function.Changing.{Changing}
use Rattle.gn_functions.specs.declared.function.Changing.TheVariants.{Import, Template, ForwardVariablesFrom, NotNeeded, SetDefaultToolchain}

-- whether the first argument may be the invoker itself
abbrev pub takes_invoker : Changing → Bool
takes_invoker Import = false
takes_invoker Template = false
takes_invoker ForwardVariablesFrom = true
takes_invoker NotNeeded = true
takes_invoker SetDefaultToolchain = false

-- whether the first argument is the invoker itself: then it isn't evaluated, and this is no read
unfoldable pub begins_with_invoker : Changing → ExprTrees → Environment → Bool
begins_with_invoker f no_exprs env = false
begins_with_invoker f (expr_then e es) env = takes_invoker f && is_bare_invoker e env

-- the invoker or the first value, and the values behind it
abbrev pub source_and_rest : Bool → List Val → Option (FirstArgument × List Val)
source_and_rest true vs = Some (the_invoker, vs)
source_and_rest false (v ∷ vs) = Some (a_value v, vs)
source_and_rest false [] = None

-- `forward_variables_from(source, names)`, or with excepted names behind them
unfoldable pub forwarding_runs : Option (FirstArgument × List Val) → Call → Steps (Option Val)
forwarding_runs (Some (source, names ∷ [])) call env out =
    forwarded_runs source names None (at_argument call 0) (at_argument call 1) call.position call.name env out
forwarding_runs (Some (source, names ∷ except ∷ [])) call env out =
    forwarded_runs source names (Some (except, at_argument call 2)) (at_argument call 0) (at_argument call 1) call.position call.name env out
forwarding_runs _ call env out = refused_runs call env out

-- `not_needed` in its forms
unfoldable pub unneeded_runs : Option (FirstArgument × List Val) → Call → Steps (Option Val)
unneeded_runs (Some (source, [])) call env out = unneeded_one_runs source (at_argument call 0) call.position call.name env out
unneeded_runs (Some (source, v ∷ [])) call env out = unneeded_two_runs source v (at_argument call 0) (at_argument call 1) call.position call.name env out
unneeded_runs (Some (source, v ∷ u ∷ [])) call env out =
    unneeded_three_runs source v u (at_argument call 0) (at_argument call 1) (at_argument call 2) call.position call.name env out
unneeded_runs _ call env out = refused_runs call env out

-- `import(path)`
abbrev pub importing_runs : Answers → List Val → Call → Steps (Option Val)
importing_runs answers (v ∷ []) call env out = imported_runs answers v (at_argument call 0) call.position env out
importing_runs answers _ call env out = refused_runs call env out

-- `template(name) { .. }`, whose block nests so deep in its file
unfoldable pub defining_runs : List Val → Option BlockTree → Call → ℕ → Steps (Option Val)
defining_runs (v ∷ []) (Some block) call nesting env out = template_defined_runs v (at_argument call 0) call.position nesting block env out
defining_runs _ _ call nesting env out = refused_runs call env out

-- what the call does with the values of its arguments, of which the first one may be the invoker
unfoldable pub changed_runs : Answers → Changing → Bool → List Val → Call → ℕ → Steps (Option Val)
changed_runs answers Import invoker vs call nesting env out = importing_runs answers vs call env out
changed_runs answers Template invoker vs call nesting env out = defining_runs vs call.block call nesting env out
changed_runs answers ForwardVariablesFrom invoker vs call nesting env out = forwarding_runs (source_and_rest invoker vs) call env out
changed_runs answers NotNeeded invoker vs call nesting env out = unneeded_runs (source_and_rest invoker vs) call env out
changed_runs answers SetDefaultToolchain invoker vs call nesting env out = toolchain_setting_runs vs call env out
