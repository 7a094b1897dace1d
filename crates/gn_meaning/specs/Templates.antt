-- Templates: their definition, their calls, and `target`.
use Rattle.std.specs.Prelude.{ℕ, suc, ◌+◌, Bool, true, false, nat_lt, if◌then◌else◌, List, [], ◌∷◌, Option, Some, None}
use Rattle.gn_tree.specs.declared.position.Position.{Position}
use Rattle.gn_tree.specs.Tree.{BlockTree}
use Rattle.gn_values.specs.Val.{Val, vstr}
use Rattle.gn_faults.specs.declared.code.Code.TheVariants as code
use Rattle.gn_faults.specs.declared.file_kind.FileKind.{FileKind}
use Rattle.gn_faults.specs.declared.file_kind.FileKind.TheVariants.{BuildFile, Import, BuildConfiguration, Dotfile, Arguments}
use Rattle.gn_environment.specs.declared.context.OpenBlock.{OpenBlock}
use Rattle.gn_rows.specs.declared.kinds.ItemKind.{ItemKind}
use Rattle.gn_rows.specs.declared.kinds.ItemKind.TheVariants.{Tool}
use Rattle.gn_environment.specs.declared.context.OpenBlock.TheVariants.{Nothing, Toolchain}
use Rattle.gn_environment.specs.Environment.{Environment, reported_here}
use Rattle.gn_environment.specs.Templates.{has_template_here, template_defined, defaults_set, at_depth, body_ends, reported_by_invoker}
use Rattle.gn_environment.specs.Faults.{fault_in}
use Rattle.gn_meaning.specs.Steps.{Steps, ends, breaks, max_evaluation_depth}
use Rattle.gn_meaning.specs.Words.{fails_at}
use Rattle.gn_meaning.specs.Calls.{checked_end}

-- `template`: the innermost scope must not have a template of the name; the block isn't run, and it nests so deep in its file
unfoldable pub template_defined_runs : Val → Position → Position → ℕ → BlockTree → Steps (Option Val)
template_defined_runs (vstr name) at position nesting block env out =
    if has_template_here name env then fails_at code.AlreadySet position (name ∷ []) env out
    else ends None (template_defined name position nesting block env) out
template_defined_runs _ at position nesting block env out = fails_at code.BadTypes at [] env out

-- the depth of an evaluation in which one more call of a template is open, whose name nests so deep
abbrev pub opened_depth : ℕ → Environment → ℕ
opened_depth nesting env = env.depth + suc nesting

-- a call that would make the evaluation too deep is refused; any other is open from its start
abbrev pub opened_runs : {A : Type 0} → ℕ → Position → Steps A → Steps A
opened_runs nesting position steps env out =
    if nat_lt max_evaluation_depth (opened_depth nesting env) then fails_at code.Nesting position [] env out else steps (at_depth (opened_depth nesting env) env) out

-- the end of a body: the names of the call's block have to be read, then those of the body
abbrev pub invoker_checked : Option (List ℕ × (List ℕ × Position)) → Steps (Option Val) → Steps (Option Val)
invoker_checked (Some unread) steps env out =
    breaks (fault_in (record env.setting { file = unread.0 }) unread.1.1 code.NoEffect (unread.1.0 ∷ [])) out
invoker_checked None steps env out = steps env out

unfoldable pub template_end_runs : ℕ → Steps (Option Val)
template_end_runs depth env out =
    invoker_checked (reported_by_invoker env) (λ env1 out1. checked_end (reported_here env1) None (at_depth depth (body_ends env1)) env1 out1) env out

-- items are defined in build files, where no block is open that says what may be called in it
abbrev pub is_build_file : FileKind → Bool
is_build_file BuildFile = true
is_build_file _ = false

-- whether a file of this kind may ask for others: the dotfile and the build arguments stand alone
abbrev pub asks_for_files : FileKind → Bool
asks_for_files BuildFile = true
asks_for_files Import = true
asks_for_files BuildConfiguration = true
asks_for_files Dotfile = false
asks_for_files Arguments = false

abbrev pub is_build_configuration : FileKind → Bool
is_build_configuration BuildConfiguration = true
is_build_configuration _ = false

abbrev pub is_inside : OpenBlock → Bool
is_inside Nothing = false
is_inside _ = true

abbrev pub allows_items : Environment → Bool
allows_items env = if is_inside env.setting.inside then false else is_build_file env.setting.kind

-- arguments are declared where other files may be asked for, outside the blocks of items
abbrev pub allows_arguments : Environment → Bool
allows_arguments env = if is_inside env.setting.inside then false else asks_for_files env.setting.kind

-- a tool is defined in the block of a toolchain, and all else where items are
abbrev pub is_toolchain : OpenBlock → Bool
is_toolchain Toolchain = true
is_toolchain _ = false

abbrev pub allows : ItemKind → Environment → Bool
allows Tool env = is_toolchain env.setting.inside
allows _ env = allows_items env

-- `set_defaults`: its block has run in a scope of its own, which ends
unfoldable pub defaults_end_runs : List ℕ → Steps (Option Val)
defaults_end_runs kind env out = ends None (defaults_set kind env) out
