-- What the execution of the build configuration under a toolchain means.
use Rattle.std.specs.Prelude.{ℕ, false, List, ◌∷◌, Option, Some, None, Result, Ok, Err, drop}
use Rattle.gn_paths.specs.declared.error.PathFault.{PathFault}
use Rattle.gn_paths.specs.Resolve.{path_meant}
use Rattle.gn_tree.specs.Tree.{BlockTree}
use Rattle.gn_definitions.specs.Imported.{ImportState}
use Rattle.gn_faults.specs.declared.code.Code.TheVariants as code
use Rattle.gn_faults.specs.declared.file_kind.FileKind.TheVariants.{BuildConfiguration}
use Rattle.gn_items.specs.Effects.{Effects, no_effects}
use Rattle.gn_items.specs.Names.{setup_name}
use Rattle.gn_runs.specs.Runs.{Content, is_absent, Answers, Run}
use Rattle.gn_environment.specs.Environment.{Environment}
use Rattle.gn_meaning.specs.Steps.{Left, Steps, breaks, then_do, content_asked}
use Rattle.gn_meaning.specs.Meaning.{configuration_file_runs}
use Rattle.gn_executions.specs.Faults.{whole_file_fault}
use Rattle.gn_executions.specs.Units.{content_runs, own_place}
use Rattle.gn_executions.specs.Base.{BaseState, begins_over}

-- a path that was found, or else the source tree in which it was looked for
abbrev pub or_tree : List ℕ → Result (List ℕ) PathFault → List ℕ
or_tree tree (Ok path) = path
or_tree tree (Err fault) = tree

-- the same path below another source tree: what `.` and all behind the first slash of the path mean there
unfoldable pub path_below : List ℕ → List ℕ → List ℕ
path_below tree path = or_tree tree (path_meant tree (46 ∷ drop 1 path))

-- the places of the file at another path are there; the current directory stays
abbrev pub in_file : List ℕ → Environment → Environment
in_file path env = record env { setting = record env.setting { file = path } }

-- what there is at the other path of a file that isn't at its own: where there is nothing, the fault shows the first path
abbrev pub other_content_runs : List ℕ → Content → Steps BlockTree
other_content_runs other is_absent env out = breaks (whole_file_fault env.setting code.NoFile) out
other_content_runs other content env out = content_runs content (in_file other env) out

abbrev pub content_or_other : List ℕ → Answers → Content → Steps BlockTree
content_or_other other answers is_absent env out =
    content_asked (answers.contents other) other (own_place other) out (λ content out1. other_content_runs other content env out1)
content_or_other other answers content env out = content_runs content env out

abbrev pub content_in : Option (List ℕ) → Answers → Content → Steps BlockTree
content_in None answers content env out = content_runs content env out
content_in (Some tree) answers content env out = content_or_other (path_below tree env.setting.file) answers content env out

-- the tree of the file that is evaluated: it is looked for at its path, and where nothing is there, at the same path below the secondary source tree
unfoldable pub secondary_tree_runs : Option (List ℕ) → Answers → Steps BlockTree
secondary_tree_runs secondary answers env out =
    content_asked (answers.contents env.setting.file) env.setting.file (own_place env.setting.file) out (λ content out1. content_in secondary answers content env out1)

-- where the execution of the build configuration under a toolchain begins over a base: one scope, which isn't checked
abbrev pub setup_begins : BaseState → List ℕ → Environment
setup_begins base toolchain = begins_over base BuildConfiguration base.configuration (setup_name toolchain) false

unfoldable pub setup_runs : BaseState → List ℕ → Answers → Effects → Run (Left ImportState)
setup_runs base toolchain answers out =
    then_do (secondary_tree_runs base.secondary answers (setup_begins base toolchain) out) (λ tree env1 out1. configuration_file_runs answers tree env1 out1)

-- the execution of the build configuration, with what it leaves for the files beneath which it stands
abbrev pub setup_execution : BaseState → List ℕ → Answers → Run (Left ImportState)
setup_execution base toolchain answers = setup_runs base toolchain answers no_effects
