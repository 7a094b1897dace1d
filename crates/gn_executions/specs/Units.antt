-- What the execution of a whole file means: of a build file, and of one that is imported.
use Rattle.std.specs.Prelude.{ℕ, true, false, List, [], ◌∷◌, ◌++◌, Result, Ok, Err, codes}
use Rattle.gn_paths.specs.declared.place.Place.{Place}
use Rattle.gn_paths.specs.Components.{top_of, components, spelled}
use Rattle.gn_tree.specs.Tree.{BlockTree}
use Rattle.gn_definitions.specs.Imported.{ImportState}
use Rattle.gn_grammar.specs.declared.fault.SyntaxFault.{SyntaxFault}
use Rattle.gn_faults.specs.declared.code.Code.TheVariants as code
use Rattle.gn_faults.specs.declared.file_kind.FileKind.TheVariants.{BuildFile, Import}
use Rattle.gn_items.specs.Effects.{Effects, no_effects}
use Rattle.gn_items.specs.Names.{load_name, import_name}
use Rattle.gn_items.specs.declared.key.When.{When}
use Rattle.gn_runs.specs.Runs.{Content, has_bytes, is_absent, is_too_big, Answers, Run, followed, leaves}
use Rattle.gn_environment.specs.Environment.{Environment}
use Rattle.gn_meaning.specs.Steps.{Left, Steps, ends, breaks, then_do, content_asked}
use Rattle.gn_meaning.specs.Meaning.{file_runs, import_file_runs}
use Rattle.gn_syntax.specs.Reading.{reading}
use Rattle.gn_executions.specs.Faults.{whole_file_fault, syntax_fault}
use Rattle.gn_executions.specs.Base.{BaseState, begins_over}

-- what bytes are read as: their tree, or the first error of their syntax
abbrev pub reading_runs : List ℕ → Result BlockTree SyntaxFault → Steps BlockTree
reading_runs bytes (Ok tree) env out = ends tree env out
reading_runs bytes (Err error) env out = breaks (syntax_fault env.setting bytes error) out

-- what there is at the path of a file
abbrev pub content_runs : Content → Steps BlockTree
content_runs is_absent env out = breaks (whole_file_fault env.setting code.NoFile) out
content_runs is_too_big env out = breaks (whole_file_fault env.setting code.FileTooBig) out
content_runs (has_bytes bytes) env out = reading_runs bytes (reading bytes) env out

-- a file asks for its own content at its line 1, column 1
abbrev pub own_place : List ℕ → Place
own_place path = record { file = path; line = 1; column = 1 }

-- the tree of the file that is evaluated
unfoldable pub tree_runs : Answers → Steps BlockTree
tree_runs answers env out =
    content_asked (answers.contents env.setting.file) env.setting.file (own_place env.setting.file) out (λ content out1. content_runs content env out1)

-- where the execution of a file begins over a base that is imported under a toolchain, early or as usual: one scope, which isn't checked
abbrev pub import_begins : BaseState → When → List ℕ → List ℕ → Environment
import_begins base when toolchain path = begins_over base Import path (import_name when toolchain path) false

unfoldable pub import_runs : BaseState → When → List ℕ → List ℕ → Answers → Effects → Run (Left ImportState)
import_runs base when toolchain path answers out =
    then_do (tree_runs answers (import_begins base when toolchain path) out) (λ tree env1 out1. import_file_runs answers tree env1 out1)

-- the execution of a file that is imported
abbrev pub import_execution : BaseState → When → List ℕ → List ℕ → Answers → Run (Left ImportState)
import_execution base when toolchain path answers = import_runs base when toolchain path answers no_effects

-- what it leaves for those who import it
abbrev pub import_meaning : BaseState → When → List ℕ → List ℕ → Answers → Run ImportState
import_meaning base when toolchain path answers = followed (import_execution base when toolchain path answers) (λ l. leaves l.value)

-- the build file of a directory: `BUILD.gn` behind its components
unfoldable pub build_file_of : List ℕ → List ℕ
build_file_of directory = spelled (top_of directory) (components directory ++ codes "BUILD.gn" ∷ []) false

-- where the execution of the build file of a directory under a toolchain begins over a base, which stands at this path: one scope, which is checked
abbrev pub load_begins : BaseState → List ℕ → List ℕ → List ℕ → Environment
load_begins base directory toolchain path = begins_over base BuildFile path (load_name directory toolchain) true

unfoldable pub load_runs : BaseState → List ℕ → List ℕ → Answers → Effects → Run (Left (Unit {0}))
load_runs base directory toolchain answers out =
    then_do (tree_runs answers (load_begins base directory toolchain (build_file_of directory)) out) (λ tree env1 out1. file_runs answers tree env1 out1)

-- the execution of the build file of a directory under a toolchain
abbrev pub load_execution : BaseState → List ℕ → List ℕ → Answers → Run (Left (Unit {0}))
load_execution base directory toolchain answers = load_runs base directory toolchain answers no_effects
