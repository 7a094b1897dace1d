-- What the execution of a file means that asks for nothing: of the dotfile, and of the build arguments.
use Rattle.std.specs.Prelude.{ℕ, false, List, [], ◌∷◌, Some, codes}
use Rattle.gn_values.specs.Val.{Val}
use Rattle.gn_values.specs.Tables.{Table}
use Rattle.gn_definitions.specs.Imported.{ImportState}
use Rattle.gn_faults.specs.declared.file_kind.FileKind.{FileKind}
use Rattle.gn_faults.specs.declared.file_kind.FileKind.TheVariants.{Arguments}
use Rattle.gn_faults.specs.declared.stage.Stage.TheVariants as stage
use Rattle.gn_items.specs.Effects.{no_effects}
use Rattle.gn_runs.specs.Runs.{Content, is_absent, has_value, Answers, End, ended, wrong, spoiled, needs, Run}
use Rattle.gn_environment.specs.declared.context.Context.{Context}
use Rattle.gn_environment.specs.declared.context.OpenBlock.TheVariants.{Nothing}
use Rattle.gn_environment.specs.Environment.{Environment, new_environment, entries_here}
use Rattle.gn_meaning.specs.Steps.{Left, ends, then_do}
use Rattle.gn_meaning.specs.Meaning.{whole_block_runs}
use Rattle.gn_executions.specs.declared.host.HostNames.{HostNames}
use Rattle.gn_executions.specs.BuiltIn.{built_in_scope}
use Rattle.gn_executions.specs.Units.{content_runs}

-- the context of both: as that of the build configuration of the default toolchain, before any argument is given, in the first stage
abbrev pub first_context : List ℕ → List ℕ → Context
first_context build root = record {
  stage = stage.Arguments;
  toolchain = [];
  fault_toolchain = [];
  default_toolchain = [];
  build_directory = build;
  source_root = root;
  overrides = [];
}

-- where such a file begins: in the source root, in one scope, which isn't checked, over the built-in variables
abbrev pub alone_begins : HostNames → Context → FileKind → List ℕ → Environment
alone_begins host context kind file =
    new_environment (record { context = context; kind = kind; file = file; directory = codes "//"; inside = Nothing }) file false (built_in_scope host context (codes "//") ∷ []) []

-- it asks for nothing, so all might be answered: there is no file at any path, and no import leaves anything
abbrev pub nothing_left : ImportState
nothing_left = record { scope = record { variables = []; templates = []; defaults = [] }; definitions = [] }

abbrev pub nothing_there : Answers
nothing_there = record { contents = λ path. Some is_absent; imports = λ path. Some (has_value nothing_left) }

-- it is run as far as the content says that there is at its path
unfoldable pub alone_runs : HostNames → Context → FileKind → List ℕ → Content → Run (Left (Unit {0}))
alone_runs host context kind file content =
    then_do (content_runs content (alone_begins host context kind file) no_effects) (λ tree env out. whole_block_runs nothing_there tree env out)

-- such a run ends with what it leaves, or with its first fault
abbrev pub EndsAlone : {A : Type 0} → End A → Type 0
EndsAlone (ended left) = Unit {0}
EndsAlone (wrong fault) = Unit {0}
EndsAlone (spoiled path place) = ⊥
EndsAlone (needs question place) = ⊥

-- the build arguments: the names that their file sets, with their values. `file` is the path of the file that keeps them, or `--args`
unfoldable pub arguments_runs : HostNames → Context → List ℕ → Content → Run (Left (Table Val))
arguments_runs host context file content =
    then_do (alone_runs host context Arguments file content) (λ _ env out. ends (entries_here env) env out)
