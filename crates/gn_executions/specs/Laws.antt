-- What holds of every execution of a whole file.
use Rattle.std.specs.Prelude.{◌≡◌, ℕ, List, map, Some, None, Ok, codes}
use Rattle.gn_faults.specs.declared.code.Code.TheVariants as code
use Rattle.gn_faults.specs.declared.file_kind.FileKind.TheVariants.{Import}
use Rattle.gn_items.specs.declared.key.When.{When}
use Rattle.gn_faults.specs.declared.file_kind.FileKind.{FileKind}
use Rattle.gn_runs.specs.Runs.{Content, is_absent, Answers, wrong, IsTree}
use Rattle.gn_executions.specs.Faults.{whole_file_fault}
use Rattle.gn_executions.specs.Units.{import_meaning, load_execution}
use Rattle.gn_executions.specs.Base.{BaseState, setting_of}
use Rattle.gn_values.specs.Val.{Val}
use Rattle.gn_values.specs.Tables.{Table, at_name}
use Rattle.gn_environment.specs.declared.context.Context.{Context}
use Rattle.gn_args.specs.BuiltIn.{built_in_names}
use Rattle.gn_executions.specs.declared.host.HostNames.{HostNames}
use Rattle.gn_executions.specs.BuiltIn.{output_directory, built_in_variables}
use Rattle.gn_executions.specs.Setups.{setup_execution}
use Rattle.gn_executions.specs.Alone.{alone_runs, EndsAlone}
use Rattle.gn_executions.specs.Dotfile.{DotfileState, configuration_of, arguments_of, secondary_of, executable_of, dotfile_of}

-- what it does next depends on the answers that it got, and on nothing else of what is known
abbrev pub ImportsAreTrees : Type 0
ImportsAreTrees = (base : BaseState) (when : When) (toolchain path : List ℕ) → IsTree (import_meaning base when toolchain path)

abbrev pub LoadsAreTrees : Type 0
LoadsAreTrees = (base : BaseState) (directory toolchain : List ℕ) → IsTree (load_execution base directory toolchain)

-- importing a path at which there is no file is wrong at once
abbrev pub AbsentImportsAreWrong : Type 0
AbsentImportsAreWrong =
    (base : BaseState) (when : When) (toolchain path : List ℕ) (a : Answers) → a.contents path ≡ Some is_absent → (import_meaning base when toolchain path a).end ≡ wrong (whole_file_fault (setting_of base Import path) code.NoFile)

abbrev pub SetupsAreTrees : Type 0
SetupsAreTrees = (base : BaseState) (toolchain : List ℕ) → IsTree (setup_execution base toolchain)

-- the built-in variables are those of their names, each once
abbrev pub VariablesHaveTheirNames : Type 0
VariablesHaveTheirNames = (host : HostNames) (context : Context) (directory : List ℕ) → map (λ (v : List ℕ × Val). v.0) (built_in_variables host context directory) ≡ built_in_names

-- the output directory of the default toolchain is the build directory
abbrev pub DefaultOutputIsTheBuildDirectory : Type 0
DefaultOutputIsTheBuildDirectory = (context : Context) → context.default_toolchain ≡ context.toolchain → output_directory context ≡ context.build_directory

-- what a dotfile says is what each of its names says, and those that this program leaves out have no value
pub record IsOfNames (entries : Table Val) (dotfile : DotfileState) : Type 0 where
  pub root : at_name (codes "root") entries ≡ None
  pub extension : at_name (codes "build_file_extension") entries ≡ None
  pub template : at_name (codes "arg_file_template") entries ≡ None
  pub configuration : configuration_of (at_name (codes "buildconfig") entries) ≡ Ok dotfile.configuration
  pub arguments : arguments_of (at_name (codes "default_args") entries) ≡ Ok dotfile.arguments
  pub secondary : secondary_of (at_name (codes "secondary_source") entries) ≡ Ok dotfile.secondary
  pub executable : executable_of (at_name (codes "script_executable") entries) ≡ Ok dotfile.executable

abbrev pub DotfilesAreTheirNames : Type 0
DotfilesAreTheirNames = (entries : Table Val) (dotfile : DotfileState) → dotfile_of entries ≡ Ok dotfile → IsOfNames entries dotfile

-- a file that stands alone ends with what it leaves, or with its first fault
abbrev pub FilesEndAlone : Type 0
FilesEndAlone = (host : HostNames) (context : Context) (kind : FileKind) (file : List ℕ) (content : Content) → EndsAlone (alone_runs host context kind file content).end
