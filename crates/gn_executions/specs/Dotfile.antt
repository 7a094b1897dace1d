-- What the dotfile says: its names are looked at in order, once it has run.
use Rattle.std.specs.Prelude.{ℕ, List, [], ◌∷◌, if◌then◌else◌, Option, Some, None, Result, Ok, Err, codes}
use Rattle.gn_paths.specs.declared.error.PathFault.{PathFault}
use Rattle.gn_paths.specs.Components.{is_system}
use Rattle.gn_paths.specs.Directory.{as_directory}
use Rattle.gn_paths.specs.Resolve.{path_meant}
use Rattle.gn_values.specs.Val.{Val, vstr, vscope, entries_of}
use Rattle.gn_values.specs.Tables.{Table, at_name}
use Rattle.gn_faults.specs.declared.code.Code.{Code}
use Rattle.gn_faults.specs.declared.code.Code.TheVariants as code
use Rattle.gn_faults.specs.declared.file_kind.FileKind.TheVariants.{Dotfile}
use Rattle.gn_runs.specs.Runs.{Content, Run}
use Rattle.gn_environment.specs.declared.context.Context.{Context}
use Rattle.gn_environment.specs.Environment.{entries_here}
use Rattle.gn_meaning.specs.Steps.{Left, Steps, ends, then_do}
use Rattle.gn_meaning.specs.Words.{fails_at}
use Rattle.gn_meaning.specs.Imports.{path_code}
use Rattle.gn_executions.specs.declared.host.HostNames.{HostNames}
use Rattle.gn_executions.specs.Faults.{beginning}
use Rattle.gn_executions.specs.Alone.{alone_runs}

-- what the dotfile says: the path of the build configuration, the values of build arguments, the secondary source tree, and the program that runs scripts
pub record DotfileState : Type 0 where
  pub configuration : List ℕ
  pub arguments : Table Val
  pub secondary : Option (List ℕ)
  pub executable : List ℕ

-- what is wrong with a name: the code, and what it shows
pub record NameFault : Type 0 where
  pub code : Code
  pub shown : List (List ℕ)

abbrev pub name_fault : Code → List ℕ → NameFault
name_fault c name = record { code = c; shown = name ∷ [] }

-- one name behind another: the first fault counts
abbrev pub then_name : {A B : Type 0} → Result A NameFault → (A → Result B NameFault) → Result B NameFault
then_name (Ok x) next = next x
then_name (Err fault) next = Err fault

-- a name that this program leaves out must have no value
abbrev pub left_out : List ℕ → Option Val → Result (Unit {0}) NameFault
left_out name None = Ok tt
left_out name (Some v) = Err (name_fault code.Excluded name)

-- a path has to be one of the source tree
abbrev pub source_path : Result (List ℕ) PathFault → Result (List ℕ) NameFault
source_path (Ok path) = if is_system path then Err (record { code = code.BadPath; shown = [] }) else Ok path
source_path (Err fault) = Err (record { code = path_code fault; shown = [] })

-- a string that is a path, from the source root
abbrev pub path_of : List ℕ → Val → Result (List ℕ) NameFault
path_of name (vstr text) = source_path (path_meant (codes "//") text)
path_of name _ = Err (name_fault code.WrongType name)

-- `buildconfig` has to be there
abbrev pub configuration_of : Option Val → Result (List ℕ) NameFault
configuration_of None = Err (name_fault code.Missing (codes "buildconfig"))
configuration_of (Some v) = path_of (codes "buildconfig") v

-- `default_args` is a scope, an empty one where it isn't there
abbrev pub arguments_of : Option Val → Result (Table Val) NameFault
arguments_of None = Ok []
arguments_of (Some (vscope bs)) = Ok (entries_of bs)
arguments_of (Some _) = Err (name_fault code.WrongType (codes "default_args"))

-- `secondary_source` is a directory
abbrev pub secondary_of : Option Val → Result (Option (List ℕ)) NameFault
secondary_of None = Ok None
secondary_of (Some v) = then_name (path_of (codes "secondary_source") v) (λ path. Ok (Some (as_directory path)))

-- `script_executable` is a string
abbrev pub executable_of : Option Val → Result (List ℕ) NameFault
executable_of None = Ok (codes "python3")
executable_of (Some (vstr text)) = Ok text
executable_of (Some _) = Err (name_fault code.WrongType (codes "script_executable"))

-- what these names with their values say, or what is wrong with the first of them in this order; every other name is ignored
unfoldable pub dotfile_of : Table Val → Result DotfileState NameFault
dotfile_of entries =
    then_name (left_out (codes "root") (at_name (codes "root") entries))
    (λ _. then_name (left_out (codes "build_file_extension") (at_name (codes "build_file_extension") entries))
    (λ _. then_name (left_out (codes "arg_file_template") (at_name (codes "arg_file_template") entries))
    (λ _. then_name (configuration_of (at_name (codes "buildconfig") entries))
    (λ configuration. then_name (arguments_of (at_name (codes "default_args") entries))
    (λ arguments. then_name (secondary_of (at_name (codes "secondary_source") entries))
    (λ secondary. then_name (executable_of (at_name (codes "script_executable") entries))
    (λ executable. Ok (record { configuration = configuration; arguments = arguments; secondary = secondary; executable = executable }))))))))

-- each fault of a name stands at the beginning of the dotfile
abbrev pub dotfile_ends : Result DotfileState NameFault → Steps DotfileState
dotfile_ends (Ok dotfile) env out = ends dotfile env out
dotfile_ends (Err fault) env out = fails_at fault.code beginning fault.shown env out

-- the dotfile is run, and then its names are looked at
unfoldable pub dotfile_runs : HostNames → Context → Content → Run (Left DotfileState)
dotfile_runs host context content =
    then_do (alone_runs host context Dotfile (codes "//.gn") content) (λ _ env out. dotfile_ends (dotfile_of (entries_here env)) env out)
