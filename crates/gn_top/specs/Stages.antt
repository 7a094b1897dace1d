-- What a build means in a tree, stage by stage: the dotfile and the build arguments, all that is loaded behind these, and the build arguments that this
-- declares.
use Rattle.std.specs.Prelude.{◌⊎◌, ℕ, List, [], ◌∷◌, ◌++◌, Option, None, Some, Result, Ok, Err, codes}
use Rattle.gn_outside.specs.Tree.{Tree, read_of}
use Rattle.gn_outside.specs.Lists.{OneOf}
use Rattle.gn_paths.specs.Resolve.{path_meant}
use Rattle.gn_values.specs.Val.{Val}
use Rattle.gn_values.specs.Tables.{Table, with_names}
use Rattle.gn_faults.specs.declared.fault.Fault.{Fault}
use Rattle.gn_faults.specs.declared.stage.Stage.TheVariants as stage
use Rattle.gn_runs.specs.Runs.{Content, has_bytes, is_absent, End, ended, wrong, spoiled, needs}
use Rattle.gn_environment.specs.declared.context.Context.{Context}
use Rattle.gn_meaning.specs.Steps.{Left}
use Rattle.gn_executions.specs.declared.host.HostNames.{HostNames}
use Rattle.gn_executions.specs.Alone.{first_context, arguments_runs}
use Rattle.gn_executions.specs.Dotfile.{DotfileState, dotfile_runs}
use Rattle.gn_executions.specs.Setups.{or_tree}
use Rattle.gn_executions.specs.Base.{BaseState, setup_base}
use Rattle.gn_projects.specs.Files.{content_in, Files, files_of}
use Rattle.gn_projects.specs.Worlds.{world_of}
use Rattle.gn_projects.specs.Errors.{too_large}
use Rattle.gn_projects.specs.Loaded.{Build as Loaded, UnitCount, Exactly, Failure, declared_by_build, files_reached, IsAskedFor, loaded as build_loaded}
use Rattle.gn_top.specs.Hosts.{HostTexts}
use Rattle.gn_toolchains.specs.Toolchains.{Surroundings}
use Rattle.gn_top.specs.GraphFaults.{graph_fault}

-- what a build is made from: its build directory, and the build arguments that the command line gives, if it does
pub record Request : Type 0 where
  pub directory : List ℕ
  pub arguments : Option (List ℕ)

-- The first stage

abbrev pub host_names : HostTexts → HostNames
host_names host = record { os = host.os; cpu = host.cpu }

-- the path that a name means in a directory; where it is no path, the directory stands for it
unfoldable pub path_in : List ℕ → List ℕ → List ℕ
path_in directory name = or_tree directory (path_meant directory name)

-- the dotfile
unfoldable pub dotfile_path : List ℕ
dotfile_path = path_in (codes "//") (codes ".gn")

-- the file of a build directory that keeps its build arguments
unfoldable pub arguments_path : List ℕ → List ℕ
arguments_path directory = path_in directory (codes "args.gn")

-- what there is at a path of a tree
abbrev pub read_in : Tree → List ℕ → Content
read_in tree path = content_in (read_of tree path)

-- what a file that stands alone leaves, with the lines that it prints, or its fault. Such a file asks for nothing, so it ends in no other way
abbrev pub alone_end : {A : Type 0} → End (Left A) → Result (A × List (List ℕ)) Fault
alone_end (ended l) = Ok (l.value, l.effects.prints)
alone_end (wrong fault) = Err fault
alone_end (spoiled path place) = Err too_large
alone_end (needs question place) = Err too_large

abbrev pub dotfile_of_content : HostTexts → List ℕ → Content → Result (DotfileState × List (List ℕ)) Fault
dotfile_of_content host directory content = alone_end (dotfile_runs (host_names host) (first_context directory host.root) content).end

unfoldable pub dotfile_said : HostTexts → List ℕ → Tree → Result (DotfileState × List (List ℕ)) Fault
dotfile_said host directory tree = dotfile_of_content host directory (read_in tree dotfile_path)

-- what a file with build arguments says
abbrev pub arguments_of_file : HostTexts → List ℕ → List ℕ → Content → Result (Table Val × List (List ℕ)) Fault
arguments_of_file host directory file content =
    alone_end (arguments_runs (host_names host) (first_context directory host.root) file content).end

-- what the file says that keeps build arguments: it need not be there
abbrev pub kept_arguments : HostTexts → List ℕ → Content → Result (Table Val × List (List ℕ)) Fault
kept_arguments host directory is_absent = Ok ([], [])
kept_arguments host directory content = arguments_of_file host directory (arguments_path directory) content

-- the build arguments: those of the command line, and else those that are kept
abbrev pub arguments_in : HostTexts → List ℕ → Option (List ℕ) → Tree → Result (Table Val × List (List ℕ)) Fault
arguments_in host directory (Some text) tree = arguments_of_file host directory (codes "--args") (has_bytes text)
arguments_in host directory None tree = kept_arguments host directory (read_in tree (arguments_path directory))

unfoldable pub arguments_said : HostTexts → Request → Tree → Result (Table Val × List (List ℕ)) Fault
arguments_said host request tree = arguments_in host request.directory request.arguments tree

-- what the first stage leaves: what the dotfile says, the build arguments, and the lines of both
pub record First : Type 0 where
  pub dotfile : DotfileState
  pub arguments : Table Val
  pub prints : List (List ℕ)

abbrev pub first_with : DotfileState × List (List ℕ) → Result (Table Val × List (List ℕ)) Fault → Result First Fault
first_with dotfile (Ok given) = Ok (record { dotfile = dotfile.0; arguments = given.0; prints = dotfile.1 ++ given.1 })
first_with dotfile (Err fault) = Err fault

abbrev pub first_behind : Result (DotfileState × List (List ℕ)) Fault → Result (Table Val × List (List ℕ)) Fault → Result First Fault
first_behind (Ok dotfile) arguments = first_with dotfile arguments
first_behind (Err fault) arguments = Err fault

-- the first fault of the two counts, that of the dotfile before that of the build arguments
unfoldable pub first_said : HostTexts → Request → Tree → Result First Fault
first_said host request tree = first_behind (dotfile_said host request.directory tree) (arguments_said host request tree)

-- the paths that it reads: where the command line gives build arguments, those that are kept aren't read
abbrev pub kept_path : List ℕ → Option (List ℕ) → List (List ℕ)
kept_path directory (Some text) = []
kept_path directory None = arguments_path directory ∷ []

abbrev pub arguments_paths : Request → List (List ℕ)
arguments_paths request = kept_path request.directory request.arguments

abbrev pub behind_dotfile : Request → Result (DotfileState × List (List ℕ)) Fault → List (List ℕ)
behind_dotfile request (Ok said) = arguments_paths request
behind_dotfile request (Err fault) = []

unfoldable pub first_paths : HostTexts → Request → Tree → List (List ℕ)
first_paths host request tree = dotfile_path ∷ behind_dotfile request (dotfile_said host request.directory tree)

-- The second stage

-- what the build configuration of the default toolchain and what it imports have in common: they see the build arguments, of which those of the command line
-- or the file that keeps them win over those of the dotfile
abbrev pub configuration_context : HostTexts → Request → First → Context
configuration_context host request first =
    record (first_context request.directory host.root) { stage = stage.Loading; overrides = with_names first.arguments first.dotfile.arguments }

-- the base with which the build starts
abbrev pub configuration_base : HostTexts → Request → First → BaseState
configuration_base host request first =
    setup_base (configuration_context host request first) (host_names host) first.dotfile.configuration first.dotfile.secondary

-- the files that it is loaded from
abbrev pub files_behind : HostTexts → Request → Tree → First → Files
files_behind host request tree first = files_of (configuration_base host request first) tree

-- what a build leaves, its build directory, and how many build files are loaded for it
pub record Build : Type 0 where
  pub directory : List ℕ
  pub first : First
  pub loaded : Loaded
  pub files : ℕ

-- a build with this fault, once so many build files are loaded
abbrev pub build_failed : Fault → UnitCount → Result Build Failure
build_failed fault units = Err (record { fault = fault; units = units })

-- The third stage: the graph has no fault

-- what never changes in a build
abbrev pub surroundings_of : Build → Surroundings
surroundings_of build = record { build = build.directory; default = build.loaded.default; program = build.first.dotfile.executable }

abbrev pub without_fault : Build → Option Fault → Result Build Failure
without_fault build None = Ok build
without_fault build (Some fault) = build_failed fault (Exactly build.files)

abbrev pub graph_judged : Build → Result Build Failure
graph_judged build = without_fault build (graph_fault (surroundings_of build) build.loaded)

-- All stages

abbrev pub behind_loading : List ℕ → First → Files → Result Loaded Failure → Result Build Failure
behind_loading directory first files (Ok build) =
    graph_judged (record { directory = directory; first = first; loaded = build; files = files_reached (world_of files) })
behind_loading directory first files (Err failure) = Err failure

-- all that is loaded in a build directory, where these paths were read before
abbrev pub loaded_from : List ℕ → First → Files → List (List ℕ) → Result Build Failure
loaded_from directory first files known = behind_loading directory first files (build_loaded known files)

abbrev pub behind_first : HostTexts → Request → Tree → Result First Fault → Result Build Failure
behind_first host request tree (Ok first) = loaded_from request.directory first (files_behind host request tree first) (first_paths host request tree)
behind_first host request tree (Err fault) = build_failed fault (Exactly 0)

-- what a build leaves, or its error: the lowest stage that has one
unfoldable pub loaded : HostTexts → Request → Tree → Result Build Failure
loaded host request tree = behind_first host request tree (first_said host request tree)

-- The paths that a build reads

-- behind the first stage those that loading asks for
abbrev pub IsAskedBehind : HostTexts → Request → Tree → Result First Fault → List ℕ → Type 0
IsAskedBehind host request tree (Ok first) path = IsAskedFor (files_behind host request tree first) path
IsAskedBehind host request tree (Err fault) path = ⊥

unfoldable pub IsReadFor : HostTexts → Request → Tree → List ℕ → Type 0
IsReadFor host request tree path =
    OneOf (first_paths host request tree) path ⊎ IsAskedBehind host request tree (first_said host request tree) path
