-- The sequential meaning of a command line over a tree.
use Rattle.std.specs.Prelude.{ℕ, List, [], ◌++◌, Option, None, Some, Result, Ok, Err, length, map, string_bytes, codes}
use Rattle.std.specs.List.{flat_map}
use Rattle.std.specs.declared.string.String.{String}
use Rattle.std.specs.declared.alloc.Global.{Global}
use Rattle.gn_outside.specs.Tree.{Tree}
use Rattle.gn_outside.specs.States.{PutFile}
use Rattle.gn_faults.specs.declared.code.Code.{Code}
use Rattle.gn_faults.specs.declared.code.Code.TheVariants.{BadPattern, AboveRoot, BadPath}
use Rattle.gn_faults.specs.declared.stage.Stage.TheVariants.{Question}
use Rattle.gn_paths.specs.declared.error.PathFault.TheVariants as no_path
use Rattle.gn_labels.specs.declared.error.PatternFault.{PatternFault}
use Rattle.gn_labels.specs.declared.error.PatternFault.TheVariants as no_pattern
use Rattle.gn_labels.specs.declared.pattern.Pattern.{Pattern}
use Rattle.gn_labels.specs.Patterns.{pattern_read}
use Rattle.gn_faults.specs.declared.fault.Fault.{Fault}
use Rattle.gn_faults.specs.Printed.{printed}
use Rattle.gn_top.specs.Exported.{Exported}
use Rattle.gn_command_line.specs.Words.{Options, Command, Ls, Gen, Line, line_said}
use Rattle.gn_top.specs.Texts.{line, usage_line, done_line}
use Rattle.gn_items.specs.declared.declaration.Declaration.{Declaration}
use Rattle.gn_args.specs.Arguments.{unused_names}
use Rattle.gn_projects.specs.Loaded.{UnitCount, Exactly, Failure, lines_of_build, declared_by_build}
use Rattle.gn_top.specs.Stages.{Request, Build, loaded, IsReadFor}
use Rattle.gn_top.specs.Labels.{listing}
use Rattle.gn_top.specs.Files.{files_put}
use Rattle.gn_top.specs.Hosts.{HostTexts}

-- a status, a text, the files in the order in which they are put, and the number of build files loaded
pub record Said : Type 0 where
  pub status : ℕ
  pub text : List ℕ
  pub files : List PutFile
  pub units : UnitCount

-- the usage line, where the words have no form
abbrev pub usage_said : Said
usage_said = record { status = 2; text = usage_line; files = []; units = Exactly 0 }

-- the line of an error, once so many build files are loaded
abbrev pub failure_said : Failure → Said
failure_said failure = record { status = 1; text = printed failure.fault; files = []; units = failure.units }

-- the lines that the first stage has printed, and then those of what was loaded, toolchain by toolchain
abbrev pub lines_of : Build → List ℕ
lines_of build = flat_map (λ text. text) build.first.prints ++ lines_of_build build.loaded

-- a build argument that was given to no effect
unfoldable pub warning : List ℕ → List ℕ
warning name = line (codes "WARNING: The build argument \"" ++ (name ++ codes "\" has no effect."))

abbrev pub declared_names : Build → List (List ℕ)
declared_names build = map (λ (d : Declaration). d.name) (declared_by_build build.loaded)

abbrev pub warnings_of : Build → List ℕ
warnings_of build = flat_map warning (unused_names build.first.arguments (declared_names build))

-- the lines printed, the warnings in the order of the names, and then the labels of the targets that are generated, in label order, one a line: with a
-- pattern those that it matches
abbrev pub answer_text : Option Pattern → Build → List ℕ
answer_text pattern build = lines_of build ++ (warnings_of build ++ listing build.loaded.default pattern build.loaded.generated)

-- the answer of a build that was loaded
abbrev pub answer_said : Option Pattern → Build → Said
answer_said pattern build = record { status = 0; text = answer_text pattern build; files = []; units = Exactly build.files }

-- the files of a build that is made from a request were put, and so many targets were generated
abbrev pub gen_text : Build → List ℕ
gen_text build = lines_of build ++ (warnings_of build ++ done_line (length build.loaded.generated) (length build.loaded.loaded))

abbrev pub gen_said : Request → Build → Said
gen_said request build = record { status = 0; text = gen_text build; files = files_put request build; units = Exactly build.files }

-- the pattern of a command, if it has one: what its text means at the source root
abbrev pub pattern_meant : Result Pattern PatternFault → Result (Option Pattern) PatternFault
pattern_meant (Ok pattern) = Ok (Some pattern)
pattern_meant (Err fault) = Err fault

abbrev pub pattern_asked : Option (List ℕ) → Result (Option Pattern) PatternFault
pattern_asked None = Ok None
pattern_asked (Some text) = pattern_meant (pattern_read (codes "//") text)

-- a text that means no pattern is a fault of the question, without a place
abbrev pub pattern_code : PatternFault → Code
pattern_code no_pattern.BadPattern = BadPattern
pattern_code (no_pattern.Path no_path.AboveRoot) = AboveRoot
pattern_code (no_pattern.Path no_path.BadPath) = BadPath

abbrev pub question_fault : PatternFault → Fault
question_fault fault = record { stage = Question; place = None; toolchain = []; code = pattern_code fault; detail = [] }

-- what is said of a build to which a pattern is put
abbrev pub build_said : Result (Option Pattern) PatternFault → Build → Said
build_said (Ok pattern) build = answer_said pattern build
build_said (Err fault) build = failure_said (record { fault = question_fault fault; units = Exactly build.files })

-- what is wanted of a build: the labels of its targets, of those that a pattern matches, if there is one; or its files
pub data Wanted : Type 0 where
  Labels : (pattern : Option (List ℕ)) → Wanted
  Files : Wanted

abbrev pub wanted_said : Wanted → Request → Build → Said
wanted_said (Labels pattern) request build = build_said (pattern_asked pattern) build
wanted_said Files request build = gen_said request build

-- what is said of what a build leaves, or of its error, which comes first
abbrev pub loaded_said : Wanted → Request → Result Build Failure → Said
loaded_said wanted request (Ok build) = wanted_said wanted request build
loaded_said wanted request (Err failure) = failure_said failure

abbrev pub request_said : Wanted → Request → HostTexts → Tree → Said
request_said wanted request host tree = loaded_said wanted request (loaded host request tree)

-- what a build is made from, by a command and the switches of its line
abbrev pub request_of : List ℕ → Options → Request
request_of directory options = record { directory = directory; arguments = options.arguments }

-- what a command says over a tree. The number of workers doesn't count
abbrev pub command_said : Command → Options → HostTexts → Tree → Said
command_said (Ls directory pattern) options host tree = request_said (Labels pattern) (request_of directory options) host tree
command_said (Gen directory) options host tree = request_said Files (request_of directory options) host tree

abbrev pub line_means : Option Line → HostTexts → Tree → Said
line_means None host tree = usage_said
line_means (Some line) host tree = command_said line.command line.options host tree

-- the meaning of words: what a run over this tree says and puts
unfoldable pub said : List (List ℕ) → HostTexts → List Exported → Tree → Said
said words host exporters tree = line_means (line_said words) host tree

-- the paths that a command reads
abbrev pub command_asks : Command → Options → HostTexts → Tree → List ℕ → Type 0
command_asks (Ls directory pattern) options host tree = IsReadFor host (request_of directory options) tree
command_asks (Gen directory) options host tree = IsReadFor host (request_of directory options) tree

abbrev pub line_asks : Option Line → HostTexts → Tree → List ℕ → Type 0
line_asks None host tree = λ path. ⊥
line_asks (Some line) host tree = command_asks line.command line.options host tree

-- the paths that the meaning of words reads
unfoldable pub asked : List (List ℕ) → HostTexts → List Exported → Tree → List ℕ → Type 0
asked words host exporters tree = line_asks (line_said words) host tree
