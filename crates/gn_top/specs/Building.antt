-- What is made of a build, as its meaning sees it.
use Rattle.std.specs.Prelude.{◌≡◌, ◌⊎◌, ◌↔◌, ℕ, List, [], ◌∷◌, ◌++◌, Option, option_map, Some, Result, Ok, Err}
use Rattle.gn_outside.specs.Tree.{Tree}
use Rattle.gn_outside.specs.States.{SourceRead, SourceState, paths_of}
use Rattle.gn_outside.specs.Lists.{AllDiffer, Each, OneOf}
use Rattle.gn_outside.specs.Sources.{ReadsOnBy}
use Rattle.gn_values.specs.Tables.{Table}
use Rattle.gn_values.specs.Val.{Val}
use Rattle.gn_faults.specs.declared.code.Code.{Code}
use Rattle.gn_faults.specs.declared.fault.Fault.{Fault}
use Rattle.gn_faults.specs.declared.stage.Stage.TheVariants.{Arguments}
use Rattle.gn_executions.specs.Dotfile.{DotfileState}
use Rattle.gn_dotfile.specs.Names.{dotfile_state}
use Rattle.gn_projects.specs.Loaded.{UnitCount, Failure, IsCount}
use Rattle.gn_builds.specs.Driving.{FailsAt}
use Rattle.gn_bases.specs.Setups.{given_base}
use Rattle.gn_answers.specs.declared.answer.FileContent.{FileContent}
use Rattle.gn_load.specs.declared.plain.LoadEnd.{LoadEnd}
use Rattle.gn_load.specs.declared.plain.LoadEnd.TheVariants as load_end
use Rattle.gn_top.specs.Hosts.{HostTexts}
use Rattle.gn_top.specs.Stages.{Request, First, Build, IsReadFor, configuration_base, graph_judged}
use Rattle.gn_top.specs.Said.{failure_said, Wanted, Labels, Files, loaded_said}
use Rattle.gn_top.specs.declared.answer.Wanted.{Wanted as WantedCode}
use Rattle.gn_top.specs.declared.answer.Wanted.TheVariants as wanted
use Rattle.gn_top.specs.Steps.{IsSaying, IfCannotRead, CountsFault}
pub use Rattle.gn_top.specs.Views.{started_view, build_view}
use Rattle.gn_top.specs.declared.answered.Answered.{Answered}
use Rattle.gn_top.specs.declared.answered.RunStop.{RunStop}
use Rattle.gn_top.specs.declared.answered.RunStop.TheVariants.{CannotRead, Memory}
use Rattle.gn_top.specs.declared.first.Request.{Request as RequestCode}
use Rattle.gn_top.specs.declared.first.Outer.{Outer}
use Rattle.gn_top.specs.declared.first.First.{First as FirstCode}
use Rattle.gn_top.specs.declared.first.DotfileEnd.{DotfileEnd}
use Rattle.gn_top.specs.declared.first.DotfileEnd.TheVariants as dotfile_end
use Rattle.gn_top.specs.declared.first.ArgumentsEnd.{ArgumentsEnd}
use Rattle.gn_top.specs.declared.first.ArgumentsEnd.TheVariants as arguments_end
use Rattle.gn_top.specs.declared.first.FirstEnd.{FirstEnd}
use Rattle.gn_top.specs.declared.first.FirstEnd.TheVariants as first_end
use Rattle.gn_top.specs.declared.building.Started.{Started}
use Rattle.gn_top.specs.declared.faultless.Faultless.{Faultless}
use Rattle.gn_top.specs.declared.building.BuildEnd.{BuildEnd}
use Rattle.gn_top.specs.declared.building.BuildEnd.TheVariants as build_end

abbrev pub request_view : RequestCode → Request
request_view request = record { directory = request.directory; arguments = option_map (λ t. t.now) request.arguments }

abbrev pub outer_view : Outer → HostTexts
outer_view outer = record { os = outer.names.os; cpu = outer.names.cpu; root = outer.root }

abbrev pub first_view : FirstCode → First
first_view first = record { dotfile = dotfile_state first.dotfile; arguments = first.arguments; prints = first.dotfile.prints ++ first.prints }

-- a build is loaded from what its first stage has left, and from what was read for that
pub record IsStarted (host : HostTexts) (request : Request) (first : First) (known : List (List ℕ × FileContent)) (start : Started) : Type 0 where
  pub view : started_view start ≡ first
  pub base : given_base start.setup ≡ configuration_base host request first
  pub read : start.setup.known.entries ≡ known

abbrev pub faultless_view : Faultless → Build
faultless_view build = build_view build.build.now

-- the first stage has ended as it means
abbrev pub IsFirst : FirstEnd → Result First Fault → Type 0
IsFirst (first_end.Said first) meaning = meaning ≡ Ok (first_view first)
IsFirst (first_end.Failed fault) meaning = meaning ≡ Err fault

-- the fault of a whole file of the first stage, which shows its path
abbrev pub alone_fault : List ℕ → Code → Fault
alone_fault path c = record { stage = Arguments; place = Some (record { file = path; line = 1; column = 1 }); toolchain = []; code = c; detail = path ∷ [] }

-- the dotfile, and the build arguments, have ended as they mean
abbrev pub IsDotfileEnd : DotfileEnd → Result (DotfileState × List (List ℕ)) Fault → Type 0
IsDotfileEnd (dotfile_end.Said said) meaning = meaning ≡ Ok (dotfile_state said, said.prints)
IsDotfileEnd (dotfile_end.Failed fault) meaning = meaning ≡ Err fault

abbrev pub AreArgumentsEnd : ArgumentsEnd → Result (Table Val × List (List ℕ)) Fault → Type 0
AreArgumentsEnd (arguments_end.Said given prints) meaning = meaning ≡ Ok (given, prints)
AreArgumentsEnd (arguments_end.Failed fault) meaning = meaning ≡ Err fault

-- a build has ended as it means, where its graph is judged
abbrev pub IsBuild : BuildEnd → Result Build Failure → Type 0
IsBuild (build_end.Built build) meaning = meaning ≡ graph_judged (build_view build)
IsBuild (build_end.Failed failure) meaning =
    (units : UnitCount) × (meaning ≡ Err (record { fault = failure.fault; units = units })) × IsCount failure.units units

-- it has gone on by reads of these paths, each once, and of none that is known
abbrev pub ReadsAmong : List (List ℕ) → List (List ℕ) → SourceState → SourceState → Type 0
ReadsAmong paths known before now =
    (reads : List SourceRead) × ReadsOnBy before now reads × AllDiffer (paths_of reads)
    × Each (λ (path : List ℕ). OneOf known path → ⊥) (paths_of reads) × Each (OneOf paths) (paths_of reads)

-- the same; its count of faults rises exactly where a read has failed, which is the last one
pub record ReadsNew {T : Type 0} (paths known : List (List ℕ)) (before now : SourceState) (result : Result T RunStop) : Type 0 where
  pub among : ReadsAmong paths known before now
  pub faults : CountsFault before.faults now.faults result
  pub failure : IfCannotRead result (λ path. FailsAt path before now)

-- it has gone on by reads of paths that are asked for in its tree, each once
abbrev pub ReadsOf : (Tree → List ℕ → Type 0) → SourceState → SourceState → Type 0
ReadsOf asks before now =
    (reads : List SourceRead) × ReadsOnBy before now reads × AllDiffer (paths_of reads)
    × ((tree : Tree) → before.tree ≡ Some tree → Each (asks tree) (paths_of reads))

-- the same of paths of a list
abbrev pub ReadsOneOf : (Tree → List (List ℕ)) → SourceState → SourceState → Type 0
ReadsOneOf paths before now = ReadsOf (λ tree. OneOf (paths tree)) before now

-- the same, where what was read is known
abbrev pub ReadsKnown : (Tree → List (List ℕ)) → List (List ℕ) → SourceState → SourceState → Type 0
ReadsKnown paths known before now =
    (reads : List SourceRead) × ReadsOnBy before now reads × AllDiffer (paths_of reads)
    × Each (OneOf known) (paths_of reads)
    × ((tree : Tree) → before.tree ≡ Some tree → Each (OneOf (paths tree)) (paths_of reads))

-- the same of the first stage: what was read is known if the stage has ended
abbrev pub ReadsFirst : {T : Type 0} → (Tree → List (List ℕ)) → List (List ℕ) → SourceState → SourceState → Result T RunStop → Type 0
ReadsFirst paths known before now (Ok x) = ReadsKnown paths known before now
ReadsFirst paths known before now (Err why) = ReadsOneOf paths before now

-- these paths are known beside those that were
abbrev pub KnowsAlso : List (List ℕ) → List (List ℕ) → List (List ℕ) → Type 0
KnowsAlso before paths now = (path : List ℕ) → OneOf now path ↔ (OneOf before path ⊎ OneOf paths path)

abbrev pub ReadsBuild : HostTexts → Request → SourceState → SourceState → Type 0
ReadsBuild host request before now = ReadsOf (IsReadFor host request) before now

-- loading has ended without an answer: a read has failed, or memory was wanting
abbrev pub StopsAs : {T : Type 0} → LoadEnd → Result T RunStop → Type 0
StopsAs (load_end.Built built) result = IfCannotRead result (λ path. ⊥)
StopsAs (load_end.Wrong fault) result = IfCannotRead result (λ path. ⊥)
StopsAs (load_end.Failed path) result = result ≡ Err (CannotRead path)
StopsAs load_end.Memory result = result ≡ Err Memory

-- what is wanted of a build
abbrev pub wanted_view : WantedCode → Wanted
wanted_view (wanted.Labels pattern) = Labels (option_map (λ t. t.now) pattern)
wanted_view wanted.Files = Files

-- an answer says what a build means that has ended so
abbrev pub SaysEnd : Answered → Wanted → Request → BuildEnd → Type 0
SaysEnd answered w request end = (meaning : Result Build Failure) → IsBuild end meaning → IsSaying answered (loaded_said w request meaning)

-- it says this fault, once so many build files are loaded
abbrev pub SaysFault : Answered → Fault → ℕ → Type 0
SaysFault answered fault loaded = (units : UnitCount) → IsCount loaded units → IsSaying answered (failure_said (record { fault = fault; units = units }))
