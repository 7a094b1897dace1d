-- What holds of loading whole builds.
use Rattle.std.specs.Prelude.{◌≡◌, ◌≢◌, ◌⊎◌, ℕ, List, Some, None, Bool}
use Rattle.gn_faults.specs.declared.code.Code.TheVariants as code
use Rattle.gn_faults.specs.declared.file_kind.FileKind.TheVariants.{BuildFile}
use Rattle.gn_labels.specs.Laws.{IsNamed}
use Rattle.gn_labels.specs.Reading.{named}
use Rattle.gn_items.specs.declared.item.Item.{Item}
use Rattle.gn_runs.specs.Runs.{Content, is_absent, Answers, wrong}
use Rattle.gn_executions.specs.Base.{BaseState, setting_of}
use Rattle.gn_executions.specs.Faults.{whole_file_fault}
use Rattle.gn_executions.specs.Found.{found_load_execution}
use Rattle.gn_executions.specs.Setups.{path_below}
use Rattle.gn_executions.specs.Units.{build_file_of, load_execution}
use Rattle.gn_closure.specs.Reach.{Unit_key}
use Rattle.gn_graph.specs.Needs.{home}
use Rattle.gn_core.specs.Keys.{Key, Import, Unit_of, Layer, Answer, layer_of}
use Rattle.gn_core.specs.Worlds.{World, true_meaning}
use Rattle.gn_core.specs.Layered.{IsLayered, HasLayer}
use Rattle.gn_core.specs.Machine.{State, Event, replay, Runs, IsOver, IsQuiet, IsOpening}
use Rattle.gn_core.specs.Statements.{IsLoadingRun}
use Rattle.gn_projects.specs.Files.{Files}
use Rattle.gn_projects.specs.Needs.{toolchain_name}
use Rattle.gn_projects.specs.Worlds.{world_of}

-- the laws of loading in any order hold of whole builds
abbrev pub WholeBuildsAreLayered : Type 0
WholeBuildsAreLayered = (files : Files) → IsLayered (world_of files)

-- loading over files, by any seats in any order, from a state that has just the files which the setup knows
pub record IsLoading (files : Files) (known : List ℕ → Bool) (s : State) (es : List Event) : Type 0 where
  pub opening : IsOpening (world_of files) known s
  pub runs : Runs (world_of files) known s es
  pub over : IsOver (world_of files) es

-- what it files is what the files mean
abbrev pub FiledIsMeant : Type 0
FiledIsMeant = (files : Files) (known : List ℕ → Bool) (s : State) (es : List Event) → IsLoading files known s es
    → (k : Key) (v : Answer) → (replay s es).filed k ≡ Some v → v ≡ true_meaning (world_of files) k

-- and when it has come to rest that is the same, whatever came first
abbrev pub OrderDoesNotMatter : Type 0
OrderDoesNotMatter = (files : Files) (known : List ℕ → Bool) (s : State) (es fs : List Event) → IsLoading files known s es → IsLoading files known s fs
    → IsQuiet (world_of files) (replay s es) → IsQuiet (world_of files) (replay s fs) → (k : Key) → (replay s es).filed k ≡ (replay s fs).filed k

-- A unit or an import is claimed only once all is filed that it sees: a file behind a build configuration once that is done, a build configuration of
-- another toolchain than the default one once the file is done that defines the toolchain, and defines it
abbrev pub ClaimedHaveLayer : Type 0
ClaimedHaveLayer = (w : World) (known : List ℕ → Bool) (s : State) (es : List Event) → IsLoadingRun w known s es
    → ((k : Unit_key) (seat : ℕ) → (replay s es).claims (Unit_of k) ≡ Some seat → HasLayer w (replay s es).filed (layer_of k))
    × ((l : Layer) (path : List ℕ) (seat : ℕ) → (replay s es).claims (Import l path) ≡ Some seat → HasLayer w (replay s es).filed l)

-- the text by which labels name a toolchain leads to the directory of its label
abbrev pub ToolchainsHaveHomes : Type 0
ToolchainsHaveHomes = (item : Item) → IsNamed (named item.label.dir item.label.name) → home (toolchain_name item) ≡ item.label.dir

-- A build file that is at its path, or for which there is no other tree, is that one
abbrev pub FilesAreFound : Type 0
FilesAreFound = (base : BaseState) (dir toolchain : List ℕ) (a : Answers)
    → (base.secondary ≡ None) ⊎ ((content : Content) × (content ≢ is_absent) × (a.contents (build_file_of dir) ≡ Some content))
    → found_load_execution base dir toolchain a ≡ load_execution base dir toolchain a

-- where it is in neither tree the fault shows its path, and stands there
abbrev pub LackingFilesAreWrong : Type 0
LackingFilesAreWrong = (base : BaseState) (dir toolchain tree : List ℕ) (a : Answers) → base.secondary ≡ Some tree
    → a.contents (build_file_of dir) ≡ Some is_absent → a.contents (path_below tree (build_file_of dir)) ≡ Some is_absent
    → (found_load_execution base dir toolchain a).end ≡ wrong (whole_file_fault (setting_of base BuildFile (build_file_of dir)) code.NoFile)
