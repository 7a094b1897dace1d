-- How the faults of units are found by the answers that are filed: an import that can't be used leads to a fault.
use Rattle.std.specs.Prelude.{◌≡◌, ℕ, zero, suc, ◌<◌, ◌≤◌, List, [], length, Option, Some}
use Rattle.gn_outside.specs.Lists.{AllDiffer}
use Rattle.gn_paths.specs.declared.place.Place.{Place}
use Rattle.gn_faults.specs.declared.fault.Fault.{Fault}
use Rattle.gn_definitions.specs.Imported.{ImportState}
use Rattle.gn_runs.specs.Runs.{is_unusable, import_of, wrong, spoiled, Run}
use Rattle.gn_runs.specs.Laws.{IsAsked}
use Rattle.gn_imports.specs.Causes.{Link, least_among, linked_on, led}
use Rattle.gn_imports.specs.Rounds.{Project}
use Rattle.gn_closure.specs.Closure.{In}
use Rattle.gn_closure.specs.Reach.{Unit_key}
use Rattle.gn_core.specs.Keys.{Layer, Leaving, UnitLeft, Import, Unit_of, Answer, import_is, unit_is, Filed, imported_in, layer_of, units}
use Rattle.gn_core.specs.Worlds.{project, all_meanings}
use Rattle.gn_core.specs.Machine.{HasMore, IsImport, NeededBy, asked_in, import_limit}
use Rattle.gn_book.specs.Logs.{Log, state_of}
use Rattle.gn_projects.specs.Files.{Files}
use Rattle.gn_projects.specs.Worlds.{world_of}
use Rattle.gn_projects.specs.Errors.{link_filed, fault_toolchain, cycle_under}
use Rattle.gn_projects.specs.Computed.{cause_under, faults_at, faults_of_unit}
use Rattle.gn_builds.specs.Rest.{IsAtRest, HasLargeImport}

-- the import to which that of a path leads, by its answer
abbrev pub link_at : Layer → Log → List ℕ → Option Link
link_at layer l path = link_filed ((state_of l).filed (Import layer path))

-- so many links from an import, each from the one to which the one before it leads
abbrev pub links_by : (List ℕ → Option Link) → ℕ → List ℕ → List Link
links_by next zero path = []
links_by next (suc n) path = linked_on (next path) (links_by next n)

-- the import of a path has an answer, and can't be used
abbrev pub IsUnusable : Layer → Log → List ℕ → Type 0
IsUnusable layer l path = (v : Answer) × ((state_of l).filed (Import layer path) ≡ Some v) × (imported_in (Some v) ≡ Some is_unusable)

-- the imports of a layer over all answers
abbrev pub layer_project : Files → Layer → Project
layer_project files layer = project (world_of files) (all_meanings (world_of files)) layer

-- the toolchain of a layer, as its faults have it
abbrev pub shown_toolchain : Log → Layer → List ℕ
shown_toolchain l layer = fault_toolchain (units (state_of l).filed) layer

-- the faults of a unit are those of its answer
abbrev pub UnitsHaveFaults : Type 0
UnitsHaveFaults = (files : Files) (l : Log) (unit : Unit_key) (run : Run (Leaving UnitLeft)) → IsAtRest files l → (state_of l).filed (Unit_of unit) ≡ Some (unit_is run)
    → faults_of_unit (world_of files) unit ≡ faults_at (shown_toolchain l (layer_of unit)) (layer_project files (layer_of unit)) run.end

-- the import can't be used that spoils a unit, and neither can the one to which a link leads
abbrev pub SpoilersAreUnusable : Type 0
SpoilersAreUnusable = (files : Files) (l : Log) (unit : Unit_key) (run : Run (Leaving UnitLeft)) (path : List ℕ) (place : Place) → IsAtRest files l
    → (state_of l).filed (Unit_of unit) ≡ Some (unit_is run) → run.end ≡ spoiled path place → IsUnusable (layer_of unit) l path

abbrev pub LinksAreUnusable : Type 0
LinksAreUnusable = (files : Files) (layer : Layer) (l : Log) (path : List ℕ) (x : Link) → IsAtRest files l → link_at layer l path ≡ Some x → IsUnusable layer l x.path

-- links lead to a wrong import, whose fault is the cause
abbrev pub WrongIsCause : Type 0
WrongIsCause = (files : Files) (layer : Layer) (l : Log) (toolchain : List ℕ) (n : ℕ) (path q : List ℕ) → IsAtRest files l → led (link_at layer l) n path ≡ Some q
    → (run : Run (Leaving ImportState)) (fault : Fault) → (state_of l).filed (Import layer q) ≡ Some (import_is run) → run.end ≡ wrong fault
    → cause_under toolchain (layer_project files layer) path ≡ fault

-- an import needs no more imports than the limit: after as many links they go round a cycle, and as many and one more go all round it
abbrev pub RoundIsCause : Type 0
RoundIsCause = (files : Files) (layer : Layer) (l : Log) (toolchain path q : List ℕ) (x : Link) → IsAtRest files l → (HasLargeImport l → ⊥) → IsUnusable layer l path
    → led (link_at layer l) import_limit path ≡ Some q → link_at layer l q ≡ Some x
    → cause_under toolchain (layer_project files layer) path ≡ cycle_under toolchain (least_among x.place (links_by (link_at layer l) import_limit x.path))

-- Imports that one needs

-- with each of these paths it has all that its import asks for
abbrev pub IsClosed : Filed → Layer → List (List ℕ) → Type 0
IsClosed filed layer paths = (path q : List ℕ) → In paths path → IsAsked (asked_in (filed (Import layer path))) (import_of q) → In paths q

abbrev pub NeedsMany : Filed → Layer → List ℕ → Type 0
NeedsMany filed layer path = HasMore (λ q. IsImport q × NeededBy filed layer path q) import_limit

-- what is needed is within such a list
abbrev pub ClosedAreAll : Type 0
ClosedAreAll = (filed : Filed) (layer : Layer) (path : List ℕ) (paths : List (List ℕ)) → In paths path → IsClosed filed layer paths → length paths ≤ import_limit
    → NeedsMany filed layer path → ⊥

-- and different paths that are needed are too many where they are more than the limit
abbrev pub ListedAreMany : Type 0
ListedAreMany = (filed : Filed) (layer : Layer) (path : List ℕ) (paths : List (List ℕ)) → AllDiffer paths → ((p : List ℕ) → In paths p → NeededBy filed layer path (Import layer p))
    → import_limit < length paths → NeedsMany filed layer path
