-- What loading by one seat comes to.
use Rattle.std.specs.Prelude.{◌≡◌, ◌↔◌, ℕ, ◌≤◌, List, [], ◌++◌, length, map, slice_get, Option, Some, None, Err, Bool, true, false}
use Rattle.std.specs.List.{flat_map}
use Rattle.std.specs.List.Sorted.{IsStrictlySortedBy}
use Rattle.std.specs.Ordering.{nat_cmp}
use Rattle.std.specs.Cmp.Lexicographic.{slice_cmp}
use Rattle.gn_outside.specs.Tree.{Tree}
use Rattle.gn_outside.specs.States.{SourceRead, SourceState, paths_of}
use Rattle.gn_outside.specs.Lists.{AllDiffer, Each}
use Rattle.gn_outside.specs.Sources.{ReadsOnBy}
use Rattle.gn_faults.specs.declared.fault.Fault.{Fault}
use Rattle.gn_faults.specs.Order.{is_before}
use Rattle.gn_labels.specs.declared.label.Label.{Label}
use Rattle.gn_labels.specs.Labels.{order_key}
use Rattle.gn_items.specs.Effects.{Effects}
use Rattle.gn_environment.specs.Chains.{is_one_of}
use Rattle.gn_closure.specs.Closure.{In}
use Rattle.gn_closure.specs.Reach.{Setup, Is_generated, Holds}
use Rattle.gn_closure.specs.Computed.{is_too_large}
use Rattle.gn_graph.specs.Needs.{home}
use Rattle.gn_executions.specs.Base.{BaseState}
use Rattle.gn_core.specs.Keys.{Layer, Key, Read, Import, Unit_of, Resolve, units}
use Rattle.gn_core.specs.Worlds.{World}
use Rattle.gn_core.specs.Machine.{IsOver, HasLoaded, IsFiled, HasMore, IsImport, NeededBy, read_limit, import_limit}
use Rattle.gn_core.specs.Counted.{exceeds_limits}
use Rattle.gn_book.specs.Graphs.{UnitsHaveNumbers}
use Rattle.gn_book.specs.Logs.{Log, state_of, key_at}
use Rattle.gn_book.specs.Next.{NextIs}
use Rattle.gn_book.specs.declared.next.Next.TheVariants.{Quiet}
use Rattle.gn_projects.specs.Files.{Files, files_of}
use Rattle.gn_projects.specs.Worlds.{world_of}
use Rattle.gn_projects.specs.Errors.{too_large, default_told}
use Rattle.gn_projects.specs.Computed.{faults_of_unit}
use Rattle.gn_projects.specs.Loaded.{effects_of, execution_texts, files_loaded, files_imported, files_written, Build, build_meant, UpTo, AreReached, files_reached, loaded_by, loaded, IsAskedFor}
use Rattle.gn_builds.specs.Driving.{IsDriven, paths_read, unknown_of, files_begun, HasTooMany, ReadsNumbered}

-- it has come to rest
pub record IsAtRest (files : Files) (l : Log) : Type 0 where
  pub driven : IsDriven files.start l []
  pub over : IsOver (world_of files) l.events
  pub numbers : UnitsHaveNumbers l
  pub next : NextIs l 0 Quiet

-- whatever the files
pub record Rests (start : BaseState) (l : Log) : Type 0 where
  pub driven : IsDriven start l []
  pub numbers : UnitsHaveNumbers l
  pub next : NextIs l 0 Quiet

-- then all is loaded
abbrev pub RestIsLoaded : Type 0
RestIsLoaded = (files : Files) (l : Log) → IsAtRest files l → HasLoaded (world_of files) (state_of l)

-- Limits

-- no more files were read than a build may ask for, those aside that were known before
abbrev pub IsSmall : List (List ℕ) → Log → Type 0
IsSmall known l = length (unknown_of known (paths_read l.keys)) ≤ read_limit

-- no more units are reached than in a build may be
abbrev pub ReachesFew : Log → Type 0
ReachesFew l = is_too_large home (units (state_of l).filed) ≡ false

-- an import that has its answer needs more imports than one may need
abbrev pub HasLargeImport : Log → Type 0
HasLargeImport l =
    (layer : Layer) × (path : List ℕ) × IsFiled (state_of l).filed (Import layer path)
    × HasMore (λ q. IsImport q × NeededBy (state_of l).filed layer path q) import_limit

pub record IsWithinLimits (known : List (List ℕ)) (l : Log) : Type 0 where
  pub reads : IsSmall known l
  pub units : ReachesFew l
  pub imports : HasLargeImport l → ⊥

-- a build that exceeds none, and one that exceeds one
abbrev pub RestIsWithin : Type 0
RestIsWithin = (known : List (List ℕ)) (files : Files) (l : Log) → IsAtRest files l → IsWithinLimits known l
    → exceeds_limits (world_of files) (λ path. is_one_of path known) ≡ false

abbrev pub IsTooLarge : List (List ℕ) → Files → Type 0
IsTooLarge known files = loaded known files ≡ Err (record { fault = too_large; units = UpTo (world_of files) })

abbrev pub LargeImportsAreTooLarge : Type 0
LargeImportsAreTooLarge = (known : List (List ℕ)) (files : Files) (l : Log) → IsAtRest files l → HasLargeImport l → IsTooLarge known files

-- where more files were read than a build may ask for, or more units are reached, at any time
abbrev pub TooManyAreTooLarge : Type 0
TooManyAreTooLarge = (known : List (List ℕ)) (files : Files) (l : Log) (ks : List Key) → IsDriven files.start l ks → IsOver (world_of files) l.events
    → HasTooMany known l → IsTooLarge known files

-- Faults

-- those of the unit of a key
abbrev pub faults_of_key : World → Key → List Fault
faults_of_key w (Unit_of unit) = faults_of_unit w unit
faults_of_key w (Read path) = []
faults_of_key w (Import layer path) = []
faults_of_key w (Resolve label) = []

-- the first of these in the order of faults, if there is one
abbrev pub IsFirstOf : List Fault → Option Fault → Type 0
IsFirstOf faults None = faults ≡ []
IsFirstOf faults (Some fault) = In faults fault × ((other : Fault) → In faults other → is_before other fault ≡ false)

-- the error of a build is the first of those of the units that have numbers
abbrev pub RestIsJudged : Type 0
RestIsJudged = (known : List (List ℕ)) (files : Files) (l : Log) (fault : Option Fault) → IsAtRest files l → IsWithinLimits known l
    → IsFirstOf (flat_map (faults_of_key (world_of files)) l.keys) fault → loaded known files ≡ loaded_by (world_of files) fault

-- Build files

-- those that are claimed or have answers are reached, and at rest they are all of them
abbrev pub BegunAreReached : Type 0
BegunAreReached = (files : Files) (l : Log) (ks : List Key) → IsDriven files.start l ks → IsOver (world_of files) l.events → AreReached (world_of files) (files_begun l)

abbrev pub RestCountsFiles : Type 0
RestCountsFiles = (known : List (List ℕ)) (files : Files) (l : Log) → IsAtRest files l → IsWithinLimits known l → files_begun l ≡ files_reached (world_of files)

-- no more are reached than are counted
abbrev pub ReachedAreCounted : Type 0
ReachedAreCounted = (files : Files) (known : List ℕ → Bool) (n : ℕ) → exceeds_limits (world_of files) known ≡ false → AreReached (world_of files) n
    → n ≤ files_reached (world_of files)

-- What is left

abbrev pub effects_at : Log → ℕ → Effects
effects_at l n = effects_of ((state_of l).filed (key_at l n))

abbrev pub is_execution : Key → Bool
is_execution (Read path) = false
is_execution (Import layer path) = true
is_execution (Unit_of unit) = true
is_execution (Resolve label) = false

-- the numbers of all executions, in their order
pub record AreInOrder (default : List ℕ) (l : Log) (numbers : List ℕ) : Type 0 where
  pub each : (n : ℕ) → In numbers n → (k : Key) × (slice_get l.keys n ≡ Some k) × (is_execution k ≡ true)
  pub all : (n : ℕ) (k : Key) → slice_get l.keys n ≡ Some k → is_execution k ≡ true → In numbers n
  pub sorted : IsStrictlySortedBy (slice_cmp (slice_cmp nat_cmp)) (map (λ n. execution_texts default (key_at l n)) numbers)

-- the labels that are generated, in label order
pub record AreGenerated (default : List ℕ) (l : Log) (labels : List Label) : Type 0 where
  pub all : (label : Label) → In labels label ↔ Holds home (units (state_of l).filed) (Is_generated label)
  pub sorted : IsStrictlySortedBy (slice_cmp (slice_cmp nat_cmp)) (map (order_key default) labels)

-- the default toolchain, as its build configuration names it that has its answer
abbrev pub default_filed : Log → List ℕ
default_filed l = default_told (units (state_of l).filed (Setup []))

-- what a build has left whose default toolchain has this text, whose executions have these numbers, and which generates these labels
abbrev pub build_left : List ℕ → Log → List ℕ → List Label → Build
build_left default l numbers labels = record {
  default = default;
  executions = map (effects_at l) numbers;
  generated = labels;
  loaded = files_loaded (state_of l).filed (map (key_at l) numbers);
  imported = files_imported (map (key_at l) numbers);
  written = files_written default (state_of l).filed (map (key_at l) numbers);
}

abbrev pub RestIsBuilt : Type 0
RestIsBuilt = (known : List (List ℕ)) (files : Files) (l : Log) (numbers : List ℕ) (labels : List Label) → IsAtRest files l → IsWithinLimits known l
    → AreInOrder (default_filed l) l numbers → AreGenerated (default_filed l) l labels
    → build_meant (world_of files) ≡ build_left (default_filed l) l numbers labels

-- Reads

-- only what the build asks is read, and nothing twice
abbrev pub ReadsAsked : BaseState → List (List ℕ) → SourceState → SourceState → Type 0
ReadsAsked start known before now =
    (reads : List SourceRead) × ReadsOnBy before now reads × AllDiffer (known ++ paths_of reads)
    × ((tree : Tree) → before.tree ≡ Some tree → Each (IsAskedFor (files_of start tree)) (paths_of reads))

abbrev pub NumberedAreAsked : Type 0
NumberedAreAsked = (start : BaseState) (known : List (List ℕ)) (before now : SourceState) → AllDiffer known → ReadsNumbered start known before now → ReadsAsked start known before now
