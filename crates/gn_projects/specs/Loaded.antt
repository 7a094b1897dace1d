-- What a whole build means over files: what its executions leave, in their order, and the targets that it generates; or its error.
use Rattle.std.specs.Prelude.{◌≡◌, ℕ, ◌≤◌, List, [], ◌∷◌, ◌++◌, length, map, Option, Some, None, Bool, true, false, if◌then◌else◌, Result, Ok, Err}
use Rattle.std.specs.List.{flat_map, filter, IsDistinct}
use Rattle.std.specs.Ordering.{nat_cmp}
use Rattle.std.specs.Cmp.Lexicographic.{slice_cmp}
use Rattle.std.specs.FinMap.{from_entries, entries}
use Rattle.gn_faults.specs.declared.fault.Fault.{Fault}
use Rattle.gn_labels.specs.declared.label.Label.{Label}
use Rattle.gn_labels.specs.Labels.{toolchain_key, order_key}
use Rattle.gn_items.specs.Effects.{Effects, no_effects}
use Rattle.gn_items.specs.declared.declaration.Declaration.{Declaration}
use Rattle.gn_items.specs.declared.item.Item.{Item}
use Rattle.gn_items.specs.declared.written.Written.{Written}
use Rattle.gn_items.specs.declared.default_toolchain.DefaultToolchain.{DefaultToolchain}
use Rattle.gn_environment.specs.Chains.{is_one_of}
use Rattle.gn_runs.specs.Runs.{Question, content_of, import_of, Content, has_bytes, is_absent, is_too_big, End, ended, wrong, spoiled, needs}
use Rattle.gn_imports.specs.Asked.{imports_asked, in_path_order}
use Rattle.gn_closure.specs.Closure.{In}
use Rattle.gn_closure.specs.Reach.{Unit_key, Setup, Load, Is_reached, Is_generated, Holds}
use Rattle.gn_closure.specs.Least.{IsLoad}
use Rattle.gn_closure.specs.Ground.{Step, Holding}
use Rattle.gn_closure.specs.Computed.{same_unit, all_facts}
use Rattle.gn_core.specs.Keys.{Leaving, early, usual, Key, Read, Import, Unit_of, Resolve, layer_of, Answer, found, import_is, no_value, unit_is, record_is, content_in, Filed, units}
use Rattle.gn_core.specs.Worlds.{World, all_meanings}
use Rattle.gn_core.specs.Counted.{units_reached, unit_asks, exceeds_limits}
use Rattle.gn_core.specs.Machine.{IsNeeded, asked_in}
use Rattle.gn_projects.specs.Files.{Files}
use Rattle.gn_projects.specs.Worlds.{world_of}
use Rattle.gn_projects.specs.Errors.{too_large, default_told, shown_of_layer}
use Rattle.gn_projects.specs.Computed.{faults_of, least_of}

-- What executions leave

-- what an execution leaves beside its variables
abbrev pub effects_in : {A : Type 0} → End (Leaving A) → Effects
effects_in (ended left) = left.effects
effects_in (wrong fault) = no_effects
effects_in (spoiled path place) = no_effects
effects_in (needs question place) = no_effects

-- the same of the answer of a key
abbrev pub effects_of : Option Answer → Effects
effects_of None = no_effects
effects_of (Some (found content)) = no_effects
effects_of (Some (import_is run)) = effects_in run.end
effects_of (Some (no_value path place asked)) = no_effects
effects_of (Some (unit_is run)) = effects_in run.end
effects_of (Some (record_is bytes)) = no_effects

-- Order

-- these, each once, in the order of some texts by which they differ
abbrev pub in_order_by : {A : Type 0} → (A → List (List ℕ)) → List A → List A
in_order_by texts xs = map (λ e. e.1) (entries (from_entries {R = slice_cmp (slice_cmp nat_cmp)} (map (λ x. (texts x, x)) xs)))

-- The texts by which executions are in order: by toolchain, with the default one first, which the keys of its build configuration and of what that imports
-- name by the empty text; of each toolchain first the build configuration, then what it imports, by path, the other imports, by path, and the build files,
-- by directory
abbrev pub execution_texts : List ℕ → Key → List (List ℕ)
execution_texts default (Unit_of (Setup toolchain)) = toolchain_key [] toolchain ∷ (0 ∷ []) ∷ [] ∷ []
execution_texts default (Import (early toolchain) path) = toolchain_key [] toolchain ∷ (1 ∷ []) ∷ path ∷ []
execution_texts default (Import (usual toolchain) path) = toolchain_key default toolchain ∷ (2 ∷ []) ∷ path ∷ []
execution_texts default (Unit_of (Load dir toolchain)) = toolchain_key default toolchain ∷ (3 ∷ []) ∷ dir ∷ []
execution_texts default (Read path) = []
execution_texts default (Resolve label) = []

-- What a build needs

-- the executions that a unit needs: its own, and those of the imports that it asks for, directly or through others
abbrev pub executions_of_unit : World → Unit_key → List Key
executions_of_unit w unit = Unit_of unit ∷ map (Import (layer_of unit)) (imports_asked (unit_asks w unit))

-- those of all units that are reached
unfoldable pub executions_needed : World → List Key
executions_needed w = flat_map (executions_of_unit w) (units_reached w)

-- the labels that are generated
abbrev pub label_in_step : Step → List Label
label_in_step (Holding (Is_generated label)) = label ∷ []
label_in_step _ = []

unfoldable pub labels_generated : World → List Label
labels_generated w = flat_map label_in_step (all_facts w.home (units (all_meanings w)))

-- the default toolchain, as the build configuration names it
abbrev pub default_meant : World → List ℕ
default_meant w = default_told (units (all_meanings w) (Setup []))

unfoldable pub executions_in_order : World → List Key
executions_in_order w = in_order_by (execution_texts (default_meant w)) (executions_needed w)

-- Files

-- there is a file, by what is known of its path
abbrev pub is_there : Option Content → Bool
is_there None = false
is_there (Some (has_bytes bytes)) = true
is_there (Some is_absent) = false
is_there (Some is_too_big) = true

-- the first file that is asked for and is there, if there is one
abbrev pub first_there : Filed → List Question → List (List ℕ)
first_there filed [] = []
first_there filed (content_of path ∷ questions) = if is_there (content_in (filed (Read path))) then path ∷ [] else first_there filed questions
first_there filed (import_of path ∷ questions) = first_there filed questions

-- the file that is loaded as a build file: the first one there is for which the execution of its directory asks
abbrev pub loaded_by_key : Filed → Key → List (List ℕ)
loaded_by_key filed (Unit_of (Load dir toolchain)) = first_there filed (asked_in (filed (Unit_of (Load dir toolchain))))
loaded_by_key filed (Unit_of (Setup toolchain)) = []
loaded_by_key filed (Read path) = []
loaded_by_key filed (Import layer path) = []
loaded_by_key filed (Resolve label) = []

-- the file that is imported
abbrev pub imported_by_key : Key → List (List ℕ)
imported_by_key (Import layer path) = path ∷ []
imported_by_key (Read path) = []
imported_by_key (Unit_of unit) = []
imported_by_key (Resolve label) = []

-- the toolchain of an execution, as faults have it: the empty text for the default one
abbrev pub shown_of_key : List ℕ → Key → List ℕ
shown_of_key default (Read path) = []
shown_of_key default (Import layer path) = shown_of_layer default layer
shown_of_key default (Unit_of unit) = shown_of_layer default (layer_of unit)
shown_of_key default (Resolve label) = []

-- the files that an execution has written, in order, and its toolchain, as faults have it
pub record FilesWritten : Type 0 where
  pub toolchain : List ℕ
  pub files : List Written

abbrev pub written_under : List ℕ → List Written → List FilesWritten
written_under toolchain files = record { toolchain = toolchain; files = files } ∷ []

-- what an execution has written
abbrev pub written_by_key : List ℕ → Filed → Key → List FilesWritten
written_by_key default filed k = written_under (shown_of_key default k) (effects_of (filed k)).written

-- of these executions the files that are loaded as build files and those that are imported, each once, in the order of the bytes of their paths, and the
-- files that are written, execution by execution
unfoldable pub files_loaded : Filed → List Key → List (List ℕ)
files_loaded filed keys = in_path_order (flat_map (loaded_by_key filed) keys)

unfoldable pub files_imported : List Key → List (List ℕ)
files_imported keys = in_path_order (flat_map imported_by_key keys)

unfoldable pub files_written : List ℕ → Filed → List Key → List FilesWritten
files_written default filed keys = flat_map (written_by_key default filed) keys

-- What a build leaves

-- The text of its default toolchain, what each of its executions leaves, in their order, and the targets that it generates, in label order; the files that
-- it loads as build files and those that it imports, each once, in the order of the bytes of their paths, and those that each of its
-- executions writes
pub record Build : Type 0 where
  pub default : List ℕ
  pub executions : List Effects
  pub generated : List Label
  pub loaded : List (List ℕ)
  pub imported : List (List ℕ)
  pub written : List FilesWritten

-- the lines that an execution has printed, one behind the other
abbrev pub lines : Effects → List ℕ
lines effects = flat_map (λ text. text) effects.prints

-- all lines of a build
abbrev pub lines_of_build : Build → List ℕ
lines_of_build build = flat_map lines build.executions

-- the arguments that its executions have declared
abbrev pub declared_by_build : Build → List Declaration
declared_by_build build = flat_map (λ (e : Effects). e.declared) build.executions

-- the items that they have defined
abbrev pub items_of_build : Build → List Item
items_of_build build = flat_map (λ (e : Effects). e.items) build.executions

-- the default toolchain as the first of these executions has named it, if it has
abbrev pub named_first : List Effects → Option DefaultToolchain
named_first [] = None
named_first (effects ∷ rest) = effects.default_toolchain

-- the default toolchain as the first execution of a build has named it, which is that of the build configuration
abbrev pub default_named : Build → Option DefaultToolchain
default_named build = named_first build.executions

unfoldable pub build_meant : World → Build
build_meant w = record {
  default = default_meant w;
  executions = map (λ k. effects_of (all_meanings w k)) (executions_in_order w);
  generated = in_order_by (order_key (default_meant w)) (labels_generated w);
  loaded = files_loaded (all_meanings w) (executions_in_order w);
  imported = files_imported (executions_in_order w);
  written = files_written (default_meant w) (all_meanings w) (executions_in_order w);
}

-- How many build files are loaded

-- so many, or no more than are reached
pub data UnitCount : Type 0 where
  Exactly : ℕ → UnitCount
  UpTo : World → UnitCount

-- there are so many build files that are reached, or more
abbrev pub AreReached : World → ℕ → Type 0
AreReached w n = (ks : List Unit_key) × IsDistinct same_unit ks × (n ≤ length ks) × ((k : Unit_key) → In ks k → IsLoad k × Holds w.home (units (all_meanings w)) (Is_reached k))

-- how many build files are loaded is just as many as the count says, or no more
abbrev pub IsCount : ℕ → UnitCount → Type 0
IsCount units (Exactly n) = units ≡ n
IsCount units (UpTo w) = AreReached w units

abbrev pub IsWithin : ℕ → UnitCount → Type 0
IsWithin units (Exactly n) = units ≤ n
IsWithin units (UpTo w) = AreReached w units

abbrev pub is_build_file : Key → Bool
is_build_file (Unit_of (Load dir toolchain)) = true
is_build_file _ = false

-- how many build files are reached
unfoldable pub files_reached : World → ℕ
files_reached w = length (filter is_build_file (executions_in_order w))

-- The build

-- an error, and how many build files are loaded before it
pub record Failure : Type 0 where
  pub fault : Fault
  pub units : UnitCount

-- a build that is no larger than the limits: its least fault, or what it leaves. It is loaded to its end also where it has a fault
abbrev pub loaded_by : World → Option Fault → Result Build Failure
loaded_by w None = Ok (build_meant w)
loaded_by w (Some fault) = Err (record { fault = fault; units = Exactly (files_reached w) })

-- what a build leaves, or its error, where the files at some paths are known before
unfoldable pub loaded : List (List ℕ) → Files → Result Build Failure
loaded known files =
    if exceeds_limits (world_of files) (λ path. is_one_of path known)
    then Err (record { fault = too_large; units = UpTo (world_of files) })
    else loaded_by (world_of files) (least_of (faults_of (world_of files)))

-- a file is read that units ask for which are reached, directly or through imports
abbrev pub IsAskedFor : Files → List ℕ → Type 0
IsAskedFor files path = IsNeeded (world_of files) (all_meanings (world_of files)) (Read path)
