-- The fault of the graph of a build.
use Rattle.std.specs.Prelude.{◌≡◌, ℕ, Bool, List, [], ◌∷◌, false, true, ◌&&◌, Option, Some, None, map, if◌then◌else◌}
use Rattle.std.specs.List.{list_any}
use Rattle.std.specs.Str.{bytes_eq}
use Rattle.gn_faults.specs.declared.fault.Fault.{Fault}
use Rattle.gn_labels.specs.declared.label.Label.{Label}
use Rattle.gn_build_faults.specs.Faults.{first_of}
use Rattle.gn_build_faults.specs.Labels.{fault_of_labels}
use Rattle.gn_build_faults.specs.Made.{made_by}
use Rattle.gn_build_faults.specs.Reaching.{targets_of}
use Rattle.gn_build_faults.specs.Whole.{those_or}
use Rattle.gn_file_faults.specs.Faults.{Facts, file_fault}
use Rattle.gn_file_faults.specs.Writes.{Execution}
use Rattle.gn_items.specs.declared.default_toolchain.DefaultToolchain.{DefaultToolchain}
use Rattle.gn_items.specs.declared.item.Item.{Item}
use Rattle.gn_items.specs.declared.written.Written.{Written}
use Rattle.gn_projects.specs.Loaded.{Build, FilesWritten, declared_by_build, items_of_build, default_named}
use Rattle.gn_toolchains.specs.Toolchains.{Surroundings, is_toolchain}

-- the targets of which faults are told: those that are generated and all that dependencies lead to from them
abbrev pub targets_in : Build → List Label
targets_in build = targets_of build.default (items_of_build build) build.generated

-- they are these, where some are given, and else just those that are generated
abbrev pub AreTargets : Build → Option (List Label) → Type 0
AreTargets build others = those_or build.generated others ≡ targets_in build

-- the fault that is told of targets
unfoldable pub label_fault : Surroundings → Build → Option Fault
label_fault s build = fault_of_labels s (items_of_build build) (targets_in build)

-- whether an item defines the default toolchain as it is named
abbrev pub defines : (default : List ℕ) → DefaultToolchain → Item → Bool
defines default d item =
    is_toolchain item.kind && (bytes_eq item.label.toolchain default && (bytes_eq item.label.dir d.label.dir && bytes_eq item.label.name d.label.name))

abbrev pub is_defined : (default : List ℕ) → List Item → Option DefaultToolchain → Bool
is_defined default items None = false
is_defined default items (Some d) = list_any (defines default d) items

-- what an execution has written
abbrev pub execution_in : FilesWritten → Execution
execution_in w = record { toolchain = w.toolchain; files = w.files }

-- whether an execution has written a file
abbrev pub has_some : List Written → Bool
has_some [] = false
has_some (w ∷ ws) = true

abbrev pub has_written : Execution → Bool
has_written e = has_some e.files

-- what generated targets make, which is asked for only where an execution has written a file
abbrev pub made_where : Surroundings → List Item → List Execution → List Label → List (List ℕ)
made_where s items executions generated = if list_any has_written executions then made_by s items generated else []

-- what a build says of its files
abbrev pub file_facts : Surroundings → Build → Facts
file_facts s build = record {
  declarations = declared_by_build build;
  default = default_named build;
  is_toolchain = is_defined build.default (items_of_build build) (default_named build);
  executions = map execution_in build.written;
  made = made_where s (items_of_build build) (map execution_in build.written) build.generated;
  build = s.build;
  loaded = build.loaded;
  imported = build.imported;
}

-- the least fault of the files of a build
unfoldable pub fault_of_files : Surroundings → Build → Option Fault
fault_of_files s build = file_fault (file_facts s build)

-- faults of files stand before those of labels
abbrev pub graph_fault : Surroundings → Build → Option Fault
graph_fault s build = first_of (fault_of_files s build) (label_fault s build)
