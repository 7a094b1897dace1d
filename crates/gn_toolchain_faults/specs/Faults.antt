-- The faults of toolchains.
use Rattle.std.specs.Prelude.{ℕ, Bool, List, [], ◌∷◌, ◌&&◌, Option, Some, None, option_map, codes, if◌then◌else◌}
use Rattle.std.specs.List.{list_any, filter_map}
use Rattle.std.specs.Option.{option_or}
use Rattle.std.specs.Str.{bytes_eq}
use Rattle.gn_paths.specs.Resolve.{path_meant}
use Rattle.gn_labels.specs.declared.label.Label.{Label}
use Rattle.gn_labels.specs.Labels.{spelling, is_before}
use Rattle.gn_calls_path.specs.Directories.{or_directory, out_directory}
use Rattle.gn_faults.specs.declared.code.Code.{Code}
use Rattle.gn_faults.specs.declared.code.Code.TheVariants.{SameOutput}
use Rattle.gn_faults.specs.declared.stage.Stage.TheVariants.{Graph}
use Rattle.gn_faults.specs.declared.fault.Fault.{Fault}
use Rattle.gn_graph_faults.specs.Faults.{fault_told, toolchain_told}
use Rattle.gn_items.specs.declared.item.Item.{Item}
use Rattle.gn_toolchains.specs.Toolchains.{Surroundings}
use Rattle.gn_toolchain_faults.specs.declared.pools.Wrong.{Wrong}
use Rattle.gn_toolchain_faults.specs.declared.pools.Wrong.TheVariants.{Missing, Foreign}
use Rattle.gn_toolchain_faults.specs.declared.fault.ToolchainFault.{ToolchainFault}
use Rattle.gn_toolchain_faults.specs.Least.{least}
use Rattle.gn_toolchain_faults.specs.Used.{used}
use Rattle.gn_toolchain_faults.specs.Pools.{code_of, wrong_pool}

-- a pool of the tools of a toolchain, if there is one, is told by a fault of this code
abbrev pub pool_told : (default : List ℕ) → Item → Code → Option Label → Option Fault
pool_told default item code None = None
pool_told default item code (Some pool) = Some (fault_told default (Some item.place) item.label code (pool ∷ []))

abbrev pub pool_fault : (default : List ℕ) → List Item → Wrong → Item → Option Fault
pool_fault default items wrong item = pool_told default item (code_of wrong) (wrong_pool wrong default items item.tools)

-- the file of a toolchain stands in its output directory
abbrev pub file_in : (out : List ℕ) → List ℕ
file_in out = or_directory out (path_meant out (codes "toolchain.ninja"))

abbrev pub file_of : Surroundings → Label → List ℕ
file_of s label = file_in (out_directory s.build s.default (spelling label.dir label.name))

abbrev pub file_told : Surroundings → Item → Fault
file_told s item = record {
  stage = Graph;
  place = Some item.place;
  toolchain = toolchain_told s.default item.label.toolchain;
  code = SameOutput;
  detail = file_of s item.label ∷ [];
}

-- whether another toolchain stands before this one in label order and has its name, and whether one of several does
abbrev pub is_namesake : (default : List ℕ) → Item → (other : Item) → Bool
is_namesake default item other = is_before default other.label item.label && bytes_eq other.label.name item.label.name

abbrev pub has_namesake : (default : List ℕ) → Item → List Item → Bool
has_namesake default item others = list_any (is_namesake default item) others

abbrev pub name_told : Surroundings → List Item → Item → Option Fault
name_told s toolchains item = if has_namesake s.default item toolchains then Some (file_told s item) else None

-- The fault of one of these toolchains: a pool that one of its tools names and no item has, then one that is no pool, then a name that
-- one of them before it has
unfoldable pub fault_of : Surroundings → List Item → (toolchains : List Item) → Item → Option Fault
fault_of s items toolchains item =
    option_or (pool_fault s.default items Missing item) (option_or (pool_fault s.default items Foreign item) (name_told s toolchains item))

-- a fault beside the label of its toolchain
abbrev pub beside : Label → Fault → ToolchainFault
beside label fault = record { label = label; fault = fault }

abbrev pub told_of : Surroundings → List Item → (toolchains : List Item) → Item → Option ToolchainFault
told_of s items toolchains item = option_map (beside item.label) (fault_of s items toolchains item)

-- the label of a fault's toolchain
abbrev pub label_of : ToolchainFault → Label
label_of told = told.label

-- the fault of the first in label order of these toolchains that have one
abbrev pub fault_among : Surroundings → List Item → (toolchains : List Item) → Option ToolchainFault
fault_among s items toolchains = least label_of s.default (filter_map (told_of s items toolchains) toolchains)

-- the fault that is told of the toolchains that targets use, by what never changes in a build and by the items of the build
unfoldable pub toolchain_fault : Surroundings → List Item → List Label → Option ToolchainFault
toolchain_fault s items targets = fault_among s items (used s.default items targets)
