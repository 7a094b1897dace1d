-- The fault that is told of the labels of a build: of targets, and of the toolchains that they use.
use Rattle.std.specs.Prelude.{ℕ, List, Option, Some, None}
use Rattle.std.specs.List.{filter}
use Rattle.gn_labels.specs.declared.label.Label.{Label}
use Rattle.gn_labels.specs.Labels.{is_before}
use Rattle.gn_items.specs.declared.item.Item.{Item}
use Rattle.gn_faults.specs.declared.fault.Fault.{Fault}
use Rattle.gn_toolchains.specs.Toolchains.{Surroundings}
use Rattle.gn_toolchain_faults.specs.declared.fault.ToolchainFault.{ToolchainFault}
use Rattle.gn_toolchain_faults.specs.Faults.{toolchain_fault}
use Rattle.gn_build_faults.specs.Faults.{first_of, target_fault}

-- the targets that stand before a label
abbrev pub those_before : (default : List ℕ) → Label → List Label → List Label
those_before default l targets = filter (λ t. is_before default t l) targets

-- a fault of a toolchain stands behind those of the targets before its label, and before those of all others
abbrev pub beside_toolchain : Surroundings → List Item → List Label → Option ToolchainFault → Option Fault
beside_toolchain s items targets None = target_fault s items targets
beside_toolchain s items targets (Some told) = first_of (target_fault s items (those_before s.default told.label targets)) (Some told.fault)

-- the first fault, in label order, of these targets and of the toolchains that they use, by what never changes in a build and by its items
unfoldable pub fault_of_labels : Surroundings → List Item → List Label → Option Fault
fault_of_labels s items targets = beside_toolchain s items targets (toolchain_fault s items targets)
