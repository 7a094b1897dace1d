-- No fault is told of the targets of a build whose graph has none.
use Rattle.std.proofs.Common.{ℕ, List, ◌≡◌, Option, None, Some, ap, ◌∙◌}
use Rattle.gn_labels.specs.declared.label.Label.{Label}
use Rattle.gn_items.specs.declared.item.Item.{Item}
use Rattle.gn_faults.specs.declared.fault.Fault.{Fault}
use Rattle.gn_projects.specs.Loaded.{Build, items_of_build}
use Rattle.gn_build_faults.specs.Faults.{first_of}
use Rattle.gn_build_faults.specs.Labels.{fault_of_labels}
use Rattle.gn_build_faults.specs.Reaching.{targets_of}
use Rattle.gn_toolchains.specs.Toolchains.{Surroundings}
use Rattle.gn_top.specs.GraphFaults.{targets_in, label_fault, graph_fault}

behind_none : (f g : Option Fault) → first_of f g ≡ None → g ≡ None
behind_none None g h = h
behind_none (Some x) g h = absurd (cc h)

pub labels_faultless : (s : Surroundings) (build : Build) → graph_fault s build ≡ None → fault_of_labels s (items_of_build build) (targets_in build) ≡ None
unfolding label_fault
labels_faultless s build h = behind_none _ _ h
