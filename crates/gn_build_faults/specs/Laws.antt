-- What holds of targets of which no fault is told.
use Rattle.std.specs.Prelude.{◌≡◌, ℕ, List, None, true}
use Rattle.gn_labels.specs.declared.label.Label.{Label}
use Rattle.gn_dependencies.specs.Lists.{has}
use Rattle.gn_items.specs.declared.item.Item.{Item}
use Rattle.gn_labelled.specs.Graphs.{shape_of}
use Rattle.gn_resolved_meant.specs.Along.{EndsIn}
use Rattle.gn_resolved_meant.specs.Laws.{IsClosed}
use Rattle.gn_toolchains.specs.Toolchains.{Surroundings}
use Rattle.gn_build_faults.specs.Labels.{fault_of_labels}
use Rattle.gn_build_faults.specs.Reaching.{labels_in, targets_of}

-- where a list has the dependencies of its targets and no fault of them is told, each reaches no cycle
abbrev pub FaultlessTargetsEnd : Type 0
FaultlessTargetsEnd = (s : Surroundings) (items : List Item) (us : List Label) → IsClosed (shape_of items) us → fault_of_labels s items us ≡ None
    → (u : Label) → has us u ≡ true → EndsIn (labels_in items) (shape_of items) u

-- the targets of which faults are told have their dependencies among them
abbrev pub TargetsAreClosed : Type 0
TargetsAreClosed = (default : List ℕ) (items : List Item) (generated : List Label) → IsClosed (shape_of items) (targets_of default items generated)

-- and those that are generated
abbrev pub GeneratedAreTargets : Type 0
GeneratedAreTargets = (default : List ℕ) (items : List Item) (generated : List Label) (t : Label) → has generated t ≡ true → has (targets_of default items generated) t ≡ true
