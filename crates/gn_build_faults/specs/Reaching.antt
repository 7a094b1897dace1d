-- The targets of which faults are told.
use Rattle.std.specs.Prelude.{ℕ, List, map}
use Rattle.gn_labels.specs.declared.label.Label.{Label}
use Rattle.gn_items.specs.declared.item.Item.{Item}
use Rattle.gn_labelled.specs.Graphs.{shape_of}
use Rattle.gn_resolved_meant.specs.Reached.{reached_in}

-- the labels of items
abbrev pub labels_in : List Item → List Label
labels_in items = map (λ (item : Item). item.label) items

-- the targets that are generated and all that dependencies lead to from them, in label order
unfoldable pub targets_of : List ℕ → List Item → List Label → List Label
targets_of default items generated = reached_in (labels_in items) default (shape_of items) generated
