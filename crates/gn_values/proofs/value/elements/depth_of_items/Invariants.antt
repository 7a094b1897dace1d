use Rattle.std.proofs.Common.{◌≡◌, ◌≤◌, take, map}
use Rattle.gn_values.specs.Val.{vals_of, deepest_item}
use Rattle.gn_values.specs.View.{val_of}
use Rattle.gn_values.proofs.value.elements.depth_of_items.Given as goal

abbrev pub invariant-loop-item : goal.invariant-loop-item
invariant-loop-item l =
    (l.deepest ≡ deepest_item (vals_of (take l.item-index (map val_of l.items)))) × (l.deepest ≤ 200)
