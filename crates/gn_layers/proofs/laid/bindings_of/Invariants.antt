use Rattle.std.proofs.Common.{◌≡◌, ◌++◌}
use Rattle.gn_values.specs.Val.{IsSortedByName}
use Rattle.gn_layers.specs.View.{value_pairs}
use Rattle.gn_layers.proofs.laid.bindings_of.Given as goal

abbrev pub invariant-loop-name : goal.invariant-loop-name
invariant-loop-name l =
    (l.bindings ++ value_pairs l.name-iterator ≡ value_pairs l.fn.values.entries) × IsSortedByName (value_pairs l.fn.values.entries)
