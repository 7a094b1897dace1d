use Rattle.std.proofs.Common.{◌≡◌, [], map}
use Rattle.gn_values.specs.Tables.{with_names}
use Rattle.gn_layers.specs.Named.{texted}
use Rattle.gn_layers.specs.View.{pair_value, value_pairs}
use Rattle.gn_layers.proofs.laid.values_by_name.Given as goal

abbrev pub invariant-loop-number : goal.invariant-loop-number
invariant-loop-number l =
    with_names (texted l.names (map pair_value l.number-iterator)) (value_pairs l.values.entries) ≡ with_names (texted l.names (map pair_value l.fn.variables.entries)) []
