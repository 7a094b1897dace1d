use Rattle.std.proofs.Common.{◌≡◌, map}
use Rattle.gn_values.specs.Tables.{with_names}
use Rattle.gn_layers.specs.Named.{texted}
use Rattle.gn_layers.specs.View.{pair_value, value_pairs}
use Rattle.gn_layers.proofs.laid.lay_variables.Given as goal

abbrev pub invariant-loop-number : goal.invariant-loop-number
invariant-loop-number l =
    with_names (texted l.names (map pair_value l.number-iterator)) (value_pairs l.lower.entries) ≡ with_names (texted l.names (map pair_value l.upper.entries)) (value_pairs l.fn.lower.entries)
