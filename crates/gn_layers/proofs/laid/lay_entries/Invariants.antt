use Rattle.std.proofs.Common.{◌≡◌, map, drop}
use Rattle.gn_values.specs.View.{entry_of}
use Rattle.gn_values.specs.Tables.{with_names}
use Rattle.gn_layers.specs.View.{value_pairs}
use Rattle.gn_layers.proofs.laid.lay_entries.Given as goal

abbrev pub invariant-loop-entry : goal.invariant-loop-entry
invariant-loop-entry l =
    with_names (map entry_of (drop l.entry-index l.upper)) (value_pairs l.lower.entries) ≡ with_names (map entry_of l.upper) (value_pairs l.fn.lower.entries)
