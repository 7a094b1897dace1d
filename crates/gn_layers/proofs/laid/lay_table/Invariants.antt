use Rattle.std.proofs.Common.{◌≡◌}
use Rattle.gn_values.specs.Tables.{with_names}
use Rattle.gn_layers.proofs.laid.lay_table.Given as goal

abbrev pub invariant-loop-name : goal.invariant-loop-name
invariant-loop-name g l = with_names l.name-iterator l.lower.entries ≡ with_names l.upper.entries l.fn.lower.entries
