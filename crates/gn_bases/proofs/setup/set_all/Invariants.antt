use Rattle.std.proofs.Common.{◌≡◌, drop, map}
use Rattle.gn_values.specs.Tables.{with_names}
use Rattle.gn_values.specs.View.{entry_of}
use Rattle.gn_bases.proofs.setup.set_all.Given as goal

abbrev pub invariant-loop-entry : goal.invariant-loop-entry
invariant-loop-entry l = with_names (map entry_of (drop l.entry-index l.entries)) l.overrides ≡ with_names (map entry_of l.entries) l.fn.overrides
