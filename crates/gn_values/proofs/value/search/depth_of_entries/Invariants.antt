use Rattle.std.proofs.Common.{◌≡◌, ◌≤◌, take, map}
use Rattle.gn_values.specs.Val.{binds_of, deepest_entry}
use Rattle.gn_values.specs.View.{entry_of}
use Rattle.gn_values.proofs.value.search.depth_of_entries.Given as goal

abbrev pub invariant-loop-entry : goal.invariant-loop-entry
invariant-loop-entry l =
    (l.deepest ≡ deepest_entry (binds_of (take l.entry-index (map entry_of l.entries)))) × (l.deepest ≤ 200)
