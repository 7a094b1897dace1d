use Rattle.std.proofs.Common.{◌≡◌, take, map}
use Rattle.gn_values.specs.View.{entry_of}
use Rattle.gn_scopes.proofs.copies.copy_entries.Given as goal

abbrev pub invariant-loop-entry : goal.invariant-loop-entry
invariant-loop-entry l = map entry_of l.copies.items ≡ take l.entry-index (map entry_of l.entries)
