use Rattle.std.proofs.Common.{◌≡◌, drop}
use Rattle.gn_define.specs.Fields.{entries_of}
use Rattle.gn_records.specs.Bound.{fields_use}
use Rattle.gn_records.proofs.bound.entries_use.Given as goal

abbrev pub invariant-loop-entry : goal.invariant-loop-entry
invariant-loop-entry l = fields_use l.substitution (entries_of (drop l.entry-index l.entries)) ≡ fields_use l.substitution (entries_of l.entries)
