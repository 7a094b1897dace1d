use Rattle.std.proofs.Common.{◌≡◌, drop}
use Rattle.gn_define.specs.Fields.{field_at, entries_of}
use Rattle.gn_define.proofs.fields.field_at.Given as goal

abbrev pub invariant-loop-entry : goal.invariant-loop-entry
invariant-loop-entry l = field_at (entries_of (drop l.entry-index l.entries)) l.variable ≡ field_at (entries_of l.entries) l.variable
