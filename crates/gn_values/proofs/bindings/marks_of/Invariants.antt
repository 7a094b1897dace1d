use Rattle.std.proofs.Common.{map, take}
use Rattle.gn_text.specs.Marks.{AllMarked}
use Rattle.gn_values.specs.Val.{names_of}
use Rattle.gn_values.specs.View.{entry_of}
use Rattle.gn_values.proofs.bindings.marks_of.Given as goal

abbrev pub invariant-loop-entry : goal.invariant-loop-entry
invariant-loop-entry l = AllMarked l.marks (names_of (take l.entry-index (map entry_of l.entries)))
