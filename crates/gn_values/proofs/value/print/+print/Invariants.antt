use Rattle.std.proofs.Common.{◌≡◌, ◌++◌, take, map}
use Rattle.gn_values.specs.Val.{vals_of, binds_of}
use Rattle.gn_values.specs.Text.{items_text, entries_text}
use Rattle.gn_values.specs.View.{val_of, entry_of}
use Rattle.gn_values.proofs.value.print.+print.Given as goal

abbrev pub invariant-append_items-loop-index : goal.invariant-append_items-loop-index
invariant-append_items-loop-index l = l.text ≡ l.initial.text ++ items_text (vals_of (take l.index (map val_of l.values)))

abbrev pub invariant-append_entries-loop-entry : goal.invariant-append_entries-loop-entry
invariant-append_entries-loop-entry l = l.text ≡ l.initial.text ++ entries_text (binds_of (take l.entry-index (map entry_of l.entry-items)))
