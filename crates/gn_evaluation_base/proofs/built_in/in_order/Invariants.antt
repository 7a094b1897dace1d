use Rattle.std.proofs.Common.{◌≡◌, [], map}
use Rattle.std.specs.Vec.Iter.{into_iter_items}
use Rattle.gn_values.specs.Tables.{with_names}
use Rattle.gn_values.specs.View.{entry_of}
use Rattle.gn_evaluation_base.proofs.built_in.in_order.Given as goal

abbrev pub invariant-loop-entry : goal.invariant-loop-entry
invariant-loop-entry l =
    (goal.iterator-loop-entry).can_next l.entry-iterator × (goal.iterator-loop-entry).is_finite l.entry-iterator × (with_names (map entry_of (into_iter_items l.entry-iterator)) l.bindings ≡ with_names (map entry_of l.fn.entries.items) [])
