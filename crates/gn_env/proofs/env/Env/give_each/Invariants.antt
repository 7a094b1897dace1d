use Rattle.std.proofs.Common.{◌≡◌, map}
use Rattle.std.specs.Vec.Iter.{into_iter_items}
use Rattle.gn_values.specs.View.{entry_of}
use Rattle.gn_environment.specs.Templates.{table_given}
use Rattle.gn_env.proofs.env.Env.give_each.Given as goal

abbrev pub invariant-loop-entry : goal.invariant-loop-entry
invariant-loop-entry l =
    (goal.iterator-loop-entry).can_next l.entry-iterator × (goal.iterator-loop-entry).is_finite l.entry-iterator × (table_given (map entry_of (into_iter_items l.entry-iterator)) l.self ≡ table_given (map entry_of l.fn.values.items) l.fn.self) × (l.self.setting ≡ l.fn.self.setting)
