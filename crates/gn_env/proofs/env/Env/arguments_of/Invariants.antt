use Rattle.std.proofs.Common.{◌≡◌, ◌++◌, map}
use Rattle.std.specs.Vec.Iter.{into_iter_items}
use Rattle.gn_values.specs.View.{entry_of}
use Rattle.gn_environment.specs.Declaring.{argument_of}
use Rattle.gn_env.specs.Arguments.{argument_state}
use Rattle.gn_env.proofs.env.Env.arguments_of.Given as goal

abbrev pub invariant-loop-entry : goal.invariant-loop-entry
invariant-loop-entry l =
    (goal.iterator-loop-entry).can_next l.entry-iterator × (goal.iterator-loop-entry).is_finite l.entry-iterator × (map argument_state l.arguments.items ++ map (argument_of l.position l.self) (map entry_of (into_iter_items l.entry-iterator)) ≡ map (argument_of l.position l.self) (map entry_of l.fn.entries.items))
