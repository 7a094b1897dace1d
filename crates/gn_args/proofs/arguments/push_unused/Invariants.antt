use Rattle.std.proofs.Common.{◌≡◌, ◌++◌, map, take}
use Rattle.gn_values.specs.View.{entry_of}
use Rattle.gn_args.specs.Arguments.{unused_names}
use Rattle.gn_args.proofs.arguments.push_unused.Given as goal

abbrev pub invariant-loop-entry : goal.invariant-loop-entry
invariant-loop-entry l = l.names ≡ l.initial.names ++ unused_names (map entry_of (take l.entry-index l.given)) l.declared
