use Rattle.std.proofs.Common.{◌≡◌, map, drop}
use Rattle.gn_values.specs.View.{entry_of}
use Rattle.gn_environment.specs.Imports.{first_name, invoker_brought}
use Rattle.gn_env.proofs.env.Env.invoker_brought.Given as goal

abbrev pub invariant-loop-entry : goal.invariant-loop-entry
invariant-loop-entry l =
    first_name (invoker_brought l.self) (map entry_of (drop l.entry-index l.entry-items)) ≡ first_name (invoker_brought l.self) l.values
