use Rattle.std.proofs.Common.{◌≡◌, map, drop}
use Rattle.gn_values.specs.View.{entry_of}
use Rattle.gn_environment.specs.Imports.{first_name, other_value}
use Rattle.gn_scopes.proofs.named_scopes.NamedScopes.other_value.Given as goal

abbrev pub invariant-loop-entry : goal.invariant-loop-entry
invariant-loop-entry l =
    first_name (other_value l.self.inner) (map entry_of (drop l.entry-index l.entry-items)) ≡ first_name (other_value l.self.inner) l.values
