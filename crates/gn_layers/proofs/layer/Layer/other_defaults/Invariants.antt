use Rattle.std.proofs.Common.{◌≡◌}
use Rattle.gn_environment.specs.Imports.{first_name, other_defaults}
use Rattle.gn_layers.proofs.layer.Layer.other_defaults.Given as goal

abbrev pub invariant-loop-kind : goal.invariant-loop-kind
invariant-loop-kind l = first_name (other_defaults l.self) l.kind-iterator ≡ first_name (other_defaults l.self) l.defaults.entries
