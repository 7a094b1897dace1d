use Rattle.std.proofs.Common.{◌≡◌, take, None}
use Rattle.gn_environment.specs.Chains.{variable_of}
use Rattle.gn_scopes.proofs.scopes.find.Given as goal

abbrev pub invariant-loop-i : goal.invariant-loop-i
invariant-loop-i l = variable_of l.name (take l.i l.layers.items) ≡ None
