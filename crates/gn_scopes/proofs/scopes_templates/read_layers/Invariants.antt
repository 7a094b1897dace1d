use Rattle.std.proofs.Common.{◌≡◌}
use Rattle.gn_scopes.proofs.ReadLayers.{first_read}
use Rattle.gn_scopes.proofs.scopes_templates.read_layers.Given as goal

abbrev pub invariant-loop-i : goal.invariant-loop-i
invariant-loop-i l = l.layers.items ≡ first_read l.i l.fn.layers.items
