use Rattle.std.proofs.Common.{◌≡◌, ◌≤◌, drop, length}
use Rattle.gn_layers.specs.Kept.{layers_texted_over}
use Rattle.gn_scopes.proofs.named_copies.lay_layers.Given as goal

abbrev pub invariant-loop-i : goal.invariant-loop-i
invariant-loop-i l = record {
  within : l.i ≤ length l.layers.items;
  laid : l.lower ≡ layers_texted_over l.names (drop l.i l.layers.items) l.fn.lower;
}

abbrev pub decreases-loop-i : goal.decreases-loop-i
decreases-loop-i l = l.i
