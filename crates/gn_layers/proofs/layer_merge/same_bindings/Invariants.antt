use Rattle.std.proofs.Common.{◌≡◌, take, map}
use Rattle.gn_values.specs.View.{entry_of}
use Rattle.gn_layers.proofs.layer_merge.same_bindings.Given as goal

abbrev pub invariant-loop-i : goal.invariant-loop-i
invariant-loop-i l = take l.i (map entry_of l.lefts) ≡ take l.i (map entry_of l.rights)
