use Rattle.std.proofs.Common.{◌≡◌, take, map}
use Rattle.gn_values.specs.View.{val_of}
use Rattle.gn_calls_text.proofs.lists.copy_into.Given as goal

abbrev pub invariant-loop-value : goal.invariant-loop-value
invariant-loop-value l = l.items ≡ take l.value-index (map val_of l.values)
