use Rattle.std.proofs.Common.{◌≡◌, take, map, false}
use Rattle.gn_values.specs.Operators.{is_among}
use Rattle.gn_values.specs.View.{val_of}
use Rattle.gn_values.proofs.value.difference.is_among.Given as goal

abbrev pub invariant-loop-other : goal.invariant-loop-other
invariant-loop-other l = is_among (val_of l.value) (take l.other-index (map val_of l.values)) ≡ false
