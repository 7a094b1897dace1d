use Rattle.std.proofs.Common.{take, map}
use Rattle.gn_values.specs.Members.{HasIntegers}
use Rattle.gn_values.specs.View.{val_of}
use Rattle.gn_values.proofs.value.difference.integers_of.Given as goal

abbrev pub invariant-loop-value : goal.invariant-loop-value
invariant-loop-value l = HasIntegers l.integers (take l.value-index (map val_of l.values))
