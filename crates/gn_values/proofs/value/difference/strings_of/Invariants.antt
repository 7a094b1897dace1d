use Rattle.std.proofs.Common.{take, map}
use Rattle.gn_values.specs.Members.{HasStrings}
use Rattle.gn_values.specs.View.{val_of}
use Rattle.gn_values.proofs.value.difference.strings_of.Given as goal

abbrev pub invariant-loop-value : goal.invariant-loop-value
invariant-loop-value l = HasStrings l.strings (take l.value-index (map val_of l.values))
