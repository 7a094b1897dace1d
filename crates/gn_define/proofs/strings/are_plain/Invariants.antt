use Rattle.std.proofs.Common.{◌≡◌, drop, map}
use Rattle.std.specs.List.{list_all}
use Rattle.gn_values.specs.View.{val_of}
use Rattle.gn_define.specs.Reading.{is_plain}
use Rattle.gn_define.proofs.strings.are_plain.Given as goal

abbrev pub invariant-loop-value : goal.invariant-loop-value
invariant-loop-value l = list_all is_plain (map val_of (drop l.value-index l.values)) ≡ list_all is_plain (map val_of l.values)
