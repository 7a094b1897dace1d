use Rattle.std.proofs.Common.{◌≡◌, ◌++◌, take}
use Rattle.std.specs.List.{flat_map}
use Rattle.gn_records.specs.Made.{further_outs}
use Rattle.gn_records.proofs.further.add_further.Given as goal

abbrev pub invariant-loop-unit : goal.invariant-loop-unit
invariant-loop-unit l = l.outs ≡ l.fn.outs ++ flat_map further_outs (take l.unit-index l.units)
