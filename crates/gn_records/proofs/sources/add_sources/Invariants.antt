use Rattle.std.proofs.Common.{◌≡◌, ◌++◌, take}
use Rattle.std.specs.List.{flat_map}
use Rattle.gn_writing.specs.Outputs.{values_of}
use Rattle.gn_records.specs.Around.{around}
use Rattle.gn_records.specs.Compiled.{units_for, objects_for}
use Rattle.gn_records.proofs.sources.add_sources.Given as goal

abbrev pub invariant-loop-source : goal.invariant-loop-source
invariant-loop-source l =
    (l.units.items ≡ l.fn.units.items ++ flat_map (units_for (around l.context) l.item (values_of l.names)) (take l.source-index l.sources))
    × (l.objects ≡ l.fn.objects ++ flat_map (objects_for (around l.context) l.item (values_of l.names)) (take l.source-index l.sources))
