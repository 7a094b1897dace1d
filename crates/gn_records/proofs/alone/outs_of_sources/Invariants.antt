use Rattle.std.proofs.Common.{◌≡◌, take}
use Rattle.std.specs.List.{flat_map}
use Rattle.gn_writing.specs.Outputs.{values_of}
use Rattle.gn_records.specs.Alone.{outs_for}
use Rattle.gn_records.specs.Around.{around}
use Rattle.gn_records.proofs.alone.outs_of_sources.Given as goal

abbrev pub invariant-loop-source : goal.invariant-loop-source
invariant-loop-source l = l.outs ≡ flat_map (outs_for (around l.context) l.item (values_of l.names)) (take l.source-index l.sources)
