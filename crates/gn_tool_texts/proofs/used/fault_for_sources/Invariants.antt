use Rattle.std.proofs.Common.{◌≡◌, take}
use Rattle.std.specs.List.{flat_map}
use Rattle.gn_writing.specs.Outputs.{values_of}
use Rattle.gn_records.specs.Around.{around}
use Rattle.gn_tool_texts.specs.Least.{least}
use Rattle.gn_tool_texts.specs.Used.{faults_for_source}
use Rattle.gn_tool_texts.proofs.used.fault_for_sources.Given as goal

abbrev pub invariant-loop-source : goal.invariant-loop-source
invariant-loop-source l = l.least ≡ least (flat_map (faults_for_source (around l.context) l.item (values_of l.names)) (take l.source-index l.sources))
