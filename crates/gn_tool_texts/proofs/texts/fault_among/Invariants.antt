use Rattle.std.proofs.Common.{◌≡◌, take}
use Rattle.std.specs.List.{flat_map}
use Rattle.gn_writing.specs.Outputs.{values_of}
use Rattle.gn_records.specs.Expanding.{given_by}
use Rattle.gn_tool_texts.specs.Least.{least}
use Rattle.gn_tool_texts.specs.Texts.{faults_where_used}
use Rattle.gn_tool_texts.proofs.texts.fault_among.Given as goal

abbrev pub invariant-loop-text : goal.invariant-loop-text
invariant-loop-text l = l.least ≡ least (flat_map (faults_where_used (values_of l.by.names.now) (given_by l.by)) (take l.text-index l.texts))
