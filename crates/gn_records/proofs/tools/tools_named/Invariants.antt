use Rattle.std.proofs.Common.{◌≡◌, take}
use Rattle.std.specs.List.{flat_map}
use Rattle.gn_records.specs.Around.{around}
use Rattle.gn_records.specs.ToolTexts.{tool_named}
use Rattle.gn_records.proofs.tools.tools_named.Given as goal

abbrev pub invariant-loop-name : goal.invariant-loop-name
invariant-loop-name l = l.tools.items ≡ flat_map (tool_named (around l.context)) (take l.name-index l.names)
