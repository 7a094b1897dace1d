use Rattle.std.proofs.Common.{◌≡◌, drop}
use Rattle.gn_items.specs.Tools.{tool_at}
use Rattle.gn_items.proofs.tools.first_named.Given as goal

abbrev pub invariant-loop-tool : goal.invariant-loop-tool
invariant-loop-tool l = tool_at l.name (drop l.tool-index l.tools) ≡ tool_at l.name l.tools
