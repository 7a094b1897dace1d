use Rattle.std.proofs.Common.{◌≡◌, drop}
use Rattle.gn_items.specs.Tools.{has_name}
use Rattle.gn_needed_tools.proofs.missing.has_name.Given as goal

abbrev pub invariant-loop-tool : goal.invariant-loop-tool
invariant-loop-tool l = has_name l.name (drop l.tool-index l.tools) ≡ has_name l.name l.tools
