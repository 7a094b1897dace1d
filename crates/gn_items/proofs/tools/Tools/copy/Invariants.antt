use Rattle.std.proofs.Common.{◌≡◌, take}
use Rattle.gn_items.proofs.tools.Tools.copy.Given as goal

abbrev pub invariant-loop-tool : goal.invariant-loop-tool
invariant-loop-tool l = l.list.items ≡ take l.tool-index l.tool-items
