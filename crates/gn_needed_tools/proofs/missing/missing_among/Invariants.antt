use Rattle.std.proofs.Common.{◌≡◌, take}
use Rattle.gn_needed_tools.specs.Needed.{missing_among}
use Rattle.gn_needed_tools.proofs.missing.missing_among.Given as goal

abbrev pub invariant-loop-tool : goal.invariant-loop-tool
invariant-loop-tool l = l.names.items ≡ missing_among l.item l.tools (take l.tool-index l.some)
