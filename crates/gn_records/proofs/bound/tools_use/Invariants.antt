use Rattle.std.proofs.Common.{◌≡◌, drop}
use Rattle.gn_records.specs.Bound.{tools_use}
use Rattle.gn_records.proofs.bound.tools_use.Given as goal

abbrev pub invariant-loop-tool : goal.invariant-loop-tool
invariant-loop-tool l = tools_use l.substitution (drop l.tool-index l.tools) ≡ tools_use l.substitution l.tools
