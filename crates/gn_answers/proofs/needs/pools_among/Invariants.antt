use Rattle.std.proofs.Common.{◌≡◌, ◌++◌, drop}
use Rattle.std.specs.List.{flat_map}
use Rattle.gn_projects.specs.Needs.{pools_of}
use Rattle.gn_answers.proofs.needs.pools_among.Given as goal

abbrev pub invariant-loop-tool : goal.invariant-loop-tool
invariant-loop-tool l = flat_map pools_of l.tools ≡ l.pools.items ++ flat_map pools_of (drop l.tool-index l.tools)
