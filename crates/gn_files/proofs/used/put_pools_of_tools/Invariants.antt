use Rattle.std.proofs.Common.{◌≡◌, take}
use Rattle.std.specs.List.{fold}
use Rattle.gn_files.specs.Files.{with_pools_of_tool}
use Rattle.gn_files.proofs.used.put_pools_of_tools.Given as goal

abbrev pub invariant-loop-tool : goal.invariant-loop-tool
invariant-loop-tool l = l.pools.entries ≡ fold (with_pools_of_tool l.default) l.fn.pools.entries (take l.tool-index l.tools)
