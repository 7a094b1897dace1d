use Rattle.std.proofs.Common.{◌≡◌, take}
use Rattle.std.specs.List.{fold}
use Rattle.gn_files.specs.Files.{with_pools_of_tools}
use Rattle.gn_files.specs.Known.{known}
use Rattle.gn_files.proofs.used.put_pools_of_toolchains.Given as goal

abbrev pub invariant-loop-toolchain : goal.invariant-loop-toolchain
invariant-loop-toolchain l = l.pools.entries ≡ fold (with_pools_of_tools l.project.surroundings.default.now (known l.project)) l.fn.pools.entries (take l.toolchain-index l.toolchains)
