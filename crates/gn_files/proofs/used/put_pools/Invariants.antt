use Rattle.std.proofs.Common.{◌≡◌, take}
use Rattle.gn_files.specs.Files.{with_pools}
use Rattle.gn_files.proofs.used.put_pools.Given as goal

abbrev pub invariant-loop-pool : goal.invariant-loop-pool
invariant-loop-pool l = l.pools.entries ≡ with_pools l.default l.fn.pools.entries (take l.pool-index l.named)
