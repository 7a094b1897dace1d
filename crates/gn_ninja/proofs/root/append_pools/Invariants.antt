use Rattle.std.proofs.Common.{◌≡◌, take, map}
use Rattle.gn_ninja.specs.Format.{with_blocks}
use Rattle.gn_ninja.specs.Root.{pool_block}
use Rattle.gn_ninja.proofs.root.append_pools.Given as goal

abbrev pub invariant-loop-pool : goal.invariant-loop-pool
invariant-loop-pool l = l.text.items ≡ with_blocks l.fn.text.items (map pool_block (take l.pool-index l.pools))
