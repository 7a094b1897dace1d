use Rattle.std.proofs.Common.{◌≡◌, ◌++◌, drop}
use Rattle.std.specs.List.{flat_map}
use Rattle.gn_closure.specs.Computed.{one_pool}
use Rattle.gn_graph.specs.Facts.{rules_in}
use Rattle.gn_graph.specs.Needs.{home}
use Rattle.gn_graph.proofs.unit_rules.pools.Given as goal

abbrev pub invariant-loop-pool : goal.invariant-loop-pool
invariant-loop-pool l =
    rules_in l.initial.rules.items ++ flat_map (one_pool home l.default l.toolchain) l.pools ≡ rules_in l.rules.items ++ flat_map (one_pool home l.default l.toolchain) (drop l.pool-index l.pools)
