use Rattle.std.proofs.Common.{◌≡◌, drop, filter, option_map}
use Rattle.std.specs.List.{fold}
use Rattle.gn_toolchain_faults.specs.Least.{earlier, itself}
use Rattle.gn_toolchain_faults.specs.Pools.{is_wrong}
use Rattle.gn_toolchain_faults.proofs.pools.least_wrong.Given as goal

abbrev pub invariant-loop-pool : goal.invariant-loop-pool
invariant-loop-pool l =
    fold (earlier itself l.default) (option_map (λ x. x.now) l.best) (filter (is_wrong l.wrong l.items) (drop l.pool-index l.pools))
    ≡ fold (earlier itself l.default) (option_map (λ x. x.now) l.first) (filter (is_wrong l.wrong l.items) l.pools)
