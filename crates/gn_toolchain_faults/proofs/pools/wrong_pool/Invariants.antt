use Rattle.std.proofs.Common.{◌≡◌, drop, filter, option_map}
use Rattle.std.specs.List.{fold}
use Rattle.gn_toolchain_faults.specs.Least.{earlier, itself, least_label}
use Rattle.gn_toolchain_faults.specs.Pools.{is_wrong, pools_named}
use Rattle.gn_toolchain_faults.proofs.pools.wrong_pool.Given as goal

abbrev pub invariant-loop-tool : goal.invariant-loop-tool
invariant-loop-tool l =
    fold (earlier itself l.default) (option_map (λ x. x.now) l.best) (filter (is_wrong l.wrong l.items) (pools_named (drop l.tool-index l.tools)))
    ≡ least_label l.default (filter (is_wrong l.wrong l.items) (pools_named l.tools))
