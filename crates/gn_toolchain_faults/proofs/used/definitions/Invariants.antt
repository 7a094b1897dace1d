use Rattle.std.proofs.Common.{◌≡◌, ◌++◌, drop}
use Rattle.gn_toolchains.specs.Toolchains.{lent}
use Rattle.gn_toolchain_faults.specs.Used.{definitions}
use Rattle.gn_toolchain_faults.proofs.used.definitions.Given as goal

abbrev pub invariant-loop-item : goal.invariant-loop-item
invariant-loop-item l = definitions (lent l.items) ≡ lent l.found.items ++ definitions (lent (drop l.item-index l.items))
