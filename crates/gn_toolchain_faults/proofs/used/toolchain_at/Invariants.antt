use Rattle.std.proofs.Common.{◌≡◌, drop}
use Rattle.gn_toolchains.specs.Toolchains.{lent, toolchain_at}
use Rattle.gn_toolchain_faults.proofs.used.toolchain_at.Given as goal

abbrev pub invariant-loop-item : goal.invariant-loop-item
invariant-loop-item l = toolchain_at l.default l.text (lent (drop l.item-index l.items)) ≡ toolchain_at l.default l.text (lent l.items)
