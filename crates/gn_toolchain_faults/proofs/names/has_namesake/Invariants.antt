use Rattle.std.proofs.Common.{◌≡◌, drop}
use Rattle.gn_toolchains.specs.Toolchains.{lent}
use Rattle.gn_toolchain_faults.specs.Faults.{has_namesake}
use Rattle.gn_toolchain_faults.proofs.names.has_namesake.Given as goal

abbrev pub invariant-loop-other : goal.invariant-loop-other
invariant-loop-other l = has_namesake l.default l.item (lent (drop l.other-index l.others)) ≡ has_namesake l.default l.item (lent l.others)
